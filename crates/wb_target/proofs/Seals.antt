-- Looks at seals, one run of them behind another.
use Rattle.std.proofs.Common.{◌≡◌, ◌∙◌, ◌+◌, ◌++◌, ℕ, suc, Bool, List, [], ◌∷◌, Option, Some, refl, sym, ap, subst, arith, map, if◌then◌else◌}
use Rattle.std.proofs.lemmas.List.{append_assoc, map-append}
use Rattle.wb_tree.specs.Mapping.{Mapping, entry_at}
use Rattle.wb_words.specs.SharedWords.{dirty_in}
use Rattle.wb_words.specs.declared.card.Card.{Card}
use Rattle.wb_words.specs.declared.word.Word.{Word}
use Rattle.wb_words.specs.declared.word.Word.TheVariants.{Seal as SealWord}
use Rattle.wb_types.specs.declared.entry.Entry.{Entry}
use Rattle.wb_target.specs.Suspends.{mapped_block}
use Rattle.wb_target.specs.Shown.{SawDirty, dirty_among, seals_latest_first}

-- one alone
pub saw_one : (before after : Card) (word : Word) (x : ℕ) → after.saw ≡ (word, x) ∷ before.saw → SawDirty before after (word ∷ []) (if dirty_in x then 1 else 0)
saw_one before after word x saw = record { looks = (word, x) ∷ []; saw = saw; words_are = refl; dirty_are = omega (arith) }

dirty_append : (xs ys : List (Word × ℕ)) → dirty_among (xs ++ ys) ≡ dirty_among xs + dirty_among ys
dirty_append [] ys = omega (arith)
dirty_append (x ∷ xs) ys = omega (arith, dirty_append xs ys)

pub saw_more : (first mid last : Card) (words more : List Word) (dirty others : ℕ) → SawDirty first mid words dirty → SawDirty mid last more others → SawDirty first last (more ++ words) (dirty + others)
saw_more first mid last words more dirty others one two = record {
  looks = two.looks ++ one.looks;
  saw = two.saw ∙ ap (λ (rest : List (Word × ℕ)). two.looks ++ rest) one.saw ∙ sym (append_assoc two.looks one.looks first.saw);
  words_are = map-append (λ (look : Word × ℕ). look.0) two.looks one.looks ∙ ap (λ (ws : List Word). ws ++ map (λ (look : Word × ℕ). look.0) one.looks) two.words_are ∙ ap (λ (ws : List Word). more ++ ws) one.words_are;
  dirty_are = omega (arith, one.dirty_are, two.dirty_are, dirty_append two.looks one.looks);
}

-- ---- what a look at one cache block showed

pub at_seal : (found : Option Entry) (entry : Entry) (before after : Card) (x : ℕ) (b : Bool) → found ≡ Some entry → after.saw ≡ (SealWord entry.origin, x) ∷ before.saw → dirty_in x ≡ b
    → SawDirty before after (map SealWord (mapped_block found)) (if b then 1 else 0)
at_seal found entry before after x b is saw dirty =
    subst (λ (e : Option Entry). SawDirty before after (map SealWord (mapped_block e)) (if b then 1 else 0)) (sym is)
    (subst (λ (d : Bool). SawDirty before after (SealWord entry.origin ∷ []) (if d then 1 else 0)) dirty (saw_one before after (SealWord entry.origin) x saw))

-- ---- and at the next one, behind those before it

pub saw_next : (tree : Mapping) (c : ℕ) (first mid last : Card) (dirty here all : ℕ) (at : Mapping) → at ≡ tree → all ≡ dirty + here
    → SawDirty first mid (seals_latest_first tree c) dirty → SawDirty mid last (map SealWord (mapped_block (entry_at at c))) here → SawDirty first last (seals_latest_first tree (c + 1)) all
saw_next tree c first mid last dirty here all at trees sum one two =
    let next : suc c ≡ c + 1 = omega (arith) in
    subst (λ (k : ℕ). SawDirty first last (seals_latest_first tree k) all) next
    (subst (λ (n : ℕ). SawDirty first last (seals_latest_first tree (suc c)) n) (sym sum)
    (saw_more first mid last (seals_latest_first tree c) (map SealWord (mapped_block (entry_at tree c))) dirty here one
    (subst (λ (t : Mapping). SawDirty mid last (map SealWord (mapped_block (entry_at t c))) here) trees two)))
