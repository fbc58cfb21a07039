-- What a card counts of what an abstract actor has.
use Rattle.std.proofs.Common.{cond, subst, ◌≡◌, ◌<◌, ◌+◌, ◌∙◌, ℕ, refl, sym, ap, arith}
use Rattle.std.proofs.lemmas.Bool.{eq-eqb}
use Rattle.wb_types.specs.declared.number.OBlock.{OBlock}
use Rattle.wb_words.specs.declared.word.Access.TheVariants.{Shared as Sharing, Owned}
use Rattle.wb_words.specs.declared.card.Hold.{Hold}
use Rattle.wb_words.specs.declared.card.Hold.TheVariants.{Nothing as HoldsNothing, Held as HoldsBlock}
use Rattle.wb_words.specs.declared.card.Card.{Card}
use Rattle.wb_words.specs.declared.word.FailBit.TheVariants.{Failed}
use Rattle.wb_words.specs.Cards.{total, is_block, owns, shares, failing, failing_at}
use Rattle.wb_link.specs.World.{Nothing, Shares, Owns, AbstractActor}
use Rattle.wb_refines.specs.Models.{IsBelow, held_of}

pub is_one : (block : OBlock) → is_block block.0 block ≡ 1
is_one block = ap (λ t. cond t 1 0) (eq-eqb block.0 block.0 refl)

pub owns_there : (hold : Hold) (block : ℕ) → held_of hold ≡ Owns block → owns block hold ≡ 1
owns_there HoldsNothing block e = absurd (cc)
owns_there (HoldsBlock Sharing b) block e = absurd (cc)
owns_there (HoldsBlock Owned b) block e = let same : b.0 ≡ block = cc in subst (λ (v : ℕ). owns v (HoldsBlock Owned b) ≡ 1) same (is_one b)

pub shares_there : (hold : Hold) (block : ℕ) → held_of hold ≡ Shares block → shares block hold ≡ 1
shares_there HoldsNothing block e = absurd (cc)
shares_there (HoldsBlock Owned b) block e = absurd (cc)
shares_there (HoldsBlock Sharing b) block e = let same : b.0 ≡ block = cc in subst (λ (v : ℕ). shares v (HoldsBlock Sharing b) ≡ 1) same (is_one b)

-- any card counts nothing
pub holds_nothing : (y : AbstractActor) (card : Card) → y.held ≡ Nothing → IsBelow y card
holds_nothing y card e = record {
  owned = λ block k. let bad : Nothing ≡ Owns block = sym e ∙ k in absurd (cc);
  shared = λ block k. let bad : Nothing ≡ Shares block = sym e ∙ k in absurd (cc);
}

-- what was owned where the failed bit is set is kept
pub keeps_owned : (y : AbstractActor) (card : Card) → y.held ≡ held_of card.hold → IsBelow y (failing Failed card)
keeps_owned y card e = record {
  owned = λ block k. owned card.hold block refl (sym e ∙ k);
  shared = λ block k. shared card.hold block refl (sym e ∙ k);
}
  where
    owned : (hold : Hold) (block : ℕ) → card.hold ≡ hold → held_of hold ≡ Owns block → 0 < owns block (failing_at hold card).hold + total (is_block block) (failing_at hold card).kept
    owned HoldsNothing block h k = absurd (cc)
    owned (HoldsBlock Sharing b) block h k = absurd (cc)
    owned (HoldsBlock Owned b) block h k = let one : is_block block b ≡ 1 = owns_there (HoldsBlock Owned b) block k in omega (arith, one)

    shared : (hold : Hold) (block : ℕ) → card.hold ≡ hold → held_of hold ≡ Shares block → 0 < shares block (failing_at hold card).hold
    shared HoldsNothing block h k = absurd (cc)
    shared (HoldsBlock Owned b) block h k = absurd (cc)
    shared (HoldsBlock Sharing b) block h k = let one : shares block (HoldsBlock Sharing b) ≡ 1 = shares_there (HoldsBlock Sharing b) block k in let is : shares block card.hold ≡ shares block (HoldsBlock Sharing b) = ap (λ (v : Hold). shares block v) h in omega (arith, one, is)
