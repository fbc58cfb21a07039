-- Where the entries have a block: in the one cache block whose entry it is, or in none.
use Rattle.std.proofs.Common.{◌≡◌, ◌≢◌, ◌∙◌, ◌+◌, ℕ, zero, suc, Bool, if◌then◌else◌, List, [], ◌∷◌, Option, Some, None, IsSome, refl, sym, ap, arith, slice_index_or}
use Rattle.std.proofs.lemmas.Bool.{eq-eqb, ne_eqb}
use Rattle.wb_types.specs.declared.entry.Entry.{Entry}
use Rattle.wb_types.specs.declared.number.OBlock.{OBlock}
use Rattle.wb_policy.specs.Law.{Holdings, IsMappedAt, IsUnmapped}
use Rattle.wb_desk.specs.Desks.{DeskState, DeskInvariant, holdings}
use Rattle.wb_desk.proofs.Leaving.{entry_there}
use Rattle.wb_desk.proofs.Seen.{there}
use Rattle.wb_promise.specs.Headline.{cached_from, place_of}

-- this cache block has the entry, and no other one has that block
pub record StandsAlone (entries : List (Option Entry)) (at : ℕ) (entry : Entry) (block : ℕ) : Type 0 where
  pub there : slice_index_or entries at None ≡ Some entry
  pub is : entry.origin.0 ≡ block
  pub alone : (i : ℕ) (other : Entry) → slice_index_or entries i None ≡ Some other → other.origin.0 ≡ block → i ≡ at

pub alone_later : (e : Option Entry) (entries : List (Option Entry)) (at : ℕ) (entry : Entry) (block : ℕ) → StandsAlone (e ∷ entries) (suc at) entry block → StandsAlone entries at entry block
alone_later e entries at entry block s = record { there = s.there; is = s.is; alone = λ i other there is. let same = s.alone (suc i) other there is in omega (arith, same) }

pub none_from : (entries : List (Option Entry)) (first block : ℕ) → ((i : ℕ) (other : Entry) → slice_index_or entries i None ≡ Some other → other.origin.0 ≢ block) → cached_from block first entries ≡ None
none_from [] first block none = refl
none_from (None ∷ entries) first block none = none_from entries (suc first) block (λ i. none (suc i))
none_from (Some e ∷ entries) first block none =
    ap (λ (t : Bool). if t then Some first else cached_from block (suc first) entries) (ne_eqb e.origin.0 block (none 0 e refl)) ∙ none_from entries (suc first) block (λ i. none (suc i))

alone_from : (entries : List (Option Entry)) (first at : ℕ) (entry : Entry) (block : ℕ) → StandsAlone entries at entry block → cached_from block first entries ≡ Some (first + at)
alone_from (None ∷ entries) first (suc at) entry block s = alone_from entries (suc first) at entry block (alone_later None entries at entry block s) ∙ (let same : suc first + at ≡ first + suc at = omega arith in ap (λ k. Some k) same)
alone_from (Some e ∷ entries) first zero entry block s =
    let here : e ≡ entry = (let both = s.there in cc) in
    ap (λ (t : Bool). if t then Some first else cached_from block (suc first) entries) (eq-eqb e.origin.0 block (ap (λ (x : Entry). x.origin.0) here ∙ s.is)) ∙ (let same : first ≡ first + 0 = omega arith in ap (λ k. Some k) same)
alone_from (Some e ∷ entries) first (suc at) entry block s =
    ap (λ (t : Bool). if t then Some first else cached_from block (suc first) entries) (ne_eqb e.origin.0 block (λ is. let same = s.alone 0 e refl is in omega (arith, same)))
    ∙ alone_from entries (suc first) at entry block (alone_later (Some e) entries at entry block s) ∙ (let same : suc first + at ≡ first + suc at = omega arith in ap (λ k. Some k) same)
alone_from entries first at entry block s = absurd (let bad = s.there in cc)

pub alone_there : (entries : List (Option Entry)) (at : ℕ) (entry : Entry) (block : ℕ) → StandsAlone entries at entry block → place_of entries block ≡ Some at
alone_there entries at entry block s = alone_from entries 0 at entry block s ∙ (let same : 0 + at ≡ at = omega arith in ap (λ k. Some k) same)

-- ---- of every desk

pub same_block : (b d : OBlock) → b.0 ≡ d.0 → b ≡ d
same_block b d e = λ i. record { 0 = e i }

-- one block at most stands in a cache block
pub one_there : (mapping : Holdings) (b d c : ℕ) → IsMappedAt mapping b c → IsMappedAt mapping d c → b ≡ d
one_there mapping b d c m n = let both : Some (Some b) ≡ Some (Some d) = sym m ∙ n in cc

module _ (P : Type 0) {knows : P → Holdings → Type 0} (desk : DeskState P) (kept : DeskInvariant knows desk) where
  pub stands_alone : (b c : ℕ) → IsMappedAt (holdings desk) b c → (entry : Entry) × StandsAlone desk.tree.entries c entry b
  stands_alone b c at = by (slice_index_or desk.tree.entries c None) refl (entry_there desk.tree.entries b c at)
    where
      by : (o : Option Entry) → slice_index_or desk.tree.entries c None ≡ o → IsSome o → (entry : Entry) × StandsAlone desk.tree.entries c entry b
      by None e s = absurd (cc)
      by (Some entry) e s =
          let is : entry.origin.0 ≡ b = one_there (holdings desk) entry.origin.0 b c (there desk.tree.entries c entry e) at in
          (entry, record { there = e; is = is; alone = λ i other t o. kept.mapping.once i c other entry t e (same_block other.origin entry.origin (o ∙ sym is)) })

  pub stands_there : (b c : ℕ) → IsMappedAt (holdings desk) b c → place_of desk.tree.entries b ≡ Some c
  stands_there b c at = let s = stands_alone b c at in alone_there desk.tree.entries c s.0 b s.1

  pub unmapped_there : (b : ℕ) → IsUnmapped (holdings desk) b → place_of desk.tree.entries b ≡ None
  unmapped_there b u = none_from desk.tree.entries 0 b (λ i other t is. u i (there desk.tree.entries i other t ∙ ap (λ (k : ℕ). Some (Some k)) is))
