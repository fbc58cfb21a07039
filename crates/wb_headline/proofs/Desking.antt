-- A desk keeps its agreement with the abstract world when a commit begins or ends, and when an order is given, ends by an entry that comes or goes, or is given up.
use Rattle.std.proofs.Common.{◌≡◌, ◌≢◌, ◌∙◌, ◌<◌, ◌+◌, ◌==◌, inl, inr, ℕ, zero, suc, Bool, true, false, if◌then◌else◌, List, [], ◌∷◌, Option, Some, None, refl, sym, ap, arith, length, map, slice_index_or, slice_set}
use Rattle.std.proofs.lemmas.Bool.{cases_eq, eqb-true, eq-eqb, ne_eqb}
use Rattle.std.proofs.lemmas.List.{get_or-set_same, get_or-set_other}
use Rattle.wb_types.specs.declared.entry.Entry.{Entry}
use Rattle.wb_types.specs.declared.number.CBlock.{CBlock}
use Rattle.wb_types.specs.declared.number.OBlock.{OBlock}
use Rattle.wb_contents.specs.Volume.{Locations, changed}
use Rattle.wb_contents.proofs.Positions.{changed_same, changed_other}
use Rattle.wb_tree.specs.Mapping.{Mapping}
use Rattle.wb_tree.specs.Edits.{IsChangedAt}
use Rattle.wb_space.specs.declared.block.Block.{Block}
use Rattle.wb_space.specs.declared.block.Block.TheVariants.{Free, Mapped, Reserved, Quarantined}
use Rattle.wb_space.specs.Blocks.{state, released as block_released, commit_begun as block_begun, commit_ended as block_ended}
use Rattle.wb_orders.specs.Orders.{order_at}
use Rattle.wb_policy.specs.declared.order.Order.TheVariants.{Promote}
use Rattle.wb_desk.specs.Desks.{DeskState}
use Rattle.wb_desk.specs.Calls.{reserved, released}
use Rattle.wb_desk.specs.Commits.{commit_begun, commit_ended}
use Rattle.wb_desk.specs.Entries.{entry_of, keeps, mapped, unmapped}
use Rattle.wb_promise.specs.Headline.{cached_from, place_of}
use Rattle.wb_tree.specs.declared.image.Image.{Image}
use Rattle.wb_runs.proofs.Located.{StandsAlone, alone_later, none_from}
use Rattle.wb_link.specs.World.{Shared, Block as AbstractBlock, Mapped as MappedThere, Reserved as ReservedThere, block_begun as begun, block_ended as ended, block_given_back, removed}
use Rattle.wb_simulation.specs.Opened.{located}
use Rattle.wb_headline.specs.Desks.{block_there, DeskAgrees}

-- ---- states of cache blocks

begun_there : (b : Block) → block_there (block_begun b) ≡ begun (block_there b)
begun_there (Quarantined true early) = refl
begun_there b = refl

ended_there : (b : Block) → block_there (block_ended b) ≡ ended (block_there b)
ended_there (Quarantined true true) = refl
ended_there (Quarantined false true) = refl
ended_there b = refl

released_there : (b : Block) → block_there (block_released b) ≡ block_given_back (block_there b)
released_there (Quarantined true early) = refl
released_there b = refl

-- what becomes of each block, a free one staying so, becomes of one of the list
pub state_map : (f : Block → Block) → f Free ≡ Free → (blocks : List Block) (c : ℕ) → state (map f blocks) c ≡ f (state blocks c)
state_map f e [] zero = sym e
state_map f e [] (suc c) = sym e
state_map f e (b ∷ blocks) zero = refl
state_map f e (b ∷ blocks) (suc c) = state_map f e blocks c

-- one block is in another state
one_turned : (blocks blocks' : List Block) (there : ℕ → AbstractBlock) (at : ℕ) (now : AbstractBlock) → now ≡ block_there (state blocks' at) → ((c : ℕ) → c ≢ at → state blocks' c ≡ state blocks c) →
    ((c : ℕ) → there c ≡ block_there (state blocks c)) → (c : ℕ) → changed there at now c ≡ block_there (state blocks' c)
one_turned blocks blocks' there at now is same agrees c = elim (cases_eq c at) [
  | inl e ↦ ap (changed there at now) e ∙ changed_same there at now ∙ is ∙ ap (λ (k : ℕ). block_there (state blocks' k)) (sym e)
  | inr n ↦ changed_other there at c now n ∙ agrees c ∙ ap (λ (v : Block). block_there v) (sym (same c n))
]

pub other_block : (blocks : List Block) (at : ℕ) (now : Block) (c : ℕ) → c ≢ at → state (slice_set blocks at now) c ≡ state blocks c
other_block blocks at now c n = get_or-set_other blocks at c now Free n

-- ---- where blocks are mapped

-- a tree with one entry more has its block there, and the others where they were
one_entered : (entries : List (Option Entry)) (first at : ℕ) (entry : Entry) (block : ℕ) → at < length entries → cached_from entry.origin.0 first entries ≡ None → slice_index_or entries at None ≡ None →
    cached_from block first (slice_set entries at (Some entry)) ≡ (if entry.origin.0 == block then Some (first + at) else cached_from block first entries)
one_entered [] first at entry block l none free = absurd (omega (arith, l))
one_entered (None ∷ entries) first zero entry block l none free = (let same : first ≡ first + 0 = omega arith in ap (λ k. if entry.origin.0 == block then Some k else cached_from block (suc first) entries) same)
one_entered (Some e ∷ entries) first zero entry block l none free = absurd (cc)
one_entered (None ∷ entries) first (suc at) entry block l none free = one_entered entries (suc first) at entry block (omega (arith, l)) none free ∙ (let same : suc first + at ≡ first + suc at = omega arith in ap (λ k. if entry.origin.0 == block then Some k else cached_from block (suc first) entries) same)
one_entered (Some e ∷ entries) first (suc at) entry block l none free = by (λ n. one_entered entries (suc first) at entry block (omega (arith, l)) n free) (e.origin.0 == block) refl
  where
    -- the new entry's block is another one
    other : (e.origin.0 == entry.origin.0) ≡ false
    other = by_test (e.origin.0 == entry.origin.0) refl none
      where
        by_test : (t : Bool) → (e.origin.0 == entry.origin.0) ≡ t → (if t then Some first else cached_from entry.origin.0 (suc first) entries) ≡ None → (e.origin.0 == entry.origin.0) ≡ false
        by_test true same n = absurd (cc)
        by_test false same n = same

    none_behind : cached_from entry.origin.0 (suc first) entries ≡ None
    none_behind = by_test (e.origin.0 == entry.origin.0) other none
      where
        by_test : (t : Bool) → t ≡ false → (if t then Some first else cached_from entry.origin.0 (suc first) entries) ≡ None → cached_from entry.origin.0 (suc first) entries ≡ None
        by_test true same n = absurd (cc)
        by_test false same n = n

    behind : (cached_from entry.origin.0 (suc first) entries ≡ None → cached_from block (suc first) (slice_set entries at (Some entry)) ≡ (if entry.origin.0 == block then Some (suc first + at) else cached_from block (suc first) entries)) →
        cached_from block (suc first) (slice_set entries at (Some entry)) ≡ (if entry.origin.0 == block then Some (first + suc at) else cached_from block (suc first) entries)
    behind later = later none_behind ∙ (let same : suc first + at ≡ first + suc at = omega arith in ap (λ k. if entry.origin.0 == block then Some k else cached_from block (suc first) entries) same)

    by : (cached_from entry.origin.0 (suc first) entries ≡ None → cached_from block (suc first) (slice_set entries at (Some entry)) ≡ (if entry.origin.0 == block then Some (suc first + at) else cached_from block (suc first) entries)) →
        (t : Bool) → (e.origin.0 == block) ≡ t → (if t then Some first else cached_from block (suc first) (slice_set entries at (Some entry))) ≡ (if entry.origin.0 == block then Some (first + suc at) else (if t then Some first else cached_from block (suc first) entries))
    by later true same = by_entry (entry.origin.0 == block) refl
      where
        by_entry : (t : Bool) → (entry.origin.0 == block) ≡ t → Some first ≡ (if t then Some (first + suc at) else Some first)
        by_entry true is = absurd (
            let both : e.origin.0 ≡ entry.origin.0 = eqb-true e.origin.0 block same ∙ sym (eqb-true entry.origin.0 block is) in
            let bad : true ≡ false = sym (eq-eqb e.origin.0 entry.origin.0 both) ∙ other in cc)
        by_entry false is = refl
    by later false same = behind later

pub located_entered : (entries : List (Option Entry)) (at : ℕ) (entry : Entry) → at < length entries → place_of entries entry.origin.0 ≡ None → slice_index_or entries at None ≡ None →
    (block : ℕ) → changed (located entries) entry.origin.0 (Some at) block ≡ located (slice_set entries at (Some entry)) block
located_entered entries at entry l none free block = elim (cases_eq block entry.origin.0) [
  | inl e ↦ ap (changed (located entries) entry.origin.0 (Some at)) e ∙ changed_same (located entries) entry.origin.0 (Some at)
      ∙ sym (ap (λ b. place_of (slice_set entries at (Some entry)) b) e ∙ one_entered entries 0 at entry entry.origin.0 l none free ∙ ap (λ t. if t then Some (0 + at) else place_of entries entry.origin.0) (eq-eqb entry.origin.0 entry.origin.0 refl) ∙ (let same : 0 + at ≡ at = omega arith in ap (λ k. Some k) same))
  | inr n ↦ changed_other (located entries) entry.origin.0 block (Some at) n ∙ sym (one_entered entries 0 at entry block l none free ∙ ap (λ t. if t then Some (0 + at) else place_of entries block) (unequal (entry.origin.0 == block) refl (λ e. n (sym e))))
]
  where
    unequal : (t : Bool) → (entry.origin.0 == block) ≡ t → (entry.origin.0 ≢ block) → (entry.origin.0 == block) ≡ false
    unequal true e n = absurd (n (eqb-true entry.origin.0 block e))
    unequal false e n = e

-- ---- a block that leaves

-- a tree with one entry less has its block nowhere, and the others where they were
left_from : (entries : List (Option Entry)) (first at : ℕ) (entry : Entry) (block b : ℕ) → StandsAlone entries at entry block → block ≢ b → cached_from b first (slice_set entries at None) ≡ cached_from b first entries
left_from (None ∷ entries) first (suc at) entry block b s n = left_from entries (suc first) at entry block b (alone_later None entries at entry block s) n
left_from (Some e ∷ entries) first zero entry block b s n =
    let here : e ≡ entry = (let both = s.there in cc) in
    sym (ap (λ (t : Bool). if t then Some first else cached_from b (suc first) entries) (ne_eqb e.origin.0 b (λ is. n (sym s.is ∙ ap (λ (x : Entry). x.origin.0) (sym here) ∙ is))))
left_from (Some e ∷ entries) first (suc at) entry block b s n = ap (λ (o : Option ℕ). if e.origin.0 == b then Some first else o) (left_from entries (suc first) at entry block b (alone_later (Some e) entries at entry block s) n)
left_from entries first at entry block b s n = absurd (let bad = s.there in cc)

left_none : (entries : List (Option Entry)) (at : ℕ) (entry : Entry) (block i : ℕ) (other : Entry) → StandsAlone entries at entry block → slice_index_or (slice_set entries at None) i None ≡ Some other → other.origin.0 ≢ block
left_none [] at entry block i other s there is = absurd (let bad = s.there in cc)
left_none (x ∷ entries) zero entry block zero other s there is = absurd (cc)
left_none (x ∷ entries) zero entry block (suc i) other s there is = let same = s.alone (suc i) other there is in omega (arith, same)
left_none (None ∷ entries) (suc at) entry block zero other s there is = absurd (cc)
left_none (Some e ∷ entries) (suc at) entry block zero other s there is = let here : Some e ≡ Some other = there in let same = s.alone 0 other here is in omega (arith, same)
left_none (x ∷ entries) (suc at) entry block (suc i) other s there is = left_none entries at entry block i other (alone_later x entries at entry block s) there is

pub located_left : (entries : List (Option Entry)) (at : ℕ) (entry : Entry) (block : ℕ) → StandsAlone entries at entry block → (b : ℕ) → changed (located entries) block None b ≡ located (slice_set entries at None) b
located_left entries at entry block s b = elim (cases_eq b block) [
  | inl e ↦ ap (changed (located entries) block None) e ∙ changed_same (located entries) block None
      ∙ sym (ap (λ k. place_of (slice_set entries at None) k) e ∙ none_from (slice_set entries at None) 0 block (λ i other there. left_none entries at entry block i other s there))
  | inr n ↦ changed_other (located entries) block b None n ∙ sym (left_from entries 0 at entry block b s (λ e. n (sym e)))
]

-- ---- the desk's calls

module _ (P : Type 0) (desk : DeskState P) (s t : Shared) (g : DeskAgrees desk s) where
  -- nothing comes of desk and mapping
  pub desk_stays : (desk' : DeskState P) → desk'.tree.entries ≡ desk.tree.entries → desk'.space.blocks ≡ desk.space.blocks → t.mapping ≡ s.mapping → t.blocks ≡ s.blocks → DeskAgrees desk' t
  desk_stays desk' e b m k = record {
    mapping = m ∙ g.mapping ∙ ap (λ es. located es) (sym e);
    blocks = λ c. ap (λ (f : ℕ → AbstractBlock). f c) k ∙ g.blocks c ∙ ap (λ bs. block_there (state bs c)) (sym b);
  }

  pub desk_begins : (tree : Mapping) (image : Image) → located tree.entries ≡ located desk.tree.entries → t.mapping ≡ s.mapping → t.blocks ≡ (λ c. begun (s.blocks c)) → DeskAgrees (commit_begun desk tree image) t
  desk_begins tree image e m k = record {
    mapping = m ∙ g.mapping ∙ sym e;
    blocks = λ c. ap (λ (f : ℕ → AbstractBlock). f c) k ∙ ap begun (g.blocks c) ∙ sym (begun_there (state desk.space.blocks c)) ∙ ap (λ (v : Block). block_there v) (sym (state_map block_begun refl desk.space.blocks c));
  }

  pub desk_ends : t.mapping ≡ s.mapping → t.blocks ≡ (λ c. ended (s.blocks c)) → DeskAgrees (commit_ended desk) t
  desk_ends m k = record {
    mapping = m ∙ g.mapping;
    blocks = λ c. ap (λ (f : ℕ → AbstractBlock). f c) k ∙ ap ended (g.blocks c) ∙ sym (ended_there (state desk.space.blocks c)) ∙ ap (λ (v : Block). block_there v) (sym (state_map block_ended refl desk.space.blocks c));
  }

  -- a promotion's order is given
  pub desk_reserves : (b : OBlock) (c : CBlock) → c.0 < length desk.space.blocks → t.mapping ≡ s.mapping → t.blocks ≡ changed s.blocks c.0 ReservedThere → DeskAgrees (reserved desk c (Promote b c) false) t
  desk_reserves b c l m k = record {
    mapping = m ∙ g.mapping;
    blocks = λ i. ap (λ (f : ℕ → AbstractBlock). f i) k ∙ one_turned desk.space.blocks (slice_set desk.space.blocks c.0 Reserved) s.blocks c.0 ReservedThere
        (sym (ap (λ (v : Block). block_there v) (get_or-set_same desk.space.blocks c.0 Reserved Free l))) (other_block desk.space.blocks c.0 Reserved) g.blocks i;
  }

  -- it ends by its entry
  pub desk_maps : (b : OBlock) (c : CBlock) (tree : Mapping) (policy : P) → c.0 < length desk.space.blocks → c.0 < length desk.tree.entries → place_of desk.tree.entries b.0 ≡ None → slice_index_or desk.tree.entries c.0 None ≡ None →
      IsChangedAt desk.tree tree c.0 (Some (entry_of b)) → t.mapping ≡ changed s.mapping b.0 (Some c.0) → t.blocks ≡ changed s.blocks c.0 MappedThere → DeskAgrees (mapped desk c tree policy) t
  desk_maps b c tree policy l le none free is m k = record {
    mapping = m ∙ ap (λ (f : Locations). changed f b.0 (Some c.0)) g.mapping ∙ (λ i block. located_entered desk.tree.entries c.0 (entry_of b) le none free block i) ∙ ap (λ es. located es) (sym is.entries);
    blocks = λ i. ap (λ (f : ℕ → AbstractBlock). f i) k ∙ one_turned desk.space.blocks (slice_set desk.space.blocks c.0 Mapped) s.blocks c.0 MappedThere
        (sym (ap (λ (v : Block). block_there v) (get_or-set_same desk.space.blocks c.0 Mapped Free l))) (other_block desk.space.blocks c.0 Mapped) g.blocks i;
  }

  -- or by an entry that goes, whether its order keeps the cache block or not
  pub desk_unmaps : (block : ℕ) (c : CBlock) (entry : Entry) (tree : Mapping) (policy : P) (next : Option ℕ) → block_there (Quarantined (keeps (order_at desk.orders.slots c.0)) false) ≡ removed next → c.0 < length desk.space.blocks → StandsAlone desk.tree.entries c.0 entry block →
      IsChangedAt desk.tree tree c.0 None → t.mapping ≡ changed s.mapping block None → t.blocks ≡ changed s.blocks c.0 (removed next) → DeskAgrees (unmapped desk c tree policy) t
  desk_unmaps block c entry tree policy next keeps_it l there is m k =
      let now : Block = Quarantined (keeps (order_at desk.orders.slots c.0)) false in
      record {
        mapping = m ∙ ap (λ (f : Locations). changed f block None) g.mapping ∙ (λ i b. located_left desk.tree.entries c.0 entry block there b i) ∙ ap (λ es. located es) (sym is.entries);
        blocks = λ i. ap (λ (f : ℕ → AbstractBlock). f i) k ∙ one_turned desk.space.blocks (slice_set desk.space.blocks c.0 now) s.blocks c.0 (removed next)
            (sym (ap (λ (v : Block). block_there v) (get_or-set_same desk.space.blocks c.0 now Free l) ∙ keeps_it)) (other_block desk.space.blocks c.0 now) g.blocks i;
      }

  -- or it is given up
  pub desk_releases : (c : CBlock) → c.0 < length desk.space.blocks → t.mapping ≡ s.mapping → t.blocks ≡ changed s.blocks c.0 (block_given_back (s.blocks c.0)) → DeskAgrees (released desk c) t
  desk_releases c l m k =
      let now = block_released (state desk.space.blocks c.0) in
      record {
        mapping = m ∙ g.mapping;
        blocks = λ i. ap (λ (f : ℕ → AbstractBlock). f i) k ∙ one_turned desk.space.blocks (slice_set desk.space.blocks c.0 now) s.blocks c.0 (block_given_back (s.blocks c.0))
            (ap block_given_back (g.blocks c.0) ∙ sym (released_there (state desk.space.blocks c.0)) ∙ sym (ap (λ (v : Block). block_there v) (get_or-set_same desk.space.blocks c.0 now Free l)))
            (other_block desk.space.blocks c.0 now) g.blocks i;
      }
