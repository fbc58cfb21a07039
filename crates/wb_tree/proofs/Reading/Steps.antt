-- Steps of a reading, one after the other.
use Rattle.std.proofs.Common.{◌≡◌, ◌≢◌, ◌≤◌, ◌<◌, ◌+◌, ◌-◌, ◌*◌, ◌^◌, ◌∙◌, ◌&&◌, ap, refl, ℕ, zero, suc, get_or, replicate, Bool, true, false, not, nat_eq, ltb, leb, List, Option, Some, None, Result, Ok, Err, arith, add-one}
use Rattle.std.proofs.lemmas.Bool.{ne_eqb, not-true}
use Rattle.std.proofs.lemmas.Grind.{common_steps}
use borrow.Author.Tests.{ltb-true}
use Rattle.std.proofs.Math.Nat.{one-le-pow, mul-le-mul_left}
use Rattle.std.specs.Prelude.{slice_set, if◌then◌else◌}
use Rattle.wb_types.specs.declared.entry.Entry.{Entry}
use Rattle.wb_types.specs.declared.number.Place.{Place}
use Rattle.wb_format.specs.declared.root.Root.{Root}
use Rattle.wb_tree.specs.declared.placed.PlacedNode.{PlacedNode}
use Rattle.wb_tree.specs.Reading.{Found, ReadOutcome, Nodes, node_read, ◌then◌, each_step, child_read, names_with, names_child, entry_read, may_map, is_reached}
use Rattle.wb_types.proofs.Truth.{and_true}

-- the next of the steps that are left
pub each_step-next : (step : ℕ → Found → ReadOutcome) (j : ℕ) (found : Found) → j < 32 → each_step step (32 - j) j found ≡ (step j found then each_step step (32 - (j + 1)) (j + 1))
unfolding each_step
each_step-next step j found h =
    let e : 32 - j ≡ suc (32 - (j + 1)) = omega arith in
    rw (e, add-one j) refl

-- none is left
pub each_step-none : (step : ℕ → Found → ReadOutcome) (j : ℕ) (found : Found) → 32 ≤ j → each_step step (32 - j) j found ≡ Ok found
unfolding each_step
each_step-none step j found h = let e : 32 - j ≡ 0 = omega arith in rw e refl

-- ---- children

pub child_read-zero : (root : Root) (here : Place) (level index : ℕ) (read : ℕ → Place → Found → ReadOutcome) (word : ℕ) (found : Found) → word ≡ 0 → child_read root here level index read word found ≡ Ok found
child_read-zero root here level index read word found e = rw e refl

not_zero : (word : ℕ) → word ≢ 0 → nat_eq word 0 ≡ false
not_zero word h = ne_eqb word 0 h

pub child_read-named : (root : Root) (here : Place) (level index : ℕ) (read : ℕ → Place → Found → ReadOutcome) (word : ℕ) (found : Found) → word ≢ 0 → names_child root found.reached level index word ≡ true
    → child_read root here level index read word found ≡ read index (record { 0 = word }) found
child_read-named root here level index read word found some named = rw (not_zero word some, named) refl

pub child_read-unnamed : (root : Root) (here : Place) (level index : ℕ) (read : ℕ → Place → Found → ReadOutcome) (word : ℕ) (found : Found) → word ≢ 0 → names_child root found.reached level index word ≡ false
    → child_read root here level index read word found ≡ Err here
child_read-unnamed root here level index read word found some unnamed = rw (not_zero word some, unnamed) refl

-- what the test of a word means
pub record IsNaming (root : Root) (was_reached : Bool) (word block : ℕ) : Type 0 where
  pub behind : 2 ≤ word
  pub inside : word < root.geometry.meta_sectors
  pub unread : was_reached ≡ false
  pub below : block < root.geometry.cache_blocks

pub names_with-is : (root : Root) (was_reached : Bool) (word block : ℕ) → names_with root was_reached word block ≡ true → IsNaming root was_reached word block
names_with-is root was_reached word block h =
    let a = and_true (leb 2 word && ltb word root.geometry.meta_sectors && not was_reached) (ltb block root.geometry.cache_blocks) h in
    let b = and_true (leb 2 word && ltb word root.geometry.meta_sectors) (not was_reached) a.0 in
    let d = and_true (leb 2 word) (ltb word root.geometry.meta_sectors) b.0 in
    record {
      behind = grind (arith, common_steps);
      inside = ltb-true _ _ d.1;
      unread = not-true was_reached b.1;
      below = ltb-true _ _ a.1;
    }

pub names_child-is : (root : Root) (reached : List PlacedNode) (level index word : ℕ) → names_child root reached level index word ≡ true → IsNaming root (is_reached word reached) word (index * 32 ^ level)
names_child-is root reached level index word h = names_with-is root (is_reached word reached) word (index * 32 ^ level) h

-- a node has no more nodes before it than cache blocks
pub index_below : (index level blocks : ℕ) → index * 32 ^ level < blocks → index < blocks
index_below index level blocks h =
    let some : 1 ≤ 32 ^ level = one-le-pow level 32 (omega arith) in
    let more : index * 1 ≤ index * 32 ^ level = mul-le-mul_left index some in
    omega arith

-- a node is read by its level, its index and the number of its place
pub same_read : {Y : Type 0} (read : ℕ → ℕ → Place → Y) (level level' index index' : ℕ) (place place' : Place) → level ≡ level' → index ≡ index' → place.0 ≡ place'.0 → read level index place ≡ read level' index' place'
same_read {Y} read level level' index index' place place' a b c =
    let made : ℕ → Place = λ n. record { 0 = n } in
    ap (λ l. read l index place) a ∙ (ap (λ i. read level' i place) b ∙ ap (λ p. read level' index' p) (ap made c))

pub same_node_read : (root : Root) (nodes : Nodes) (level level' index index' : ℕ) (place place' : Place) (found : Found) → level ≡ level' → index ≡ index' → place.0 ≡ place'.0
    → node_read root nodes level index place found ≡ node_read root nodes level' index' place' found
same_node_read root nodes level level' index index' place place' found a b c =
    ap (λ read. read found) (same_read (node_read root nodes) level level' index index' place place' a b c)

-- ---- entries

pub entry_read-some : (root : Root) (here : Place) (block : ℕ) (o : Option Entry) (entry : Entry) (found : Found) → o ≡ Some entry → may_map root found.mapped block entry ≡ true
    → entry_read root here block o found ≡ Ok (record { reached = found.reached; entries = slice_set found.entries block (Some entry); mapped = slice_set found.mapped entry.origin.0 true })
entry_read-some root here block o entry found e may = rw (e, may) refl

pub entry_read-fault : (root : Root) (here : Place) (block : ℕ) (o : Option Entry) (entry : Entry) (found : Found) → o ≡ Some entry → may_map root found.mapped block entry ≡ false
    → entry_read root here block o found ≡ Err here
entry_read-fault root here block o entry found e may = rw (e, may) refl

pub entry_read-none : (root : Root) (here : Place) (block : ℕ) (o : Option Entry) (found : Found) → ((entry : Entry) → o ≡ Some entry → ⊥) → entry_read root here block o found ≡ Ok found
entry_read-none root here block None found none = refl
entry_read-none root here block (Some entry) found none = absurd (none entry refl)

-- ---- what was read without a fault

pub then_ok : {X : Type 0} (reading : Result X Place) (go_on : X → Result X Place) (next : X) → (reading then go_on) ≡ Ok next → (found : X) × (reading ≡ Ok found) × (go_on found ≡ Ok next)
then_ok {X} (Ok found) go_on next e = (found, refl, e)
then_ok {X} (Err place) go_on next e = absurd (cc)

-- nothing goes on
pub then_nothing : {X : Type 0} (reading : Result X Place) → (reading then (λ found. Ok found)) ≡ reading
then_nothing {X} (Ok found) = refl
then_nothing {X} (Err place) = refl

-- where a test has to come out true
pub test_ok : (test : Bool) (here : Place) (reading : ReadOutcome) (next : Found) → (if test then reading else Err here) ≡ Ok next → (test ≡ true) × (reading ≡ Ok next)
test_ok true here reading next e = (refl, e)
test_ok false here reading next e = absurd (cc)

-- nothing stands where nothing was found yet
pub nothing_there : {X : Type 0} (n i : ℕ) (x : X) → get_or (replicate n x) i x ≡ x
nothing_there {X} zero i x = refl
nothing_there {X} (suc n) zero x = refl
nothing_there {X} (suc n) (suc i) x = nothing_there n i x
