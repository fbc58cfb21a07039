-- Entries that are marked with dirty bits and hints, and what an image of them is made of.
use Rattle.std.proofs.Common.{◌≡◌, ◌<◌, ◌≤◌, ◌+◌, ◌/◌, ◌^◌, inl, inr, ℕ, zero, suc, Bool, false, List, [], ◌∷◌, Option, Some, None, length, get_or, set, cond, if◌then◌else◌, is_some, get_or-set_same, get_or-set_other, refl, sym, ap, subst, ◌∙◌, arith}
use Rattle.std.specs.List.{count_by}
use Rattle.std.specs.Option.{option_map}
use Rattle.std.proofs.lemmas.Bool.{cases_eq, cases_lt}
use Rattle.std.proofs.lemmas.List.{length-map, length-set, ext_get_or}
use Rattle.std.proofs.lemmas.List.Sums.{sum_by-cons}
use Rattle.wb_types.specs.Limits.{node_count}
use Rattle.wb_types.specs.declared.entry.Entry.{Entry}
use Rattle.wb_types.specs.declared.number.Place.{Place}
use Rattle.wb_types.specs.declared.version.Version.{Version}
use Rattle.wb_format.specs.declared.node.Node.{Node}
use Rattle.wb_tree.specs.Mapping.{Mapping, IsMapping, NodeName, IsSound, IsOnPath, changed, changed_of, nodes_of, place_of}
use Rattle.wb_tree.specs.Edits.{IsEdited}
use Rattle.wb_tree.specs.Images.{IsImage, ImagePlan, name_of}
use Rattle.wb_tree.specs.declared.image.Image.{Image}
use Rattle.wb_tree.proofs.Images.Changes.{few_changed}
use Rattle.wb_tree.proofs.Stored.Edited.{edited-none, edited-more}
use Rattle.wb_policy.specs.Law.{origins}
use Rattle.wb_desk.specs.Marks.{marked_entry, marked_entries, bits_in_tree, AreMarked, OfImaged}

-- ---- entries

pub length-marked : (hint : ℕ → ℕ) (dirty : List Bool) (es : List (Option Entry)) → length (marked_entries hint dirty es) ≡ length es
length-marked hint dirty [] = refl
length-marked hint [] (e ∷ es) = ap suc (length-marked hint [] es)
length-marked hint (b ∷ dirty) (e ∷ es) = ap suc (length-marked hint dirty es)

get_or-marked : (hint : ℕ → ℕ) (dirty : List Bool) (es : List (Option Entry)) (c : ℕ)
    → get_or (marked_entries hint dirty es) c None ≡ marked_entry hint (get_or dirty c false) (get_or es c None)
get_or-marked hint dirty [] c = refl
get_or-marked hint [] (e ∷ es) zero = refl
get_or-marked hint [] (e ∷ es) (suc c) = get_or-marked hint [] es c
get_or-marked hint (b ∷ dirty) (e ∷ es) zero = refl
get_or-marked hint (b ∷ dirty) (e ∷ es) (suc c) = get_or-marked hint dirty es c

origin-marked : (hint : ℕ → ℕ) (bit : Bool) (e : Option Entry) → option_map (λ (x : Entry). x.origin.0) (marked_entry hint bit e) ≡ option_map (λ (x : Entry). x.origin.0) e
origin-marked hint bit None = refl
origin-marked hint bit (Some e) = refl

-- the origin blocks stay
pub origins-marked : (hint : ℕ → ℕ) (dirty : List Bool) (es : List (Option Entry)) → origins (marked_entries hint dirty es) ≡ origins es
origins-marked hint dirty [] = refl
origins-marked hint [] (e ∷ es) = ap (λ (x : Option ℕ). x ∷ origins (marked_entries hint [] es)) (origin-marked hint false e)
    ∙ ap (λ (xs : List (Option ℕ)). option_map (λ (x : Entry). x.origin.0) e ∷ xs) (origins-marked hint [] es)
origins-marked hint (b ∷ dirty) (e ∷ es) = ap (λ (x : Option ℕ). x ∷ origins (marked_entries hint dirty es)) (origin-marked hint b e)
    ∙ ap (λ (xs : List (Option ℕ)). option_map (λ (x : Entry). x.origin.0) e ∷ xs) (origins-marked hint dirty es)

is_some-origin : (e : Option Entry) → is_some (option_map (λ (x : Entry). x.origin.0) e) ≡ is_some e
is_some-origin None = refl
is_some-origin (Some e) = refl

-- which cache blocks have an entry follows from the origin blocks
some-at : (es : List (Option Entry)) (c : ℕ) → is_some (get_or (origins es) c None) ≡ is_some (get_or es c None)
some-at [] c = refl
some-at (e ∷ es) zero = is_some-origin e
some-at (e ∷ es) (suc c) = some-at es c

pub same_some : (xs ys : List (Option Entry)) (c : ℕ) → origins xs ≡ origins ys → is_some (get_or xs c None) ≡ is_some (get_or ys c None)
same_some xs ys c same = sym (some-at xs c) ∙ ap (λ (m : List (Option ℕ)). is_some (get_or m c None)) same ∙ some-at ys c

count-origins : (es : List (Option Entry)) → count_by is_some (origins es) ≡ count_by is_some es
count-origins [] = refl
count-origins (e ∷ es) = omega (
  arith,
  sum_by-cons (λ (x : Option ℕ). cond (is_some x) 1 0) (option_map (λ (x : Entry). x.origin.0) e) (origins es),
  sum_by-cons (λ (x : Option Entry). cond (is_some x) 1 0) e es,
  ap {B = ℕ} (λ (b : Bool). cond b 1 0) (is_some-origin e),
  count-origins es,
)

pub same_count : (xs ys : List (Option Entry)) → origins xs ≡ origins ys → count_by is_some xs ≡ count_by is_some ys
same_count xs ys same = sym (count-origins xs) ∙ ap (λ (m : List (Option ℕ)). count_by is_some m) same ∙ count-origins ys

-- ---- trees

-- The first so many entries were marked, and the others are as they were; and a node is known where it was unless an entry below
-- it differs.
pub record AreMarkedUpTo (hint : ℕ → ℕ) (dirty : List Bool) (old : Mapping) (n c : ℕ) (m : Mapping) : Type 0 where
  pub size : length m.entries ≡ n
  pub before : (k : ℕ) → k < c → get_or m.entries k None ≡ marked_entry hint (get_or dirty k false) (get_or old.entries k None)
  pub after : (k : ℕ) → c ≤ k → get_or m.entries k None ≡ get_or old.entries k None
  pub hints : (k : ℕ) (e : Entry) → get_or m.entries k None ≡ Some e → e.hint ≤ 16
  pub edited : IsEdited old m
  pub stays : (level index : ℕ) → ((k : ℕ) → IsOnPath k level index → marked_entry hint (get_or dirty k false) (get_or old.entries k None) ≡ get_or old.entries k None)
      → place_of m level index ≡ place_of old level index
  pub sound : IsSound m

nothing : (x : Entry) → (let d : Option Entry = None in d) ≡ Some x → ⊥
nothing x s = cc

pub none_marked : (hint : ℕ → ℕ) (dirty : List Bool) (old : Mapping) (n origin_blocks : ℕ) (m : Mapping) → m ≡ old → IsMapping n origin_blocks old.entries → IsSound old
    → AreMarkedUpTo hint dirty old n 0 m
none_marked hint dirty old n origin_blocks m same is sound = subst (λ (x : Mapping). AreMarkedUpTo hint dirty old n 0 x) (sym same) (record {
  size = is.size;
  before = λ k l. absurd (omega (arith, l));
  after = λ k l. refl;
  hints = λ k e g. (is.within k e g).1;
  edited = edited-none old;
  stays = λ level index all. refl;
  sound = sound;
})

-- a cache block without an entry is passed over
pub one_passed : (hint : ℕ → ℕ) (dirty : List Bool) (old : Mapping) (n c : ℕ) (m : Mapping) → AreMarkedUpTo hint dirty old n c m → get_or old.entries c None ≡ None
    → AreMarkedUpTo hint dirty old n (c + 1) m
one_passed hint dirty old n c m u none = record {
  size = u.size;
  before = λ k l. elim (cases_lt k c) [
    | inl i ↦ u.before k i
    | inr p ↦ here k (omega (arith, l, p))
  ];
  after = λ k l. u.after k (omega (arith, l));
  hints = u.hints;
  edited = u.edited;
  stays = u.stays;
  sound = u.sound;
}
  where
    here : (k : ℕ) → k ≡ c → get_or m.entries k None ≡ marked_entry hint (get_or dirty k false) (get_or old.entries k None)
    here k q = u.after k (omega (arith, q)) ∙ ap (λ (i : ℕ). get_or old.entries i None) q ∙ none
        ∙ ap (λ (e : Option Entry). marked_entry hint (get_or dirty k false) e) (sym (ap (λ (i : ℕ). get_or old.entries i None) q ∙ none))

-- and one with an entry gets it, marked
pub one_marked : (hint : ℕ → ℕ) (dirty : List Bool) (old : Mapping) (n c : ℕ) (m new : Mapping) (e : Entry) (bit : Bool) (mark : ℕ)
    → AreMarkedUpTo hint dirty old n c m → c < n → get_or old.entries c None ≡ Some e → get_or dirty c false ≡ bit → hint e.origin.0 ≡ mark → mark ≤ 16
    → new.entries ≡ set m.entries c (Some (record { origin = e.origin; dirty = bit; hint = mark }))
    → (get_or m.entries c None ≡ Some (record { origin = e.origin; dirty = bit; hint = mark }) → new ≡ m)
    → ((level index : ℕ) → (IsOnPath c level index → ⊥) → place_of new level index ≡ place_of m level index) → IsEdited m new → IsSound new
    → AreMarkedUpTo hint dirty old n (c + 1) new
one_marked hint dirty old n c m new e bit mark u within is seen told few set_is same off edited sound = record {
  size = ap (λ (xs : List (Option Entry)). length xs) set_is ∙ length-set m.entries c (Some now) ∙ u.size;
  before = λ k l. elim (cases_eq k c) [
    | inl q ↦ here k q ∙ sym (there k q)
    | inr p ↦ other k p ∙ u.before k (omega (arith, l, p))
  ];
  after = λ k l. other k (λ q. omega (arith, q, l)) ∙ u.after k (omega (arith, l));
  hints = λ k x g. elim (cases_eq k c) [
    | inl q ↦ subst (λ (y : Entry). y.hint ≤ 16) (some_entry now x (sym (here k q) ∙ g)) few
    | inr p ↦ u.hints k x (sym (other k p) ∙ g)
  ];
  edited = edited-more old m new u.edited edited;
  stays = λ level index all. elim (cases_eq (c / 32 ^ level) index) [
    | inl on ↦ ap (λ (x : Mapping). place_of x level index) (same (u.after c (omega arith) ∙ sym (all c on) ∙ there c refl)) ∙ u.stays level index all
    | inr not ↦ off level index not ∙ u.stays level index all
  ];
  sound = sound;
}
  where
    now : Entry
    now = record { origin = e.origin; dirty = bit; hint = mark }

    some_entry : (x y : Entry) → (let d : Option Entry = Some x in d) ≡ Some y → x ≡ y
    some_entry x y s = cc

    here : (k : ℕ) → k ≡ c → get_or new.entries k None ≡ Some now
    here k q = ap (λ (xs : List (Option Entry)). get_or xs k None) set_is ∙ ap (λ (i : ℕ). get_or (set m.entries c (Some now)) i None) q
        ∙ get_or-set_same m.entries c (Some now) None (omega (arith, within, u.size))

    other : (k : ℕ) → (k ≡ c → ⊥) → get_or new.entries k None ≡ get_or m.entries k None
    other k p = ap (λ (xs : List (Option Entry)). get_or xs k None) set_is ∙ get_or-set_other m.entries c k (Some now) None p

    there : (k : ℕ) → k ≡ c → marked_entry hint (get_or dirty k false) (get_or old.entries k None) ≡ Some now
    there k q = ap (λ (i : ℕ). marked_entry hint (get_or dirty i false) (get_or old.entries i None)) q
        ∙ ap (λ (x : Option Entry). marked_entry hint (get_or dirty c false) x) is
        ∙ ap (λ (b : Bool). Some (record { origin = e.origin; dirty = b; hint = hint e.origin.0 })) seen
        ∙ ap (λ (h : ℕ). Some (record { origin = e.origin; dirty = bit; hint = h })) told

-- ---- all of them

pub up_to_all : (hint : ℕ → ℕ) (dirty : List Bool) (old : Mapping) (n c : ℕ) (m : Mapping) → c ≤ n → n ≤ c → AreMarkedUpTo hint dirty old n c m → AreMarkedUpTo hint dirty old n n m
up_to_all hint dirty old n c m from to u = subst (λ (k : ℕ). AreMarkedUpTo hint dirty old n k m) (omega (arith, from, to)) u

module _ (hint : ℕ → ℕ) (dirty : List Bool) (old : Mapping) (n : ℕ) (m : Mapping) (u : AreMarkedUpTo hint dirty old n n m) (size : length old.entries ≡ n) where
  entries_are : m.entries ≡ marked_entries hint dirty old.entries
  entries_are = ext_get_or None m.entries (marked_entries hint dirty old.entries) (u.size ∙ sym size ∙ sym (length-marked hint dirty old.entries))
      (λ k l. u.before k (omega (arith, l, u.size)) ∙ sym (get_or-marked hint dirty old.entries k))

  pub all_marked : AreMarked hint dirty old m
  all_marked = record {
    entries = entries_are;
    edited = u.edited;
    stays = λ level index all. u.stays level index
        (λ k on. sym (get_or-marked hint dirty old.entries k) ∙ sym (ap (λ (xs : List (Option Entry)). get_or xs k None) entries_are) ∙ all k on);
    sound = u.sound;
  }

  pub marked_mapping : (origin_blocks : ℕ) → IsMapping n origin_blocks old.entries → IsMapping n origin_blocks m.entries
  marked_mapping origin_blocks is = record {
    size = u.size;
    within = λ b e g. let w = was b e g in (subst (λ (k : ℕ). k < origin_blocks) (ap (λ (o : _). o.0) w.2) (is.within b w.0 w.1).0, u.hints b e g);
    once = λ b k e x g q same. let w = was b e g in let v = was k x q in is.once b k w.0 v.0 w.1 v.1 (w.2 ∙ same ∙ sym v.2);
  }
    where
      from_mark : (bit : Bool) (x : Option Entry) (e : Entry) → marked_entry hint bit x ≡ Some e → (w : Entry) × (x ≡ Some w) × (w.origin ≡ e.origin)
      from_mark bit None e q = absurd (nothing e q)
      from_mark bit (Some x) e q = (x, refl, origin_of x e q)
        where
          origin_of : (x e : Entry) → (let d : Option Entry = Some (record { origin = x.origin; dirty = bit; hint = hint x.origin.0 }) in d) ≡ Some e → x.origin ≡ e.origin
          origin_of x e q = cc

      was : (b : ℕ) (e : Entry) → get_or m.entries b None ≡ Some e → (w : Entry) × (get_or old.entries b None ≡ Some w) × (w.origin ≡ e.origin)
      was b e g = from_mark (get_or dirty b false) (get_or old.entries b None) e
          (sym (ap (λ (xs : List (Option Entry)). get_or xs b None) entries_are ∙ get_or-marked hint dirty old.entries b) ∙ g)

-- ---- images

-- what follows of each tree that an image may be made of is so of the one that it is made of
pub of_imaged : (version : Version) (hint : ℕ → ℕ) (clean : Option (List Bool)) (old : Mapping) (P Q : Mapping → Type 0) → ((m : Mapping) → P m → Q m) → OfImaged version hint clean old P → OfImaged version hint clean old Q
of_imaged version hint None old P Q f so = f old so
of_imaged version hint (Some dirty) old P Q f so = (so.0, so.1, f so.0 so.2)

-- and what follows of each edited tree of this size is so where it is so of that one
pub by_imaged : (version : Version) (hint : ℕ → ℕ) (clean : Option (List Bool)) (old : Mapping) (n : ℕ) (P : Mapping → Type 0) (Q : Type 0)
    → ((m : Mapping) → IsEdited old m → length m.entries ≡ n → P m → Q) → length old.entries ≡ n → OfImaged version hint clean old P → Q
by_imaged version hint None old n P Q law size so = law old (edited-none old) size so
by_imaged version hint (Some dirty) old n P Q law size so =
    law so.0 so.1.edited (ap (λ (es : List (Option Entry)). length es) so.1.entries ∙ length-marked hint (bits_in_tree version dirty) old.entries ∙ size) so.2

-- an image has no more nodes than a tree of its size
pub few_nodes : (m n : Mapping) (plan : ImagePlan) (image : Image) → IsImage m n plan image → length m.entries ≡ plan.geometry.cache_blocks
    → length image.nodes.items ≤ node_count plan.geometry.cache_blocks
few_nodes m n plan image is size = omega (
  arith,
  length-map image.nodes.items (λ (node : Place × Node). name_of node.1),
  ap (λ (xs : List NodeName). length xs) is.nodes_are,
  few_changed m plan.geometry.cache_blocks size,
)

-- ---- nodes that are not written

same_changed : (old new : Mapping) (nodes : List NodeName) → ((level index : ℕ) → place_of new level index ≡ place_of old level index) → changed_of new nodes ≡ changed_of old nodes
same_changed old new [] same = refl
same_changed old new (node ∷ nodes) same =
    ap (λ (o : Option Place). if is_some o then changed_of new nodes else node ∷ changed_of new nodes) (same node.level node.index)
    ∙ ap (λ (xs : List NodeName). if is_some (place_of old node.level node.index) then xs else node ∷ xs) (same_changed old new nodes same)

pub no_mark : (hint : ℕ → ℕ) (dirty : List Bool) (old new : Mapping) (depth : ℕ) → AreMarked hint dirty old new → new.entries ≡ old.entries → changed new depth ≡ changed old depth
no_mark hint dirty old new depth are same =
    same_changed old new (nodes_of new.entries depth) (λ level index. are.stays level index (λ c on. ap (λ (es : List (Option Entry)). get_or es c None) same))
    ∙ ap (λ (es : List (Option Entry)). changed_of old (nodes_of es depth)) same
