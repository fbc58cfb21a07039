-- Where origin blocks are cached.
use Rattle.std.proofs.Common.{◌≡◌, ◌<◌, ◌≤◌, inl, inr, ℕ, zero, suc, Bool, true, false, cond, is_some, eqb, eq-eqb, List, [], ◌∷◌, Option, Some, None, length, map, get_or, set, replicate, ◌+◌, get_or-set_same, get_or-set_other, slice_get, refl, sym, ap, subst, ◌∙◌, arith}
use Rattle.std.specs.Bool.{OnFalse}
use Rattle.std.specs.Option.{option_map, IfNone, IfSome}
use Rattle.wb_types.specs.declared.entry.Entry.{Entry}
use Rattle.wb_types.specs.declared.number.CBlock.{CBlock}
use Rattle.wb_types.specs.declared.number.OBlock.{OBlock}
use Rattle.wb_tree.specs.Mapping.{IsMapping}
use Rattle.wb_policy.specs.declared.order.Order.{Order}
use Rattle.wb_policy.specs.declared.order.Order.TheVariants.{Promote, Replace, Demote, Clean}
use Rattle.wb_policy.specs.Law.{Holdings, origins, IsMappedAt, IsUnmapped}
use Rattle.wb_space.specs.declared.block.Block.{Block}
use Rattle.std.proofs.lemmas.Bool.{cases_eq, cases_lt}
use Rattle.std.proofs.lemmas.List.{length-set, length-map, length-replicate, get_or-replicate, get_or_past, ext_get_or, get_or-map}
use Rattle.std.specs.List.{count_by}
use Rattle.std.proofs.lemmas.List.Sums.{sum_by-cons}
use Rattle.std.proofs.lemmas.Option.{slice_get_read, slice_get-get_or, slice_get_within}
use Rattle.wb_policy.proofs.Laws.{slice_get-set_other}
use Rattle.wb_desk.specs.Fields.{IsIndex}
use Rattle.wb_desk.specs.Desks.{DeskState, holdings, Takes, IsGivenLawfully, MayReserve, Names}

-- the entry of a block that stands there
pub record EntryFor (entries : List (Option Entry)) (b at : ℕ) : Type 0 where
  pub entry : Entry
  pub there : get_or entries at None ≡ Some entry
  pub origin : entry.origin.0 ≡ b

pub entry_for : (entries : List (Option Entry)) (b at : ℕ) → IsMappedAt (origins entries) b at → EntryFor entries b at
entry_for [] b at e = absurd (cc)
entry_for (None ∷ entries) b zero e = absurd (cc)
entry_for (Some x ∷ entries) b zero e = record { entry = x; there = refl; origin = same }
  where
    same : x.origin.0 ≡ b
    same = cc
entry_for (x ∷ entries) b (suc at) e = let r = entry_for entries b at e in record { entry = r.entry; there = r.there; origin = r.origin }

same_origin : (a b : OBlock) → a.0 ≡ b.0 → a ≡ b
same_origin a b e = ap (λ (n : ℕ). let o : OBlock = record { 0 = n } in o) e

pub same_cache : (c k : CBlock) → c.0 ≡ k.0 → c ≡ k
same_cache c k e = ap (λ (n : ℕ). let o : CBlock = record { 0 = n } in o) e

pub mapped_once : (cache_blocks origin_blocks : ℕ) (entries : List (Option Entry)) (b c k : ℕ) → IsMapping cache_blocks origin_blocks entries
    → IsMappedAt (origins entries) b c → IsMappedAt (origins entries) b k → c ≡ k
mapped_once n m entries b c k mapping e f =
    let x = entry_for entries b c e in
    let y = entry_for entries b k f in
    mapping.once c k x.entry y.entry x.there y.there (same_origin x.entry.origin y.entry.origin (x.origin ∙ sym y.origin))

pub outside_unmapped : (cache_blocks origin_blocks : ℕ) (entries : List (Option Entry)) (b : ℕ) → IsMapping cache_blocks origin_blocks entries
    → origin_blocks ≤ b → IsUnmapped (origins entries) b
outside_unmapped n m entries b mapping le at e =
    let x = entry_for entries b at e in
    omega (arith, (mapping.within at x.entry x.there).0, x.origin, le)

pub takes_once : (cache_blocks origin_blocks : ℕ) (entries : List (Option Entry)) (c k : CBlock) (order : Order) → IsMapping cache_blocks origin_blocks entries
    → Takes (origins entries) c order → Takes (origins entries) k order → c ≡ k
takes_once n m entries c k (Promote b x) mapping e f = e ∙ sym f
takes_once n m entries c k (Replace v b x) mapping e f = e ∙ sym f
takes_once n m entries c k (Demote b) mapping e f = same_cache c k (mapped_once n m entries b.0 c.0 k.0 mapping e f)
takes_once n m entries c k (Clean b) mapping e f = same_cache c k (mapped_once n m entries b.0 c.0 k.0 mapping e f)

pub none_takes : (mapping : Holdings) (b : ℕ) (order : Order) (place : Option CBlock) → ((c : CBlock) → Takes mapping c order → IsMappedAt mapping b c.0)
    → IfNone place (IsUnmapped mapping b) → IfNone place ((c : CBlock) → Takes mapping c order → ⊥)
none_takes mapping b order None at u = λ c t. u c.0 (at c t)
none_takes mapping b order (Some c) at u = tt

-- an order that stands takes its cache block
pub names_take : (mapping : Holdings) (block : Block) (c : CBlock) (order : Order) → Names mapping block c.0 order → Takes mapping c order
names_take mapping block c (Promote b x) n = same_cache c x n.0
names_take mapping block c (Replace v b x) n = same_cache c x n.0
names_take mapping block c (Demote b) n = n
names_take mapping block c (Clean b) n = n

-- a block that stands in one cache block stands in no other
pub elsewhere : (p a : ℕ) (X : Type 0) → ((p ≡ a → ⊥) → X) → OnFalse (eqb p a) X
elsewhere p a X f = by (eqb p a) refl
  where
    differs : true ≡ false → ⊥
    differs h = cc

    by : (b : Bool) → eqb p a ≡ b → OnFalse b X
    by true e = tt
    by false e = f (λ h. differs (sym (eq-eqb p a h) ∙ e))

-- a test that is not passed rules out what needs it
pub ruled_out : (b : Bool) (X Y : Type 0) → (Y → X) → OnFalse b (X → ⊥) → OnFalse b (Y → ⊥)
ruled_out true X Y f h = tt
ruled_out false X Y f h = λ y. h (f y)

-- what the index has for a block
pub place_right : (n : ℕ) (mapping : Holdings) (cached : List (Option CBlock)) (b : ℕ) (x : Option CBlock) → IsIndex n mapping cached → b < n → x ≡ get_or cached b x
    → IfSome x (λ c. IsMappedAt mapping b c.0) × IfNone x (IsUnmapped mapping b)
place_right n mapping cached b None i l e = (tt, i.missing b (slice_get_read cached n b None (sym i.size) l e))
place_right n mapping cached b (Some c) i l e = (i.found b c (slice_get_read cached n b (Some c) (sym i.size) l e), tt)

module _ {P : Type 0} where
  pub lawful_takes : (d : DeskState P) (c : CBlock) (order : Order) → IsGivenLawfully d c order → Takes (holdings d) c order
  lawful_takes d c (Promote b x) l = l.0
  lawful_takes d c (Replace v b x) l = l.0
  lawful_takes d c (Demote b) l = l
  lawful_takes d c (Clean b) l = l

  -- what may not be given in the cache block that it takes may not be given
  pub refused : (d : DeskState P) (c : CBlock) (order : Order) → IsMapping d.geometry.cache_blocks d.geometry.origin_blocks d.tree.entries
      → Takes (holdings d) c order → (MayReserve d c order → ⊥) → (k : CBlock) → MayReserve d k order → ⊥
  refused d c order mapping t never k m =
      never (subst (λ (x : CBlock). MayReserve d x order)
      (takes_once d.geometry.cache_blocks d.geometry.origin_blocks d.tree.entries k c order mapping (lawful_takes d k order m.lawful) t) m)

-- the index as far as a loop over the cache blocks has come
pub record IndexUpTo (origin_blocks : ℕ) (mapping : Holdings) (cached : List (Option CBlock)) (bound : ℕ) : Type 0 where
  pub size : length cached ≡ origin_blocks
  pub found : (b : ℕ) (c : CBlock) → slice_get cached b ≡ Some (Some c) → IsMappedAt mapping b c.0
  pub missing : (b k : ℕ) → slice_get cached b ≡ Some None → k < bound → IsMappedAt mapping b k → ⊥

pub mapped_there : (entries : List (Option Entry)) (c : ℕ) (e : Entry) → get_or entries c None ≡ Some e → IsMappedAt (origins entries) e.origin.0 c
mapped_there [] c e h = absurd (cc)
mapped_there (x ∷ entries) zero e h = ap (λ (y : Option Entry). Some (option_map (λ z. z.origin.0) y)) h
mapped_there (x ∷ entries) (suc c) e h = mapped_there entries c e h

some_of : (x y : Option CBlock) → (let a : Option (Option CBlock) = Some x in a) ≡ Some y → x ≡ y
some_of x y e = cc

pub index_entry : (n : ℕ) (entries : List (Option Entry)) (cached : List (Option CBlock)) (c : CBlock) (e : Entry) → get_or entries c.0 None ≡ Some e → e.origin.0 < n
    → IndexUpTo n (origins entries) cached c.0 → IndexUpTo n (origins entries) (set cached e.origin.0 (Some c)) (c.0 + 1)
index_entry n entries cached c e h l i = record {
  size = length-set cached e.origin.0 (Some c) ∙ i.size;
  found = λ b k g. elim (cases_eq b e.origin.0) [
    | inl q ↦ subst (λ (x : ℕ). IsMappedAt (origins entries) x k.0) (sym q)
        (subst (λ (x : CBlock). IsMappedAt (origins entries) e.origin.0 x.0) (here b k q g) (mapped_there entries c.0 e h))
    | inr m ↦ i.found b k (other b m ∙ g)
  ];
  missing = λ b k g le t. elim (cases_eq b e.origin.0) [
    | inl q ↦ absurd (no_none b q g)
    | inr m ↦ elim (cases_eq k c.0) [
      | inl q ↦ m (sym (origin_is b (subst (λ (x : ℕ). IsMappedAt (origins entries) b x) q t)))
      | inr p ↦ i.missing b k (other b m ∙ g) (omega arith) t
    ]
  ];
}
  where
    inside : e.origin.0 < length cached
    inside = omega (arith, i.size)

    at_same : slice_get (set cached e.origin.0 (Some c)) e.origin.0 ≡ Some (Some c)
    at_same = slice_get-get_or (set cached e.origin.0 (Some c)) e.origin.0 None (omega (arith, length-set cached e.origin.0 (Some c)))
        ∙ ap (λ (x : Option CBlock). Some x) (get_or-set_same cached e.origin.0 (Some c) None inside)

    here : (b : ℕ) (k : CBlock) → b ≡ e.origin.0 → slice_get (set cached e.origin.0 (Some c)) b ≡ Some (Some k) → c ≡ k
    here b k q g = some_cache (some_of (Some c) (Some k) (sym at_same ∙ ap (λ (x : ℕ). slice_get (set cached e.origin.0 (Some c)) x) (sym q) ∙ g))
      where
        some_cache : (let x : Option CBlock = Some c in x) ≡ Some k → c ≡ k
        some_cache s = cc

    no_none : (b : ℕ) → b ≡ e.origin.0 → slice_get (set cached e.origin.0 (Some c)) b ≡ Some None → ⊥
    no_none b q g = differs (some_of (Some c) None (sym at_same ∙ ap (λ (x : ℕ). slice_get (set cached e.origin.0 (Some c)) x) (sym q) ∙ g))
      where
        differs : (let x : Option CBlock = Some c in x) ≡ None → ⊥
        differs s = cc

    other : (b : ℕ) → (b ≡ e.origin.0 → ⊥) → slice_get cached b ≡ slice_get (set cached e.origin.0 (Some c)) b
    other b m = sym (slice_get-set_other cached e.origin.0 b (Some c) m)

    origin_is : (b : ℕ) → IsMappedAt (origins entries) b c.0 → e.origin.0 ≡ b
    origin_is b t = let x = entry_for entries b c.0 t in ap (λ (y : Entry). y.origin.0) (same (sym h ∙ x.there)) ∙ x.origin
      where
        same : {f : Entry} → (let y : Option Entry = Some e in y) ≡ Some f → e ≡ f
        same s = cc

pub index_none : (n : ℕ) (mapping : Holdings) (cached : List (Option CBlock)) (c : ℕ) → ((b : ℕ) → IsMappedAt mapping b c → ⊥) → IndexUpTo n mapping cached c → IndexUpTo n mapping cached (c + 1)
index_none n mapping cached c nobody i = record {
  size = i.size;
  found = i.found;
  missing = λ b k g le t. elim (cases_eq k c) [
    | inl q ↦ nobody b (subst (λ (x : ℕ). IsMappedAt mapping b x) q t)
    | inr p ↦ i.missing b k g (omega arith) t
  ];
}

pub no_entry : (entries : List (Option Entry)) (c : ℕ) → get_or entries c None ≡ None → (b : ℕ) → IsMappedAt (origins entries) b c → ⊥
no_entry entries c e b t = let x = entry_for entries b c t in differs (sym e ∙ x.there)
  where
    differs : {f : Entry} → (let y : Option Entry = None in y) ≡ Some f → ⊥
    differs s = cc

pub index_last : (n m : ℕ) (entries : List (Option Entry)) (cached : List (Option CBlock)) → length entries ≡ m → IndexUpTo n (origins entries) cached m → IsIndex n (origins entries) cached
index_last n m entries cached size i = record {
  size = i.size;
  found = i.found;
  missing = λ b g at e. i.missing b at g (inside b at e) e;
}
  where
    inside : (b at : ℕ) → IsMappedAt (origins entries) b at → at < m
    inside b at e = omega (arith, slice_get_within (origins entries) at (Some b) e, length-map entries (option_map (λ x. x.origin.0)), size)

pub mapped_list : (n : ℕ) (entries : List (Option Entry)) (mapped : List Bool) → length mapped ≡ n → length entries ≡ n
    → ((k : ℕ) → k < n → get_or mapped k false ≡ is_some (get_or entries k None)) → mapped ≡ map is_some entries
mapped_list n entries mapped s t each = ext_get_or false mapped (map is_some entries) (omega (arith, length-map entries is_some))
    (λ k l. each k (omega arith) ∙ sym (get_or-map is_some entries k None false (omega arith)))

pub count_list : (entries : List (Option Entry)) → count_by (λ m. m) (map is_some entries) ≡ count_by is_some entries
count_list [] = refl
count_list (e ∷ entries) = omega (arith, sum_by-cons (λ (m : Bool). cond m 1 0) (is_some e) (map is_some entries), sum_by-cons (λ (x : Option Entry). cond (is_some x) 1 0) e entries, count_list entries)

pub index_end : (n : ℕ) (mapping : Holdings) (cached : List (Option CBlock)) (bound m : ℕ) → m ≤ bound → IndexUpTo n mapping cached bound → IndexUpTo n mapping cached m
index_end n mapping cached bound m le i = record { size = i.size; found = i.found; missing = λ b k g l t. i.missing b k g (omega arith) t }

-- a mapping of one entry at most
pub one_mapping : (n m c : ℕ) (e : Entry) → e.origin.0 < m → e.hint ≤ 16 → IsMapping n m (set (replicate n None) c (Some e))
one_mapping n m c e l h = record {
  size = length-set (replicate n None) c (Some e) ∙ length-replicate {A = Option Entry} n None;
  within = λ b x g. let p = only b x g in (subst (λ (y : Entry). y.origin.0 < m) p.1 l, subst (λ (y : Entry). y.hint ≤ 16) p.1 h);
  once = λ b k x y g q o. (only b x g).0 ∙ sym (only k y q).0;
}
  where
    none_at : (b : ℕ) → get_or (replicate n None) b (let d : Option Entry = None in d) ≡ None
    none_at b = elim (cases_lt b n) [
      | inl i ↦ get_or-replicate {A = Option Entry} n b None None i
      | inr p ↦ get_or_past (replicate n None) b None (omega (arith, p, length-replicate {A = Option Entry} n None))
    ]

    nothing : (x : Entry) → (let d : Option Entry = None in d) ≡ Some x → ⊥
    nothing x s = cc

    some_entry : (x : Entry) → (let d : Option Entry = Some e in d) ≡ Some x → e ≡ x
    some_entry x s = cc

    only : (b : ℕ) (x : Entry) → get_or (set (replicate n None) c (Some e)) b None ≡ Some x → (b ≡ c) × (e ≡ x)
    only b x g = elim (cases_eq b c) [
      | inl q ↦ (q, some_entry x (sym (here q) ∙ g))
      | inr p ↦ absurd (nothing x (sym (none_at b) ∙ sym (get_or-set_other (replicate n None) c b (Some e) None p) ∙ g))
    ]
      where
        here : b ≡ c → get_or (set (replicate n None) c (Some e)) b None ≡ Some e
        here q = elim (cases_lt b n) [
          | inl i ↦ ap (λ (k : ℕ). get_or (set (replicate n None) c (Some e)) k None) q ∙ get_or-set_same (replicate n None) c (Some e) None (omega (arith, q, i, length-replicate {A = Option Entry} n None))
          | inr p ↦ absurd (nothing x (sym (get_or_past (set (replicate n None) c (Some e)) b None (omega (arith, p, length-set (replicate n None) c (Some e), length-replicate {A = Option Entry} n None))) ∙ g))
        ]
