-- Parts that are halved and put together.
use Rattle.std.proofs.Common.{◌≡◌, ◌≢◌, ℕ, zero, suc, ◌+◌, ◌-◌, ◌*◌, ◌≤◌, List, [], ◌∷◌, ◌++◌, set, sym, refl, ap, ◌∙◌, ⊎_elim, arith}
use mathlib.Core.Option.{some}
use lib.ListN.{get_elem?}
use Rattle.atomic_table.proofs.Lists.{at_set, at_snoc, set_else}
use Rattle.wb_cells.specs.declared.view.Fraction.{Fraction}
use Rattle.wb_cells.specs.declared.view.View.{View}
use Rattle.wb_words.specs.Cards.{total}
use Rattle.wb_cells.specs.Fractions.{doubled, pieces_at, IsWhole, half, together}
use Rattle.wb_cells.specs.Views.{view_pieces, MakeWhole}
use Rattle.wb_words.proofs.Totals.{total-set, total_two, total-same, total-append}

doubled-add : (m n k : ℕ) → doubled (m + n) k ≡ doubled m k + doubled n k
doubled-add m n zero = refl
doubled-add m n (suc k) = let r = doubled-add m n k in omega arith

doubled-doubled : (n j k : ℕ) → doubled (doubled n j) k ≡ doubled n (j + k)
doubled-doubled n j zero = ap (doubled n) (omega arith)
doubled-doubled n j (suc k) = let r = doubled-doubled n j k in let e : j + suc k ≡ suc (j + k) = omega arith in let s = ap (doubled n) e in omega arith

pub doubled-le : (n k : ℕ) → n ≤ doubled n k
doubled-le n zero = omega arith
doubled-le n (suc k) = let r = doubled-le n k in omega arith

doubled-zero : (k : ℕ) → doubled 0 k ≡ 0
doubled-zero zero = refl
doubled-zero (suc k) = let r = doubled-zero k in omega arith

-- once more
deeper : (d : ℕ) (p : Fraction) → p.halvings ≤ d → pieces_at (suc d) p ≡ 2 * pieces_at d p
deeper d p h = let e : suc d - p.halvings ≡ suc (d - p.halvings) = omega arith in ap (doubled p.pieces) e

half_is : (d : ℕ) (p : Fraction) → p.halvings ≤ d → pieces_at (suc d) (half p) ≡ pieces_at d p
half_is d p h = let e : suc d - (p.halvings + 1) ≡ d - p.halvings = omega arith in ap (doubled p.pieces) e

together_is : (d : ℕ) (p q : Fraction) → p.halvings ≤ d → q.halvings ≤ d → pieces_at d (together p q) ≡ pieces_at d p + pieces_at d q
together_is d p q hp hq = let e : ℕ = p.halvings + (q.halvings - p.halvings) in let m : ℕ = doubled p.pieces (q.halvings - p.halvings) in let n : ℕ = doubled q.pieces (p.halvings - q.halvings) in
    let a : (q.halvings - p.halvings) + (d - e) ≡ d - p.halvings = omega arith in let b : (p.halvings - q.halvings) + (d - e) ≡ d - q.halvings = omega arith in
    let sum = doubled-add m n (d - e) in let left = doubled-doubled p.pieces (q.halvings - p.halvings) (d - e) ∙ ap (doubled p.pieces) a in
    let right = doubled-doubled q.pieces (p.halvings - q.halvings) (d - e) ∙ ap (doubled q.pieces) b in omega arith

whole_is : (d : ℕ) (p : Fraction) → p.halvings ≤ d → IsWhole p → pieces_at d p ≡ doubled 1 d
whole_is d p h all = ap (λ (n : ℕ). doubled n (d - p.halvings)) all ∙ (doubled-doubled 1 p.halvings (d - p.halvings) ∙ ap (doubled 1) (omega arith))

pub some_pieces : (d : ℕ) (p : Fraction) → pieces_at d p ≡ 0 → p.pieces ≡ 0
some_pieces d p z = let l = doubled-le p.pieces (d - p.halvings) in omega arith

no_pieces : (d : ℕ) (p : Fraction) → p.pieces ≡ 0 → pieces_at d p ≡ 0
no_pieces d p z = ap (λ (n : ℕ). doubled n (d - p.halvings)) z ∙ doubled-zero (d - p.halvings)

total_deeper : (d : ℕ) (vs : List View) → ((j : ℕ) (v : View) → get_elem? vs j ≡ some v → v.fraction.halvings ≤ d) → total (view_pieces (suc d)) vs ≡ 2 * total (view_pieces d) vs
total_deeper d [] deep = refl
total_deeper d (v ∷ vs) deep = let a = deeper d v.fraction (deep 0 v refl) in let r = total_deeper d vs (λ j. deep (suc j)) in omega arith

-- nobody else has the whole
pub crowd : (vs : List View) → MakeWhole vs → (id : ℕ) (v : View) (j : ℕ) (u : View) → get_elem? vs id ≡ some v → v.fraction.pieces ≢ 0 → j ≢ id → get_elem? vs j ≡ some u → IsWhole u.fraction → ⊥
crowd vs m id v j u at some_part other there all = let two = total_two (view_pieces m.depth) vs j id u v other there at in
    let full = whole_is m.depth u.fraction (m.deep j u there) all in let sum = m.sum in some_part (some_pieces m.depth v.fraction (omega arith))

-- who has the whole leaves nothing to the others
pub whole_sum : (vs : List View) (m : MakeWhole vs) (id : ℕ) (v : View) → get_elem? vs id ≡ some v → IsWhole v.fraction → total (view_pieces m.depth) vs ≡ view_pieces m.depth v
whole_sum vs m id v at all = m.sum ∙ sym (whole_is m.depth v.fraction (m.deep id v at) all)

pub same_parts : (vs : List View) (id : ℕ) (v w : View) → get_elem? vs id ≡ some v → w.fraction ≡ v.fraction → MakeWhole vs → MakeWhole (set vs id w)
same_parts vs id v w at same m = record {
  depth = m.depth;
  deep = λ j u e. ⊎_elim (λ (t : (j ≡ id) × (w ≡ u)). let h : u.fraction.halvings ≡ v.fraction.halvings = ap (λ (y : View). y.fraction.halvings) (sym t.1) ∙ ap (λ (p : Fraction). p.halvings) same in let d = m.deep id v at in omega arith)
      (λ (t : (j ≢ id) × (get_elem? vs j ≡ some u)). m.deep j u t.1) (at_set vs id j w u e);
  sum = total-same (view_pieces m.depth) vs id v w at (ap (pieces_at m.depth) same) ∙ m.sum;
}

-- a part is cut in two
pub split_parts : (vs : List View) (id : ℕ) (v left right : View) → get_elem? vs id ≡ some v → left.fraction ≡ half v.fraction → right.fraction ≡ half v.fraction → MakeWhole vs → MakeWhole (set vs id left ++ right ∷ [])
split_parts vs id v left right at l r m = let d : ℕ = m.depth in let low = m.deep id v at in let halved = half_is d v.fraction low in
    let hl : left.fraction.halvings ≡ v.fraction.halvings + 1 = ap (λ (p : Fraction). p.halvings) l in let hr : right.fraction.halvings ≡ v.fraction.halvings + 1 = ap (λ (p : Fraction). p.halvings) r in
    let pl : view_pieces (suc d) left ≡ view_pieces d v = ap (pieces_at (suc d)) l ∙ halved in let pr : view_pieces (suc d) right ≡ view_pieces d v = ap (pieces_at (suc d)) r ∙ halved in record {
      depth = suc d;
      deep = λ j u e. ⊎_elim (λ g. ⊎_elim (λ (t : (j ≡ id) × (left ≡ u)). let h : left.fraction.halvings ≡ u.fraction.halvings = ap (λ (y : View). y.fraction.halvings) t.1 in omega arith)
          (λ (t : (j ≢ id) × (get_elem? vs j ≡ some u)). let h = m.deep j u t.1 in omega arith) (at_set vs id j left u g))
          (λ (t : right ≡ u). let h : right.fraction.halvings ≡ u.fraction.halvings = ap (λ (y : View). y.fraction.halvings) t in omega arith) (at_snoc (set vs id left) right u j e);
      sum = let a = total-set (view_pieces (suc d)) vs id v left at in let b = total-append (view_pieces (suc d)) (set vs id left) (right ∷ []) in
          let twice = total_deeper d vs m.deep in let old = deeper d v.fraction low in let sum = m.sum in omega arith;
    }

-- two parts are put together, and one has none left
pub join_parts : (vs : List View) (id : ℕ) (v both : View) (other : ℕ) (w spent : View) → get_elem? vs id ≡ some v → other ≢ id → get_elem? (set vs id both) other ≡ some w
    → both.fraction ≡ together v.fraction w.fraction → spent.fraction.pieces ≡ 0 → spent.fraction.halvings ≡ 0 → MakeWhole vs → MakeWhole (set (set vs id both) other spent)
join_parts vs id v both other w spent at apart there b none flat m = let d : ℕ = m.depth in let stood : get_elem? vs other ≡ some w = sym (set_else vs id other both apart) ∙ there in
    let lv = m.deep id v at in let lw = m.deep other w stood in
    let hb : both.fraction.halvings ≡ v.fraction.halvings + (w.fraction.halvings - v.fraction.halvings) = ap (λ (p : Fraction). p.halvings) b in
    let pb : view_pieces d both ≡ view_pieces d v + view_pieces d w = ap (pieces_at d) b ∙ together_is d v.fraction w.fraction lv lw in let ps = no_pieces d spent.fraction none in record {
      depth = d;
      deep = λ j u e. ⊎_elim (λ (t : (j ≡ other) × (spent ≡ u)). let h : spent.fraction.halvings ≡ u.fraction.halvings = ap (λ (y : View). y.fraction.halvings) t.1 in omega arith)
          (λ (t : (j ≢ other) × (get_elem? (set vs id both) j ≡ some u)). ⊎_elim (λ (q : (j ≡ id) × (both ≡ u)). let h : both.fraction.halvings ≡ u.fraction.halvings = ap (λ (y : View). y.fraction.halvings) q.1 in omega arith)
          (λ (q : (j ≢ id) × (get_elem? vs j ≡ some u)). m.deep j u q.1) (at_set vs id j both u t.1)) (at_set (set vs id both) other j spent u e);
      sum = let a = total-set (view_pieces d) vs id v both at in let c = total-set (view_pieces d) (set vs id both) other w spent there in let sum = m.sum in omega arith;
    }

-- two parts that were put together are parted again
pub part_again : (vs : List View) (id : ℕ) (v left right : View) → get_elem? vs id ≡ some v → v.fraction ≡ together left.fraction right.fraction → MakeWhole vs → MakeWhole (set vs id left ++ right ∷ [])
part_again vs id v left right at is m = let d : ℕ = m.depth in let low = m.deep id v at in
    let high : v.fraction.halvings ≡ left.fraction.halvings + (right.fraction.halvings - left.fraction.halvings) = ap (λ (p : Fraction). p.halvings) is in
    let pieces : view_pieces d v ≡ view_pieces d left + view_pieces d right = ap (pieces_at d) is ∙ together_is d left.fraction right.fraction (omega arith) (omega arith) in record {
      depth = d;
      deep = λ j u e. ⊎_elim (λ g. ⊎_elim (λ (t : (j ≡ id) × (left ≡ u)). let h : left.fraction.halvings ≡ u.fraction.halvings = ap (λ (y : View). y.fraction.halvings) t.1 in omega arith)
          (λ (t : (j ≢ id) × (get_elem? vs j ≡ some u)). m.deep j u t.1) (at_set vs id j left u g))
          (λ (t : right ≡ u). let h : right.fraction.halvings ≡ u.fraction.halvings = ap (λ (y : View). y.fraction.halvings) t in omega arith) (at_snoc (set vs id left) right u j e);
      sum = let a = total-set (view_pieces d) vs id v left at in let b = total-append (view_pieces d) (set vs id left) (right ∷ []) in let sum = m.sum in omega arith;
    }
