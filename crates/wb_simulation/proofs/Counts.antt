-- Numbers of sectors seen by block and offset: what is put in, raised, or made the greater of two.
use Rattle.std.proofs.Common.{◌≡◌, ◌<◌, ◌+◌, ◌*◌, ◌∙◌, ◌++◌, inl, inr, ℕ, zero, suc, Bool, true, false, cond, List, [], ◌∷◌, length, max, refl, sym, ap, subst, arith, slice_get, slice_set, nat_lt, unwrap_or}
use Rattle.std.proofs.lemmas.Bool.{cases_eq, ltb-true, lt-ltb}
use Rattle.std.proofs.lemmas.List.{get_or-set_same, get_or-set_other, length-set}
use Rattle.std.proofs.lemmas.Option.{unwrap_or-slice_get}
use Rattle.wb_contents.specs.Volume.{changed_at}
use Rattle.wb_contents.proofs.Sectors.{Elsewhere, here_is, elsewhere_is}
use Rattle.wb_link.specs.Clerk.{Entry, abstract_raised as raised_there}
use Rattle.wb_promise.specs.Clerk.{Position, raised, all_raised, greater_of}
use Rattle.wb_simulation.specs.Noting.{counts_by_block, AreEntries}
use Rattle.wb_contents.proofs.Devices.{apart}

-- two functions of block and offset that agree everywhere
pub everywhere : {X : Type 0} (f g : ℕ → ℕ → X) → ((b o : ℕ) → f b o ≡ g b o) → f ≡ g
everywhere f g h = λ i b o. h b o i

-- a number put into the list is put into that view
pub set_count : (size : ℕ) (counts : List ℕ) (b o v : ℕ) → o < size → b * size + o < length counts →
    counts_by_block size (slice_set counts (b * size + o) v) ≡ changed_at (counts_by_block size counts) b o v
set_count size counts b o v l inside = everywhere (counts_by_block size (slice_set counts at v)) (changed_at (counts_by_block size counts) b o v)
    (λ b' o'. elim (cases_eq b' b) [
      | inr n ↦ there b' o' (inl n)
      | inl e ↦ elim (cases_eq o' o) [
        | inr n ↦ there b' o' (inr n)
        | inl f ↦ ap (λ k. counts_by_block size (slice_set counts at v) k o') e ∙ ap (λ k. counts_by_block size (slice_set counts at v) b k) f ∙ here
            ∙ sym (here_is (counts_by_block size counts) b o v) ∙ sym (ap (λ k. changed_at (counts_by_block size counts) b o v b k) f) ∙ sym (ap (λ k. changed_at (counts_by_block size counts) b o v k o') e)
      ]
    ]) where
      at : ℕ
      at = b * size + o

      here : counts_by_block size (slice_set counts at v) b o ≡ v
      here = ap (λ t. cond t (unwrap_or (slice_get (slice_set counts at v) at) 0) 0) (lt-ltb o size l) ∙ unwrap_or-slice_get (slice_set counts at v) at 0 ∙ get_or-set_same counts at v 0 inside

      by : (b' o' : ℕ) → Elsewhere b o b' o' → (t : Bool) → nat_lt o' size ≡ t → cond t (unwrap_or (slice_get (slice_set counts at v) (b' * size + o')) 0) 0 ≡ cond t (unwrap_or (slice_get counts (b' * size + o')) 0) 0
      by b' o' n true e = unwrap_or-slice_get (slice_set counts at v) (b' * size + o') 0 ∙ get_or-set_other counts at (b' * size + o') v 0 (apart size b o b' o' l (ltb-true o' size e) n) ∙ sym (unwrap_or-slice_get counts (b' * size + o') 0)
      by b' o' n false e = refl

      there : (b' o' : ℕ) → Elsewhere b o b' o' → counts_by_block size (slice_set counts at v) b' o' ≡ changed_at (counts_by_block size counts) b o v b' o'
      there b' o' n = by b' o' n (nat_lt o' size) refl ∙ sym (elsewhere_is (counts_by_block size counts) b o b' o' v n)

-- the number of a sector of a block
count_there : (size : ℕ) (counts : List ℕ) (b o : ℕ) → o < size → counts_by_block size counts b o ≡ unwrap_or (slice_get counts (b * size + o)) 0
count_there size counts b o l = ap (λ t. cond t (unwrap_or (slice_get counts (b * size + o)) 0) 0) (lt-ltb o size l)

-- ---- raising

raised_once : (size : ℕ) (finished : List ℕ) (b o position : ℕ) → o < size → b * size + o < length finished →
    counts_by_block size (raised finished (record { sector = b * size + o; position = position })) ≡ changed_at (counts_by_block size finished) b o (max (counts_by_block size finished b o) position)
raised_once size finished b o position l inside =
    set_count size finished b o (max (unwrap_or (slice_get finished (b * size + o)) 0) position) l inside
    ∙ ap (λ k. changed_at (counts_by_block size finished) b o (max k position)) (sym (count_there size finished b o l))

max_turns : (a b c : ℕ) → max (max a b) c ≡ max (max a c) b
max_turns a b c = omega arith

-- which of two entries is raised first is of no account
raised_turns : (finished : List ℕ) (i x j y : ℕ) → raised (raised finished (record { sector = i; position = x })) (record { sector = j; position = y }) ≡ raised (raised finished (record { sector = j; position = y })) (record { sector = i; position = x })
raised_turns (v ∷ vs) zero x zero y = ap (λ k. k ∷ vs) (max_turns v x y)
raised_turns (v ∷ vs) (suc i) x (suc j) y = ap (λ k. v ∷ k) (raised_turns vs i x j y)
raised_turns finished i x j y = refl

raised_before : (finished : List ℕ) (p : Position) (entries : List Position) → all_raised (raised finished p) entries ≡ raised (all_raised finished entries) p
raised_before finished p [] = refl
raised_before finished p (q ∷ entries) = ap (λ (f : List ℕ). all_raised f entries) (raised_turns finished p.sector p.position q.sector q.position) ∙ raised_before (raised finished q) p entries

all_raised-append : (finished : List ℕ) (entries : List Position) (p : Position) → all_raised finished (entries ++ p ∷ []) ≡ raised (all_raised finished entries) p
all_raised-append finished [] p = refl
all_raised-append finished (q ∷ entries) p = all_raised-append (raised finished q) entries p

pub all_raised-length : (finished : List ℕ) (entries : List Position) → length (all_raised finished entries) ≡ length finished
all_raised-length finished [] = refl
all_raised-length finished (q ∷ entries) = all_raised-length (raised finished q) entries ∙ length-set finished q.sector (max (unwrap_or (slice_get finished q.sector) 0) q.position)

-- one entry more
pub one_entry_more : (size sectors b o position : ℕ) (entered : List Position) (there : List Entry) → o < size → b * size + o < sectors → AreEntries size sectors entered there →
    AreEntries size sectors (entered ++ record { sector = b * size + o; position = position } ∷ []) (record { block = b; offset = o; position = position } ∷ there)
one_entry_more size sectors b o position entered there l inside are finished same =
    let p : Position = record { sector = b * size + o; position = position } in
    ap (raised_there there) (sym (raised_once size finished b o position l (subst (λ (k : ℕ). b * size + o < k) (sym same) inside)))
    ∙ are (raised finished p) (length-set finished p.sector (max (unwrap_or (slice_get finished p.sector) 0) p.position) ∙ same)
    ∙ ap (counts_by_block size) (raised_before finished p entered ∙ sym (all_raised-append finished entered p))

pub no_entries_alike : (size sectors : ℕ) → AreEntries size sectors [] []
no_entries_alike size sectors finished same = refl

-- ---- the greater of two

unwrap_greater : (xs ys : List ℕ) (at : ℕ) → length xs ≡ length ys → unwrap_or (slice_get (greater_of xs ys) at) 0 ≡ max (unwrap_or (slice_get xs at) 0) (unwrap_or (slice_get ys at) 0)
unwrap_greater [] [] at e = refl
unwrap_greater (x ∷ xs) (y ∷ ys) zero e = refl
unwrap_greater (x ∷ xs) (y ∷ ys) (suc at) e = unwrap_greater xs ys at (omega (arith, e))
unwrap_greater xs ys at e = absurd (omega (arith, e))

pub greater_counts : (size : ℕ) (xs ys : List ℕ) → length xs ≡ length ys → counts_by_block size (greater_of xs ys) ≡ (λ b o. max (counts_by_block size xs b o) (counts_by_block size ys b o))
greater_counts size xs ys e = everywhere (counts_by_block size (greater_of xs ys)) (λ b o. max (counts_by_block size xs b o) (counts_by_block size ys b o)) (λ b o. by (b * size + o) (nat_lt o size))
  where
    by : (at : ℕ) (t : Bool) → cond t (unwrap_or (slice_get (greater_of xs ys) at) 0) 0 ≡ max (cond t (unwrap_or (slice_get xs at) 0) 0) (cond t (unwrap_or (slice_get ys at) 0) 0)
    by at true = unwrap_greater xs ys at e
    by at false = refl

pub greater-length : (xs ys : List ℕ) → length xs ≡ length ys → length (greater_of xs ys) ≡ length xs
greater-length [] [] e = refl
greater-length (x ∷ xs) (y ∷ ys) e = ap suc (greater-length xs ys (omega (arith, e)))
greater-length xs ys e = absurd (omega (arith, e))
