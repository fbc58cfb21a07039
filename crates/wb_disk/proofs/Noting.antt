-- Which sectors are noted as written since the last sync, and what a sync of these alone leaves.
use Rattle.std.proofs.Common.{◌≡◌, ◌∙◌, ◌+◌, ◌<◌, ◌≤◌, ℕ, zero, suc, Bool, true, false, List, [], ◌∷◌, Some, inl, inr, length, get_or, map, replicate, refl, sym, ap, arith, subst, slice_set}
use Rattle.std.proofs.lemmas.Bool.{cases_eq, cases_lt, false≢true}
use Rattle.std.proofs.lemmas.List.{get_or-set_same, get_or-set_other, length-set, length-map, length-replicate, map-set}
use Rattle.std.proofs.lemmas.Option.{slice_get_within}
use Rattle.std.specs.List.{slice_get}
use Rattle.wb_types.proofs.Lists.{set_cases}
use Rattle.wb_disk.proofs.Sectors.{map-set_same}
use Rattle.wb_bits.specs.Leasts.{IsLeastFrom}
use Rattle.wb_disk.specs.Device.{Content, History, last_of, newest, only, synced}
use Rattle.wb_disk.specs.Failing.{sync_landed, synced_from}
use Rattle.wb_disk.specs.Stored.{history, histories, cut_at_mark, IsNoted}
use Rattle.wb_disk.specs.declared.pending.Pending.{Pending}

-- a member stands before the list's end
pub member_inside : (noted : List Bool) (at : ℕ) → get_or noted at false ≡ true → at < length noted
member_inside [] at e = absurd (false≢true e)
member_inside (b ∷ noted) zero e = omega arith
member_inside (b ∷ noted) (suc at) e = let deeper = member_inside noted at e in omega (arith, deeper)

-- a sector with its durable content alone is as its sync leaves it
pub settled_alone : (first : Content) (later : List Content) → later ≡ [] → only (last_of first later) ≡ record { first = first; later = later }
settled_alone first [] e = refl
settled_alone first (c ∷ later) e = absurd (cc)

pub landed_done : (landed : Bool) (h : History) → (landed ≡ true → h.later ≡ []) → sync_landed landed h ≡ h
landed_done false h f = refl
landed_done true h f = settled_alone h.first h.later (f refl)

-- a sync of one sector on which the whole sync lands changes nothing of what that leaves
pub synced_from-settled : (lands : ℕ → Bool) (at : ℕ) (hs : List History) (i k : ℕ) (h : History) → at + i ≡ k → slice_get hs i ≡ Some h → lands k ≡ true →
    synced_from lands at (slice_set hs i (only (newest h))) ≡ synced_from lands at hs
synced_from-settled lands at [] i k h s e on = absurd (cc)
synced_from-settled lands at (g ∷ hs) zero k h s e on =
    let same : g ≡ h = cc in
    let here : at ≡ k = omega arith in
    let here_yes : lands at ≡ true = ap lands here ∙ on in
    ap (λ f. f ∷ synced_from lands (suc at) hs) (ap (λ t. sync_landed t (only (newest h))) here_yes ∙ sym (ap (λ t. sync_landed t g) here_yes ∙ ap (λ x. only (newest x)) same))
synced_from-settled lands at (g ∷ hs) (suc i) k h s e on =
    let step : suc at + i ≡ k = omega arith in
    ap (λ rest. sync_landed (lands at) g ∷ rest) (synced_from-settled lands (suc at) hs i k h step e on)

-- where nothing is left to be synced, a sync leaves all as it is
pub synced_from-done : (lands : ℕ → Bool) (at : ℕ) (hs : List History) → ((i : ℕ) (h : History) → slice_get hs i ≡ Some h → lands (at + i) ≡ true → h.later ≡ []) → synced_from lands at hs ≡ hs
synced_from-done lands at [] done = refl
synced_from-done lands at (h ∷ hs) done =
    let zero_more : at + 0 ≡ at = omega arith in
    let first = landed_done (lands at) h (λ on. done 0 h refl (ap lands zero_more ∙ on)) in
    let rest = synced_from-done lands (suc at) hs (λ i g e on. let step : at + suc i ≡ suc at + i = omega arith in done (suc i) g e (ap lands step ∙ on)) in
    ap (λ f. f ∷ synced_from lands (suc at) hs) first ∙ ap (λ l. h ∷ l) rest

-- a sync that lands on every sector
pub synced_everywhere : (at : ℕ) (hs : List History) → synced_from (λ k. true) at hs ≡ synced hs
synced_everywhere at [] = refl
synced_everywhere at (h ∷ hs) = ap (λ rest. only (newest h) ∷ rest) (synced_everywhere (suc at) hs)

-- a sector that is written and noted
pub noted-written : (hs : List History) (noted : List Bool) (at : ℕ) (g : History) → IsNoted hs noted → at < length noted → IsNoted (slice_set hs at g) (slice_set noted at true)
noted-written hs noted at g n inside = record {
  size = length-set noted at true ∙ n.size ∙ sym (length-set hs at g);
  written = λ i h e off. elim (set_cases hs at i g h e) [
    | inl w ↦ absurd (false≢true (sym (ap (λ k. get_or (slice_set noted at true) k false) (sym w.0) ∙ off) ∙ get_or-set_same noted at true false inside))
    | inr w ↦ n.written i h w.1 (sym (get_or-set_other noted at i true false w.0) ∙ off)
  ];
}

-- a stored sector that shows the same
pub noted-same : (ps : List Pending) (noted : List Bool) (at : ℕ) (p q : Pending) → IsNoted (histories ps) noted → slice_get ps at ≡ Some p → history q ≡ history p → IsNoted (histories (slice_set ps at q)) noted
noted-same ps noted at p q n here same = subst (λ (hs : List History). IsNoted hs noted) (sym (map-set_same history ps at p q here same)) n

-- a stored sector that is written
pub noted-stored : (ps : List Pending) (noted : List Bool) (at : ℕ) (p q : Pending) → IsNoted (histories ps) noted → slice_get ps at ≡ Some p → IsNoted (histories (slice_set ps at q)) (slice_set noted at true)
noted-stored ps noted at p q n here =
    let inside : at < length noted = omega (arith, slice_get_within ps at p here, n.size, length-map ps history) in
    subst (λ (hs : List History). IsNoted hs (slice_set noted at true)) (sym (map-set history ps at q)) (noted-written (histories ps) noted at (history q) n inside)

-- a sector that has no later content any more
pub noted-settled : (hs : List History) (noted : List Bool) (at : ℕ) (g : History) → IsNoted hs noted → g.later ≡ [] → IsNoted (slice_set hs at g) noted
noted-settled hs noted at g n alone = record {
  size = n.size ∙ sym (length-set hs at g);
  written = λ i h e off. elim (set_cases hs at i g h e) [
    | inl w ↦ ap (λ x. x.later) w.1 ∙ alone
    | inr w ↦ n.written i h w.1 off
  ];
}

-- nothing is to be noted where each sector has one content alone
pub noted-alone : (hs : List History) (noted : List Bool) → length noted ≡ length hs → ((i : ℕ) (h : History) → slice_get hs i ≡ Some h → h.later ≡ []) → IsNoted hs noted
noted-alone hs noted size alone = record { size = size; written = λ i h e off. alone i h e }

pub synced-alone : (hs : List History) (i : ℕ) (h : History) → slice_get (synced hs) i ≡ Some h → h.later ≡ []
synced-alone [] i h e = absurd (cc)
synced-alone (g ∷ hs) zero h e = let is : only (newest g) ≡ h = cc in ap (λ x. x.later) (sym is)
synced-alone (g ∷ hs) (suc i) h e = synced-alone hs i h e

-- after a sync, with nothing noted any more
pub noted-synced : (noted : List Bool) (hs gs : List History) → gs ≡ synced hs → length noted ≡ length hs → IsNoted gs (replicate (length noted) false)
noted-synced noted hs gs e size = noted-alone gs (replicate (length noted) false) (length-replicate (length noted) false ∙ size ∙ sym (ap length e ∙ length-map hs (λ h. only (newest h))))
    (λ i h here. synced-alone hs i h (ap (λ l. slice_get l i) (sym e) ∙ here))

cut-alone : (ps : List Pending) (i : ℕ) (h : History) → slice_get (map cut_at_mark ps) i ≡ Some h → h.later ≡ []
cut-alone [] i h e = absurd (cc)
cut-alone (p ∷ ps) zero h e = let is : cut_at_mark p ≡ h = cc in ap (λ x. x.later) (sym is)
cut-alone (p ∷ ps) (suc i) h e = cut-alone ps i h e

-- after a crash, likewise
pub noted-cut : (noted : List Bool) (hs gs : List History) (ps : List Pending) → gs ≡ map cut_at_mark ps → histories ps ≡ hs → length noted ≡ length hs → IsNoted gs (replicate (length noted) false)
noted-cut noted hs gs ps e was size = noted-alone gs (replicate (length noted) false)
    (length-replicate (length noted) false ∙ size ∙ sym (ap length e ∙ length-map ps cut_at_mark ∙ sym (length-map ps history) ∙ ap length was))
    (λ i h here. cut-alone ps i h (ap (λ l. slice_get l i) (sym e) ∙ here))

-- what a loop over the noted sectors has done, up to the one that it has come to
pub done_before : (lands : ℕ → Bool) (hs : List History) (noted : List Bool) (from at : ℕ) → IsNoted hs noted → IsLeastFrom (λ i. get_or noted i false) from at →
    ((i : ℕ) (h : History) → i < from → slice_get hs i ≡ Some h → lands i ≡ true → h.later ≡ []) →
    (i : ℕ) (h : History) → i < at → slice_get hs i ≡ Some h → lands i ≡ true → h.later ≡ []
done_before lands hs noted from at n least done i h below e on = elim (cases_lt i from) [
  | inl before ↦ done i h before e on
  | inr from_there ↦ n.written i h e (least.least i from_there below)
]

-- and with that one, on which it has landed
pub done_settled : (lands : ℕ → Bool) (hs : List History) (at : ℕ) (g : History) → g.later ≡ [] →
    ((i : ℕ) (h : History) → i < at → slice_get hs i ≡ Some h → lands i ≡ true → h.later ≡ []) →
    (i : ℕ) (h : History) → i < at + 1 → slice_get (slice_set hs at g) i ≡ Some h → lands i ≡ true → h.later ≡ []
done_settled lands hs at g alone done i h below e on = elim (set_cases hs at i g h e) [
  | inl w ↦ ap (λ x. x.later) w.1 ∙ alone
  | inr w ↦ let past = w.0 in let before : i < at = omega (arith, past) in done i h before w.1 on
]

-- or has not
pub done_passed : (lands : ℕ → Bool) (hs : List History) (at : ℕ) → lands at ≡ false →
    ((i : ℕ) (h : History) → i < at → slice_get hs i ≡ Some h → lands i ≡ true → h.later ≡ []) →
    (i : ℕ) (h : History) → i < at + 1 → slice_get hs i ≡ Some h → lands i ≡ true → h.later ≡ []
done_passed lands hs at off done i h below e on = elim (cases_eq i at) [
  | inl same ↦ absurd (false≢true (sym (ap lands same ∙ off) ∙ on))
  | inr past ↦ let before : i < at = omega (arith, past) in done i h before e on
]

-- nothing is left of what the loop was to do
pub done_all : (lands : ℕ → Bool) (hs : List History) (noted : List Bool) (from : ℕ) → IsNoted hs noted → ((i : ℕ) → from ≤ i → get_or noted i false ≡ false) →
    ((i : ℕ) (h : History) → i < from → slice_get hs i ≡ Some h → lands i ≡ true → h.later ≡ []) →
    synced_from lands 0 hs ≡ hs
done_all lands hs noted from n none done = synced_from-done lands 0 hs (λ i h e on. elim (cases_lt i from) [
  | inl before ↦ let same : i ≡ 0 + i = omega arith in done i h before e (ap lands same ∙ on)
  | inr from_there ↦ n.written i h e (none i from_there)
])
