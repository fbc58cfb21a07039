-- Steps of a device, seen by block and offset.
use Rattle.std.proofs.Common.{◌≡◌, ◌≢◌, ◌<◌, ◌+◌, ◌*◌, ◌/◌, inl, inr, ℕ, zero, suc, Bool, true, false, cond, Option, Some, None, List, [], ◌∷◌, length, refl, sym, ap, subst, ◌∙◌, arith, Contains}
use Rattle.std.specs.Prelude.{nat_lt, unwrap_or}
use Rattle.std.specs.List.{slice_get}
use Rattle.std.proofs.Common.{slice_set, get_or}
use Rattle.std.proofs.lemmas.Bool.{cases_eq, ltb-true, lt-ltb}
use Rattle.std.proofs.lemmas.List.{get_or-set_same, get_or-set_other}
use Rattle.std.proofs.lemmas.Nat.{div-mul-add}
use Rattle.std.proofs.lemmas.Option.{unwrap_or-slice_get, slice_get-get_or, slice_get_within}
use Rattle.wb_disk.specs.Device.{Content, History, MayKeep, entries, newest, added, only, grown, synced}
use Rattle.wb_disk.specs.Failing.{sync_landed, synced_from, synced_where}
use Rattle.wb_contents.specs.Volume.{changed_at}
use Rattle.wb_contents.specs.Acts.{all_synced, partly_synced, only_chosen}
use Rattle.wb_contents.specs.Devices.{by_block, ReadIsNewest, WriteIsAct, SyncIsAct, FailedSyncIsAct, CrashIsAct}
use Rattle.wb_disk.proofs.Leaving.{newest_there}
use Rattle.wb_contents.proofs.Sectors.{Elsewhere, here_is, elsewhere_is}

funext : {X Y : Type 0} (f g : X → Y) → ((x : X) → f x ≡ g x) → f ≡ g
funext f g h = λ i x. h x i

-- two functions of block and offset that agree everywhere
everywhere : (f g : ℕ → ℕ → History) → ((b o : ℕ) → f b o ≡ g b o) → f ≡ g
everywhere f g h = funext f g (λ b. funext (f b) (g b) (λ o. h b o))

-- the sector at this number, or one that always was blank
abbrev at_number : Content → List History → ℕ → History
at_number blank device at = unwrap_or (slice_get device at) (only blank)

-- one sector after a sync, and after one that failed
synced_at : (blank : Content) (device : List History) (at : ℕ) → at_number blank (synced device) at ≡ only (newest (at_number blank device at))
synced_at blank [] at = refl
synced_at blank (h ∷ hs) zero = refl
synced_at blank (h ∷ hs) (suc at) = synced_at blank hs at

pub sync_is_act : SyncIsAct
sync_is_act size blank device = everywhere (by_block size blank (synced device)) (all_synced (by_block size blank device))
    (λ b o. go b o (nat_lt o size)) where
      go : (b o : ℕ) (t : Bool) → cond t (at_number blank (synced device) (b * size + o)) (only blank) ≡ only (newest (cond t (at_number blank device (b * size + o)) (only blank)))
      go b o true = synced_at blank device (b * size + o)
      go b o false = refl

landed_blank : (t : Bool) (blank : Content) → sync_landed t (only blank) ≡ only blank
landed_blank true blank = refl
landed_blank false blank = refl

failed_at : (blank : Content) (lands : ℕ → Bool) (n : ℕ) (device : List History) (at : ℕ) →
    at_number blank (synced_from lands n device) at ≡ sync_landed (lands (n + at)) (at_number blank device at)
failed_at blank lands n [] at = sym (landed_blank (lands (n + at)) blank)
failed_at blank lands n (h ∷ hs) zero = let same : n ≡ n + 0 = omega arith in ap (λ k. sync_landed (lands k) h) same
failed_at blank lands n (h ∷ hs) (suc at) =
    let same : suc n + at ≡ n + suc at = omega arith in
    failed_at blank lands (suc n) hs at ∙ ap (λ k. sync_landed (lands k) (at_number blank hs at)) same

landed_is : (t : Bool) (h : History) → sync_landed t h ≡ cond t (only (newest h)) h
landed_is true h = refl
landed_is false h = refl

pub failed_sync_is_act : FailedSyncIsAct
failed_sync_is_act size blank lands device = everywhere (by_block size blank (synced_where lands device)) (partly_synced (λ b o. lands (b * size + o)) (by_block size blank device))
    (λ b o. go b o (nat_lt o size)) where
      go : (b o : ℕ) (t : Bool) → cond t (at_number blank (synced_where lands device) (b * size + o)) (only blank)
          ≡ cond (lands (b * size + o)) (only (newest (cond t (at_number blank device (b * size + o)) (only blank)))) (cond t (at_number blank device (b * size + o)) (only blank))
      go b o true =
          let number : 0 + (b * size + o) ≡ b * size + o = omega arith in
          failed_at blank lands 0 device (b * size + o) ∙ ap (λ k. sync_landed (lands k) (at_number blank device (b * size + o))) number ∙ landed_is (lands (b * size + o)) (at_number blank device (b * size + o))
      go b o false = sym (landed_blank (lands (b * size + o)) blank) ∙ landed_is (lands (b * size + o)) (only blank)

-- the sectors of two blocks, or two of one block, are two sectors
pub apart : (size b o b' o' : ℕ) → o < size → o' < size → Elsewhere b o b' o' → b' * size + o' ≢ b * size + o
apart size b o b' o' l m (inl n) e = n (sym (div-mul-add b' size o' m) ∙ ap (λ v. v / size) e ∙ div-mul-add b size o l)
apart size b o b' o' l m (inr n) e =
    let same : b' ≡ b = sym (div-mul-add b' size o' m) ∙ ap (λ v. v / size) e ∙ div-mul-add b size o l in
    let f : b' * size ≡ b * size = ap (λ v. v * size) same in
    n (omega (arith, e, f))

-- a sector put into a device's list is put into that view
set_by_block : (size : ℕ) (blank : Content) (device : List History) (b o : ℕ) (h : History) → o < size → b * size + o < length device →
    by_block size blank (slice_set device (b * size + o) h) ≡ changed_at (by_block size blank device) b o h
set_by_block size blank device b o h l inside = everywhere (by_block size blank (slice_set device at h)) (changed_at (by_block size blank device) b o h)
    (λ b' o'. elim (cases_eq b' b) [
      | inr n ↦ there b' o' (inl n)
      | inl e ↦ elim (cases_eq o' o) [
        | inr n ↦ there b' o' (inr n)
        | inl f ↦ ap (λ v. by_block size blank (slice_set device at h) v o') e ∙ ap (λ v. by_block size blank (slice_set device at h) b v) f ∙ here
            ∙ sym (here_is (by_block size blank device) b o h) ∙ sym (ap (λ v. changed_at (by_block size blank device) b o h b v) f) ∙ sym (ap (λ v. changed_at (by_block size blank device) b o h v o') e)
      ]
    ]) where
      at : ℕ
      at = b * size + o

      here : by_block size blank (slice_set device at h) b o ≡ h
      here = ap (λ t. cond t (at_number blank (slice_set device at h) at) (only blank)) (lt-ltb o size l) ∙ unwrap_or-slice_get (slice_set device at h) at (only blank) ∙ get_or-set_same device at h (only blank) inside

      by : (b' o' : ℕ) → Elsewhere b o b' o' → (t : Bool) → nat_lt o' size ≡ t → cond t (at_number blank (slice_set device at h) (b' * size + o')) (only blank) ≡ cond t (at_number blank device (b' * size + o')) (only blank)
      by b' o' n true e = unwrap_or-slice_get (slice_set device at h) (b' * size + o') (only blank) ∙ get_or-set_other device at (b' * size + o') h (only blank) (apart size b o b' o' l (ltb-true o' size e) n) ∙ sym (unwrap_or-slice_get device (b' * size + o') (only blank))
      by b' o' n false e = refl

      there : (b' o' : ℕ) → Elsewhere b o b' o' → by_block size blank (slice_set device at h) b' o' ≡ changed_at (by_block size blank device) b o h b' o'
      there b' o' n = by b' o' n (nat_lt o' size) refl ∙ sym (elsewhere_is (by_block size blank device) b o b' o' h n)

-- a sector that the device has
pub is_there : (size : ℕ) (blank : Content) (device : List History) (b o : ℕ) (h : History) → o < size → slice_get device (b * size + o) ≡ Some h → by_block size blank device b o ≡ h
is_there size blank device b o h l e = ap (λ t. cond t (at_number blank device (b * size + o)) (only blank)) (lt-ltb o size l) ∙ ap (λ x. unwrap_or x (only blank)) e

pub write_is_act : WriteIsAct
write_is_act size blank device b o c l inside =
    let h = get_or device (b * size + o) (only blank) in
    let found : slice_get device (b * size + o) ≡ Some h = slice_get-get_or device (b * size + o) (only blank) inside in
    ap (λ x. by_block size blank (grown x c device (b * size + o))) found ∙ set_by_block size blank device b o (added h c) l inside
    ∙ ap (λ x. changed_at (by_block size blank device) b o (added x c)) (sym (is_there size blank device b o h l found))

pub read_is_newest : ReadIsNewest
read_is_newest size blank device b o c l (h, e, n) = ap newest (is_there size blank device b o h l e) ∙ n

-- a sector before a crash, and after it
abbrev IsKept : History → History → Type 0
IsKept h g = (g ≡ only (newest g)) × Contains (entries h) (newest g)

one_kept : (h g : History) → MayKeep h g → IsKept h g
one_kept h g (c, m, e) = (e ∙ ap (λ x. only x) (sym (ap newest e)), subst (λ (x : Content). Contains (entries h) x) (sym (ap newest e)) m)

kept_or : (z : Content) (x y : Option History) → ((h g : History) → x ≡ Some h → y ≡ Some g → MayKeep h g) → ((h : History) → x ≡ Some h → y ≡ None → ⊥) → ((g : History) → x ≡ None → y ≡ Some g → ⊥) →
    IsKept (unwrap_or x (only z)) (unwrap_or y (only z))
kept_or z None None each old new = (refl, newest_there (only z))
kept_or z (Some h) None each old new = absurd (old h refl refl)
kept_or z None (Some g) each old new = absurd (new g refl refl)
kept_or z (Some h) (Some g) each old new = one_kept h g (each h g refl refl)

-- two lists of one length have a sector at the same numbers
both : (xs ys : List History) (at : ℕ) (h : History) → length ys ≡ length xs → slice_get xs at ≡ Some h → slice_get ys at ≡ None → ⊥
both xs ys at h s e n =
    let inside : at < length xs = slice_get_within xs at h e in
    let here = slice_get-get_or ys at h (omega arith) in
    let bad : None ≡ Some (get_or ys at h) = sym n ∙ here in
    cc

pub crash_is_act : CrashIsAct
crash_is_act size blank device crashed c = record {
  alone = everywhere (by_block size blank crashed) (only_chosen (λ b o. newest (by_block size blank crashed b o))) (λ b o. (kept b o).0);
  pending = λ b o. (kept b o).1;
} where
  here : (b o : ℕ) (t : Bool) → IsKept (cond t (at_number blank device (b * size + o)) (only blank)) (cond t (at_number blank crashed (b * size + o)) (only blank))
  here b o false = (refl, newest_there (only blank))
  here b o true = kept_or blank (slice_get device (b * size + o)) (slice_get crashed (b * size + o)) (λ h g e f. c.each (b * size + o) h g e f)
      (λ h e n. both device crashed (b * size + o) h c.size e n) (λ g n e. both crashed device (b * size + o) g (sym c.size) e n)

  kept : (b o : ℕ) → IsKept (by_block size blank device b o) (by_block size blank crashed b o)
  kept b o = here b o (nat_lt o size)
