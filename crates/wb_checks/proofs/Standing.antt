-- Slots that are not as formatting leaves them.
use Rattle.std.proofs.Common.{◌≡◌, ◌≢◌, ◌∙◌, ℕ, List, Option, Some, None, true, refl, ap, sym, subst}
use Rattle.std.specs.Prelude.{IfSome}
use Rattle.wb_disk.specs.Device.{Content}
use Rattle.wb_format.specs.declared.root.Root.{Root}
use Rattle.wb_format.specs.Bytes.{number_at}
use Rattle.wb_tree.specs.Reading.{IsNewestRoot}
use Rattle.wb_meta.specs.Slots.{HasRoot, IsInSlot, IsNewest}
use Rattle.wb_checks.specs.declared.held.Held.{Held}
use Rattle.wb_checks.specs.Slots.{AreFormatted, HasGeneration, Holds}

-- a slot has one generation
pub one_generation : (sectors : List Content) (slot : ℕ) (r s : Root) → HasRoot sectors slot r → HasRoot sectors slot s → r.generation ≡ s.generation
one_generation sectors slot r s a b =
    let same : a.sector ≡ b.sector = cc in
    sym a.valid.spelled.generation ∙ (ap (λ (x : Content). number_at x 8 8) same ∙ b.valid.spelled.generation)

-- a root of another generation than 0 is not formatting's
pub not_formatted : (sectors : List Content) (root : Root) → HasRoot sectors 0 root → root.generation ≢ 0 → ¬ AreFormatted sectors
not_formatted sectors root has other = λ formatted. other (one_generation sectors 0 root formatted.first.root has formatted.first.there ∙ formatted.first.is)

-- a slot that holds a root has it
pub root_held : (sectors : List Content) (slot : ℕ) (held : Held) (root : Root) → held.root ≡ Some root → Holds sectors slot held → HasRoot sectors slot root
root_held sectors slot held root is holds = subst (λ (o : Option Root). IsInSlot sectors slot o) is holds.root

pub no_root_held : (sectors : List Content) (slot : ℕ) (held : Held) → held.root ≡ None → Holds sectors slot held → IsInSlot sectors slot None
no_root_held sectors slot held is holds = subst (λ (o : Option Root). IsInSlot sectors slot o) is holds.root

pub has_generation : (sectors : List Content) (slot : ℕ) (held : Held) (root : Root) → held.root ≡ Some root → Holds sectors slot held → HasGeneration sectors slot root.generation
has_generation sectors slot held root is holds = record { root = root; there = root_held sectors slot held root is holds; is = refl }

-- a root of generation 0 beside zeros is formatting's
pub formatted : (sectors : List Content) (first second : Held) (root : Root) → first.root ≡ Some root → root.generation ≡ 0 → second.zeros ≡ true →
    Holds sectors 0 first → Holds sectors 1 second → IsInSlot sectors 1 None → AreFormatted sectors
formatted sectors first second root is zero zeros a b none =
    record { first = record { root = root; there = root_held sectors 0 first root is a; is = zero }; second = b.zeros zeros; none = none }

-- formatting leaves no root in the second slot
pub not_formatted_second : (sectors : List Content) (root : Root) → HasRoot sectors 1 root → ¬ AreFormatted sectors
not_formatted_second sectors root has = λ formatted. formatted.none has.sector root has.there has.valid

-- the newest root, where there is one
pub newest_is : (sectors : List Content) (root : Option Root) → IsNewest sectors root → IfSome root (IsNewestRoot sectors)
newest_is sectors None is = tt
newest_is sectors (Some root) is = is

-- the newest root of what two slots hold, of which the second was read behind the first
pub newest_held : (sectors others : List Content) (first second : Held) (root : Option Root) → others ≡ sectors → Holds sectors 0 first → Holds others 1 second →
    ((contents : List Content) → IsInSlot contents 0 first.root → IsInSlot contents 1 second.root → IsNewest contents root) → IfSome root (IsNewestRoot sectors)
newest_held sectors others first second root same a b is =
    let c = subst (λ (x : List Content). Holds x 1 second) same b in
    newest_is sectors root (is sectors a.root c.root)
