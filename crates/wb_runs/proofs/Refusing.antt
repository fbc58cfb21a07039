-- Why an opening's reading is refused: for want of memory, since no generation is left, or in passthrough since the metadata were not left clean.
-- Never for what else they hold.
use Rattle.std.proofs.Common.{◌≡◌, ◌∙◌, ◌⊎◌, inl, inr, ℕ, Bool, List, Option, Some, None, refl, sym, ap, map}
use Rattle.std.proofs.lemmas.List.{length-map}
use Rattle.wb_types.specs.declared.geometry.Geometry.{Geometry}
use Rattle.wb_types.specs.declared.mode.Mode.{Mode}
use Rattle.wb_types.specs.declared.mode.Mode.TheVariants.{Passthrough}
use Rattle.wb_types.specs.declared.refusal.Refusal.{Refusal}
use Rattle.wb_types.specs.declared.refusal.Refusal.TheVariants.{Memory, NotFormatted, NotClean, Mismatch, Damaged, GenerationEnd, Io}
use Rattle.wb_disk.specs.Device.{History, newest}
use Rattle.wb_disk.proofs.Leaving.{read-left}
use Rattle.wb_format.specs.declared.root.Root.{Root}
use Rattle.wb_meta.specs.Representing.{Represents}
use Rattle.wb_meta.specs.Reads.{AgreeThere, HasRead, coming_sector, known_root}
use Rattle.wb_meta.specs.States.{IsOfReading, IsRefusedBy, SpeaksOfSectors}
use Rattle.wb_meta.specs.declared.read_steps.ReadSteps.{ReadSteps}
use Rattle.wb_meta.specs.declared.read_steps.ReadSteps.TheVariants.{Begun, FirstSlotRead, RootFound, Done as AllRead}
use Rattle.wb_meta.proofs.OneReading.{one_newest, not_refused}
use Rattle.wb_tasks.specs.declared.step.Got.TheVariants.{Refused as GotRefused}
use Rattle.wb_devices.specs.Opened.{got_of_refusal}
use Rattle.wb_meta.specs.Sizes.{AreSameSizes}
use Rattle.wb_meta.proofs.Sizes.{swapped_sizes}
use Rattle.wb_promise.specs.Happenings.{Chosen, Reaches, DoesRead}
use Rattle.wb_runs.specs.Laws.{FindsSizes}
use Rattle.wb_runs.proofs.Sizes.{joined_sizes, sized_by}
use Rattle.wb_runs.proofs.Images.{Images}
use Rattle.wb_runs.proofs.Metadata.{HasReached}

-- why a reading in this mode is refused
abbrev pub Cause : Mode → Refusal → Type 0
Cause mode refusal = (refusal ≡ Memory) ⊎ ((refusal ≡ GenerationEnd) ⊎ ((mode ≡ Passthrough) × (refusal ≡ NotClean)))

module _ (P A : Type 0) (g : Geometry) (i : Images) (device : List History) (was : ReadSteps A) where
  agrees : (at : Option ℕ) → AgreeThere at device (map newest device)
  agrees at = record { size = length-map device newest; here = λ place e. refl }

  represents : (k : HasReached g i was device) → Represents (map newest device) k.found.committed.root k.found.committed.found
  represents k = k.found.read.represents (map newest device) (read-left device)

  -- the root that was found has these sizes
  known_fits : HasReached g i was device → (now : ReadSteps A) → HasRead (map newest device) now → (root : Root) → known_root now ≡ Some root → AreSameSizes root.geometry g
  known_fits k (RootFound global found loader nodes) come root e =
      let same : found ≡ root = cc in
      sized_by root.geometry k.found.committed.root.geometry g (ap (λ (r : Root). r.geometry) (sym same ∙ one_newest (map newest device) found k.found.committed.root come.newest (represents k).newest)) k.found.read.sizes
  known_fits k (AllRead state) come root e =
      let same : state.root ≡ root = cc in
      sized_by root.geometry k.found.committed.root.geometry g (ap (λ (r : Root). r.geometry) (sym same ∙ one_newest (map newest device) state.root k.found.committed.root come.represents.newest (represents k).newest)) k.found.read.sizes
  known_fits k now come root e = absurd (cc)

  pub finds_own : HasReached g i was device → FindsSizes g was device
  finds_own k now goes = known_fits k now (goes (map newest device) (agrees (coming_sector was)) k.come)

  never : (k : HasReached g i was device) (refusal : Refusal) → SpeaksOfSectors refusal → IsRefusedBy (map newest device) refusal → ⊥
  never k refusal speaks is = not_refused (map newest device) k.found.committed.root k.found.committed.found refusal (represents k)
      (k.found.read.sizes.meta_sectors ∙ sym k.found.read.size ∙ sym (length-map device newest)) speaks is

  pub refused_for : (mode : Mode) (second : Bool) (left : ℕ) (refusal : Refusal) (chosen : Chosen P A) → HasReached g i was device → DoesRead mode g second left was device None (GotRefused refusal) chosen → Cause mode refusal
  refused_for mode second left refusal (Reaches r c) k (fine, inl more) = elim more.3.2 [
    | inl in_time ↦ elim in_time.0.2 [
      | inl other ↦ absurd (other.1.2 (joined_sizes other.1.0.geometry g more.3.0 (finds_own k more.0 more.1 other.1.0 other.1.1) (swapped_sizes more.3.0 g more.3.1.sizes_are)))
      | inr rest ↦ elim rest [ inl last ↦ inr (inl last.0) | inr memory ↦ inl memory.0 ]
    ]
    | inr unclean ↦ inr (inr (unclean.0, cc))
  ]
  refused_for mode second left refusal (Reaches r c) k (fine, inr more) = by_refusal more.0 more.1 (more.2 (map newest device) (agrees (coming_sector was)) k.come) more.3
    where
      by_refusal : (because : Refusal) → IsOfReading because → IsRefusedBy (map newest device) because → GotRefused refusal ≡ got_of_refusal because → Cause mode refusal
      by_refusal Memory o is e = inl (cc)
      by_refusal NotFormatted o is e = absurd (never k NotFormatted tt is)
      by_refusal Mismatch o is e = absurd (never k Mismatch tt is)
      by_refusal (Damaged place) o is e = absurd (never k (Damaged place) tt is)
      by_refusal (Io d) o is e = absurd (cc)
      by_refusal because o is e = absurd o
  refused_for mode second left refusal chosen k d = absurd d
