-- A read or a write is alike in all modes, but for where it takes or puts each extent.
use Rattle.std.proofs.Common.{◌≡◌, ◌≢◌, ℕ, Bool, false, List, [], ◌∷◌, Option, None, refl}
use Rattle.wb_types.specs.declared.mode.Mode.{Mode}
use Rattle.wb_types.specs.declared.mode.Mode.TheVariants.{Writeback, Writethrough, Passthrough}
use Rattle.wb_types.specs.declared.number.CBlock.{CBlock}
use Rattle.wb_types.specs.declared.refusal.Refusal.TheVariants.{Busy}
use Rattle.wb_disk.specs.Device.{Content}
use Rattle.wb_tasks.specs.Plan.{deferring}
use Rattle.wb_tasks.specs.declared.step.Answer.{Answer}
use Rattle.wb_tasks.specs.declared.step.Answer.TheVariants.{Refused as Refuses}
use Rattle.wb_link.specs.Tables.{Job, Want, Own, Share, Leave, Look_seal, abstract_release, Set_failed, Busy as AnsweredBusy, abstract_acquire, abstract_work, breaking}
use Rattle.wb_link.specs.World.{World, Shared, AllWithin, AllDistinct, MayStart, job_alone, abstract_contents_for, abstract_order_of, abstract_reserved}
use Rattle.wb_refines.specs.Translation.{reading_in, writing_in, block_in, answer_for}

-- what holds in each mode holds in any
pub in_each : (Holds : Mode → Type 0) → Holds Writeback → Holds Writethrough → Holds Passthrough → (mode : Mode) → Holds mode
in_each Holds back through past Writeback = back
in_each Holds back through past Writethrough = through
in_each Holds back through past Passthrough = past

-- a job on a block that takes it by this step, under no order
pub record IsRequestOn (job : Job) (b : ℕ) (takes : Want) : Type 0 where
  pub acquires : abstract_acquire job ≡ takes ∷ Look_seal b ∷ []
  pub breaks : breaking job ≡ Set_failed ∷ []
  pub among : job_alone job ≡ false
  pub busy : AnsweredBusy ≡ answer_for job (Refuses Busy)
  -- the dirty bit of an unmapped block is of no account
  pub any : (d e : Bool) → abstract_work job (record { location = None; dirty = d }) ≡ abstract_work job (record { location = None; dirty = e })
  pub block : block_in job ≡ b
  pub order : abstract_order_of job ≡ None
  pub reserves : (s : Shared) → abstract_reserved s job ≡ s

module _ (block : ℕ) (os : List (List ℕ)) (content : Content) where
  pub write_is : (mode : Mode) → IsRequestOn (writing_in mode block os content) block (Own block)
  write_is Writeback = record { acquires = refl; breaks = refl; among = refl; busy = refl; any = λ d e. refl; block = refl; order = refl; reserves = λ s. refl }
  write_is mode = record { acquires = refl; breaks = refl; among = refl; busy = refl; any = λ d e. refl; block = refl; order = refl; reserves = λ s. refl }

  pub contents_in : (mode : Mode) (buffer : ℕ → Content) → abstract_contents_for (writing_in mode block os content) buffer ≡ (λ o. content)
  contents_in = in_each _ (λ buffer. refl) (λ buffer. refl) (λ buffer. refl)

  -- it begins in its own mode
  pub starts_in : (mode : Mode) (size : ℕ) (w : World) → w.shared.mode ≡ mode → AllWithin size os → AllDistinct os → MayStart size w (writing_in mode block os content)
  starts_in = in_each _ (λ size w is within distinct. (within, is)) (λ size w is within distinct. (within, distinct, is)) (λ size w is within distinct. (within, is))

module _ (block : ℕ) (os : List (List ℕ)) where
  pub read_is : (mode : Mode) → IsRequestOn (reading_in mode block os) block (Share block)
  read_is Writeback = record { acquires = refl; breaks = refl; among = refl; busy = refl; any = λ d e. refl; block = refl; order = refl; reserves = λ s. refl }
  read_is mode = record { acquires = refl; breaks = refl; among = refl; busy = refl; any = λ d e. refl; block = refl; order = refl; reserves = λ s. refl }

  pub read_releases : (mode : Mode) → abstract_release (reading_in mode block os) ≡ Leave block ∷ []
  read_releases = in_each _ refl refl refl

  pub read_starts : (mode : Mode) (size : ℕ) (w : World) → w.shared.mode ≡ mode → AllWithin size os → MayStart size w (reading_in mode block os)
  read_starts = in_each _ (λ size w is within. within) (λ size w is within. within) (λ size w is within. (within, is))

-- and a write that need not displace its block is not deferred
pub undeferred_in : (mode : Mode) → mode ≢ Passthrough → (place : Option CBlock) (answer : Answer) → deferring mode place answer ≡ answer
undeferred_in Writeback caches place answer = refl
undeferred_in Writethrough caches place answer = refl
undeferred_in Passthrough caches place answer = absurd (caches refl)
