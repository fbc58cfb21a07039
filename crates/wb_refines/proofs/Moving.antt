-- Each step of a task on an extent is followed.
use Rattle.std.proofs.Common.{◌≡◌, ◌≤◌, ◌+◌, ◌*◌, ◌%◌, ◌∙◌, ℕ, Bool, true, false, List, ◌∷◌, Some, None, refl, sym, ap, subst, arith, length, map, Option}
use Rattle.wb_tasks.specs.declared.step.DeskStep.TheVariants.{Unmap}
use Rattle.wb_types.specs.declared.number.CBlock.{CBlock}
use Rattle.wb_types.specs.declared.extent.Extent.{Extent}
use Rattle.wb_types.specs.declared.mode.Dev.{Dev}
use Rattle.wb_types.specs.Extents.{rising}
use Rattle.wb_disk.specs.Device.{Content, History}
use Rattle.wb_disk.specs.Extents.{GivesEach, written_where}
use Rattle.wb_words.specs.declared.card.Card.{Card}
use Rattle.wb_tasks.specs.Tables.{BlockJob}
use Rattle.wb_tasks.specs.declared.step.Answer.{Answer}
use Rattle.wb_tasks.specs.declared.step.DeviceStep.{DeviceStep}
use Rattle.wb_tasks.specs.declared.step.Want.{Want}
use Rattle.wb_tasks.specs.declared.step.Want.TheVariants.{Device, Desk}
use Rattle.wb_link.specs.World.{Shared, AbstractActor, newest_at, abstract_contents_for, put_where}
use Rattle.wb_refines.specs.Translation.{script_for, location_at, offsets_in}
use Rattle.wb_refines.specs.Models.{IsAt, plan_of, UnmapNothing, MayUnmap}
use Rattle.wb_refines.specs.Data.{row, IsSide, IsInBlock, ExtentsFollowed}
use Rattle.wb_refines.proofs.Cells.{IsPlain, held_plain, saw_plain}
use Rattle.wb_refines.proofs.Extents.{alike_self, reads_newest, put_where_is, where_beside, same_beside}

-- what unmaps nothing, but from a cache block, does not do so later
pub unmaps_later : (place : Option CBlock) (next : Want) (later : List Want) → MayUnmap place (next ∷ later) → MayUnmap place later
unmaps_later (Some c) next later m = tt
unmaps_later None (Desk (Unmap block)) later m = absurd m
unmaps_later None next later m = m

-- nor does what unmaps nothing at all
pub unmaps_none : (place : Option CBlock) (steps : List Want) → UnmapNothing steps → MayUnmap place steps
unmaps_none None steps n = n
unmaps_none (Some c) steps n = tt

-- a request that has moved an extent goes on with what is left of it
pub goes_on_at : (size : ℕ) (content : Content) (job : BlockJob) (step : DeviceStep) (later : List Want) (answer : Answer) (card : Card) (y : AbstractActor) (buffer : ℕ → Content) → IsPlain later → (is : IsAt size content (plan_of job (Device step ∷ later) answer) card y) →
    IsAt size content (plan_of job later answer) card (record y { task = Some (script_for size content is.place (plan_of job later answer)); buffer = buffer })
goes_on_at size content job step later answer card y buffer plain is = record {
  place = is.place;
  buffer = buffer;
  is = ap (λ (v : AbstractActor). record v { task = Some (script_for size content is.place (plan_of job later answer)); buffer = buffer }) is.is ∙ (λ i. record { task = Some (script_for size content is.place (plan_of job later answer)); held = sym (held_plain later card plain) i; order = None; leads = false; buffer = buffer });
  saw = saw_plain (plan_of job later answer) later card plain;
  unmaps = unmaps_later is.place (Device step) later is.unmaps;
}

module _ (size : ℕ) (blank : Content) (s : Shared) (block : ℕ) (device : Dev) (e : Extent) (list : List History) (inside : IsInBlock size block device e) (i : IsSide size blank (location_at size device e) list s) where
  given : (contents : List Content) → length contents ≡ e.count → GivesEach list e.first contents → contents ≡ map (newest_at s (location_at size device e) block) (offsets_in size e)
  given contents n g = subst (λ (k : ℕ). contents ≡ map (newest_at s (location_at size device e) block) (rising (e.first % size) k)) n
      (reads_newest size blank s (location_at size device e) block list i contents (e.first % size) (let r = inside.room in omega (arith, n, r)) (subst (λ (v : ℕ). GivesEach list v contents) inside.first g))

  lands_so : (lands : ℕ → Bool) (contents : ℕ → Content) → e.first + e.count ≤ length list →
      IsSide size blank (location_at size device e) (written_where lands list e.first (map contents (offsets_in size e))) (put_where (λ q. lands (row (location_at size device e) block * size + q)) s (location_at size device e) block (offsets_in size e) contents)
  lands_so lands contents l = subst (λ (v : ℕ). IsSide size blank (location_at size device e) (written_where lands list v (map contents (offsets_in size e))) (put_where (λ q. lands (row (location_at size device e) block * size + q)) s (location_at size device e) block (offsets_in size e) contents)) (sym inside.first)
      (put_where_is size blank (location_at size device e) block contents lands e.count s list (e.first % size) i inside.room (let f = inside.first in omega (arith, l, f)))

pub extents_followed : ExtentsFollowed
extents_followed = record {
  read_done = λ size blank actors a s y job to block os rest answer list i. record { may = (alike_self os (newest_at s to block), tt, tt); side_is = i; beside = same_beside to s; is = refl };
  read_fails = λ size blank actors a s y job to block os rest answer list i. record { may = (tt, tt, tt); side_is = i; beside = same_beside to s; is = refl };
  write_done = λ size blank actors a s y job block device e rest answer list n i l. record { may = (tt, tt, tt); side_is = lands_so size blank s block device e list n i (λ q. true) (abstract_contents_for job y.buffer) l; beside = where_beside size blank (location_at size device e) block (abstract_contents_for job y.buffer) (λ q. true) (offsets_in size e) s s (same_beside (location_at size device e) s); is = refl };
  write_fails = λ size blank actors a s y job block device e rest answer list lands n i l. record { may = (tt, tt, tt); side_is = lands_so size blank s block device e list n i lands (abstract_contents_for job y.buffer) l; beside = where_beside size blank (location_at size device e) block (abstract_contents_for job y.buffer) lands (offsets_in size e) s s (same_beside (location_at size device e) s); is = refl };
  reads = λ size blank s block device e list contents n i m g. given size blank s block device e list n i contents m g;
}
