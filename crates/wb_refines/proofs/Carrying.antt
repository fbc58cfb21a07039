-- Each call of a migration on the desk is followed.
use Rattle.std.proofs.Common.{◌≡◌, ℕ, false, List, [], ◌∷◌, Some, refl, ap}
use Rattle.wb_disk.specs.Device.{Content}
use Rattle.wb_tasks.specs.declared.step.Migration.{Migration}
use Rattle.wb_tasks.specs.declared.step.Migration.TheVariants.{Promote}
use Rattle.wb_link.specs.Tables.{Order, Job, Disown, Give_up, Want as AbstractWant, Answer as AbstractAnswer, Failed as AnsweredFailed}
use Rattle.wb_link.specs.World.{abstract_order_of as order_of_job, Owns, AbstractActor}
use Rattle.wb_refines.specs.Migrations.{job_under}
use Rattle.wb_refines.specs.Carrying.{CarryingFollowed}

abbrev owning : Job → Order → (ℕ → Content) → AbstractAnswer → List AbstractWant → AbstractActor
owning job order buffer answer steps = record { task = Some (record { job = job; steps = steps; answer = answer }); held = Owns order.block; order = Some order; leads = false; buffer = buffer }

-- a migration's job is under its order
pub under_order : (order : Order) (os : List (List ℕ)) (migration : Migration) → order_of_job (job_under order os migration) ≡ Some order
under_order order os (Promote c) = refl
under_order order os migration = refl

pub carrying_followed : CarryingFollowed
carrying_followed = record {
  maps = λ size actors a s order os c block later answer buffer. record { may = (tt, tt, (tt, tt, tt)); shared = refl; is = refl };
  has_no_room = λ size actors a s order os c block later answer buffer e. record { may = (tt, tt, tt); shared = refl; is = ap (λ v. owning (job_under order os (Promote c)) order buffer AnsweredFailed (Disown v ∷ Give_up order ∷ [])) e };
  unmaps = λ size actors a s order os block later answer buffer. record { may = (tt, tt, tt); shared = refl; is = refl };
  gives_up = λ size actors a s order os migration block later answer buffer. record { may = (tt, tt, tt); shared = refl; is = refl };
}
