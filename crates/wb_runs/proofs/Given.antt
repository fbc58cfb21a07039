-- Once an order was given with a job, what stood stands still, and of a target the desk alone is another.
use Rattle.std.proofs.Common.{false}
use Rattle.wb_policy.specs.declared.order.Order.TheVariants.{Replace as ReplaceOrder}
use Rattle.wb_desk.specs.Desks.{DeskState}
use Rattle.wb_desk.specs.Calls.{reserved}
use Rattle.wb_promise.specs.declared.job.Job.{Job}
use Rattle.wb_promise.specs.declared.job.Job.TheVariants.{Migrate, Replace}
use Rattle.wb_promise.specs.States.{Phase, Target, Stands}
use Rattle.wb_promise.specs.Happenings.{Chosen, Orders, order_for}
use Rattle.wb_promise.specs.Effects.{phase_given}

-- so what does not look at its desk holds then too
pub given_keeps : {P A : Type 0} (Holds : Phase P A → Type 0) → ((t : Target P) (desk : DeskState P) → Holds (Stands t) → Holds (Stands (record { words = t.words; desk = desk }))) → (phase : Phase P A) (job : Job) (chosen : Chosen P A) → Holds phase → Holds (phase_given phase job chosen)
given_keeps Holds keeps (Stands t) (Migrate migration block) (Orders cut cache) holds = keeps t (reserved t.desk cache (order_for migration block) false) holds
given_keeps Holds keeps (Stands t) (Replace old new) (Orders cut cache) holds = keeps t (reserved t.desk cache (ReplaceOrder old new cache) false) holds
given_keeps Holds keeps phase job chosen holds = holds
