-- The sectors of a task that a client asks for are some of the export's.
use Rattle.std.proofs.Common.{◌≡◌, ℕ, List, Option, Some, subst}
use Rattle.std.specs.Option.{IfSome}
use Rattle.std.specs.Io.KnownBytes.{Consumes}
use Rattle.wb_nbd.specs.declared.job.Job.{Job}
use Rattle.wb_nbd.specs.declared.request.Request.{Request}
use Rattle.wb_nbd.specs.declared.job.Task.{Task}
use Rattle.wb_nbd.specs.declared.job.Task.TheVariants.{Read as ReadTask, Write as WriteTask, Zeroes as ZeroesTask, Flush as FlushTask, Refuse}
use Rattle.wb_nbd.specs.Jobs.{AsksFor, IsTask}
use Rattle.wb_nbd.specs.Performing.{TaskFits}

pub asked_fits : (size : ℕ) (request : Request) (payload : List ℕ) (task : Task) → IsTask size request payload task → TaskFits size task
asked_fits size request payload (ReadTask at count) is = is.2.inside
asked_fits size request payload (WriteTask at content durable) is = is.3.inside
asked_fits size request payload (ZeroesTask at count durable) is = is.3.inside
asked_fits size request payload FlushTask is = tt
asked_fits size request payload (Refuse errno) is = tt

-- a job that was taken
pub record WasTaken (size : ℕ) (job : Job) : Type 0 where
  pub input : Option (List ℕ)
  pub left : Option (List ℕ)
  pub bytes : List ℕ
  pub taken : Consumes input left bytes
  pub asked : AsksFor size bytes job
  pub fits : TaskFits size job.task

pub taken_fits : (size told : ℕ) (given : Option Job) (job : Job) → told ≡ size → given ≡ Some job
    → IfSome given (λ job. (input left : Option (List ℕ)) × (bytes : List ℕ) × Consumes input left bytes × AsksFor told bytes job) → WasTaken size job
taken_fits size told given job same is taken =
    let it : (input left : Option (List ℕ)) × (bytes : List ℕ) × Consumes input left bytes × AsksFor told bytes job
    = subst (λ (asked : Option Job). IfSome asked (λ job. (input left : Option (List ℕ)) × (bytes : List ℕ) × Consumes input left bytes × AsksFor told bytes job)) is taken in
    let asked : AsksFor size it.2 job = subst (λ (n : ℕ). AsksFor n it.2 job) same it.4 in
    record { input = it.0; left = it.1; bytes = it.2; taken = it.3; asked = asked; fits = asked_fits size asked.request asked.payload job.task asked.task }
