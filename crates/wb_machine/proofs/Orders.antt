-- What a start of who is at nothing comes to over a target, by the order that it has or takes.
use Rattle.std.proofs.Common.{◌≡◌, ◌∙◌, ◌&&◌, inl, inr, Bool, true, false, List, [], ◌∷◌, Option, Some, None, refl, sym, ap, subst, is_some, is_none, not, if◌then◌else◌, filter, ℕ}
use Rattle.std.proofs.Common.{arith}
use Rattle.wb_types.proofs.Cutting.{pieces_cut}
use Rattle.wb_types.specs.declared.refusal.Refusal.{Refusal}
use Rattle.wb_types.specs.declared.refusal.Refusal.TheVariants.{Busy}
use Rattle.wb_policy.specs.declared.order.Order.{Order}
use Rattle.wb_policy.specs.declared.quiet.Quiet.{Quiet}
use Rattle.wb_desk.specs.Desks.{DeskState, MayReserve, holdings}
use Rattle.wb_tasks.specs.Plan.{Plan, table}
use Rattle.wb_promise.specs.declared.job.Job.{Job}
use Rattle.wb_promise.specs.declared.job.Job.TheVariants.{Read, Write, Flush, Suspend, Open, Invalidate, Migrate, Replace}
use Rattle.wb_promise.specs.declared.event.What.{What}
use Rattle.wb_promise.specs.declared.event.What.TheVariants.{Refused, Started}
use Rattle.wb_promise.specs.States.{Shape}
use Rattle.wb_types.specs.declared.number.OBlock.{OBlock}
use Rattle.wb_stage.specs.Asking.{is_of}
use Rattle.wb_promise.specs.Effects.{dropped, replacing}
use Rattle.wb_promise.specs.Happenings.{Plain, Cut, Orders, job_refusal, order_for, task_job, KeepsReplacement, begun_as}
use Rattle.wb_machine.specs.Life.{starts_beside}
use Rattle.wb_machine.specs.Members.{Member}
use Rattle.wb_machine.specs.Serving.{GetsJob, Starts, StartsIf, TakesOrder, cut_for, GetsOrder, is_ordered, order_by}
use Rattle.wb_policy.specs.declared.order.Order.TheVariants.{Replace as ReplaceOrder}
use Rattle.wb_policy.specs.Law.{IsMappedAt}
use Rattle.wb_desk.specs.Calls.{reserved}
use Rattle.wb_desk.specs.Entries.{is_replacement}
use Rattle.wb_desk.proofs.Index.{mapped_once}
use Rattle.wb_types.specs.declared.number.CBlock.{CBlock}
use Rattle.wb_tree.specs.Mapping.{IsMapping}

pub none_of : {X : Type 0} (o : Option X) → is_some o ≡ false → o ≡ None
none_of None e = refl
none_of (Some x) e = absurd (cc)

is_idle : {X : Type 0} (o : Option X) → o ≡ None → is_none o ≡ true
is_idle None e = refl
is_idle (Some x) e = absurd (cc)

is_busy : {X : Type 0} (o : Option X) → is_some o ≡ true → is_none o ≡ false
is_busy None e = absurd (cc)
is_busy (Some x) e = refl

module _ (shape : Shape) (desk : DeskState Quiet) (m : Member) (job : Job) where
  -- by who is at nothing
  pub starts_of : (what : What) (desk' : DeskState Quiet) (m' : Member) → m.task ≡ None → GetsJob shape desk m job what desk' m' → Starts shape desk m job what desk' m'
  starts_of what desk' m' e g = subst (λ (b : Bool). StartsIf b shape desk m job what desk' m') (sym (is_idle m.task e)) g

-- a request is refused for what it asks
pub refused_request : (shape : Shape) (desk : DeskState Quiet) (m : Member) (job : Job) (refusal : Refusal) → job_refusal shape job ≡ Some refusal → GetsJob shape desk m job (Refused refusal) desk m
refused_request shape desk m Flush refusal e = absurd (cc)
refused_request shape desk m Suspend refusal e = absurd (cc)
refused_request shape desk m (Migrate migration block) refusal e = absurd (cc)
refused_request shape desk m (Replace old new) refusal e = absurd (cc)
refused_request shape desk m job refusal e = record { chosen = Plain; gives = λ words card. e; leaves = (refl, refl) }

-- a job whose order may not be given is refused as busy
pub refused_busy : (shape : Shape) (desk : DeskState Quiet) (m : Member) (job : Job) (desk' : DeskState Quiet) (m' : Member) → is_ordered job ≡ true → TakesOrder desk m job false desk' m' → GetsJob shape desk m job (Refused Busy) desk' m'
refused_busy shape desk m (Migrate migration block) desk' m' e t = record { chosen = Plain; gives = λ words card. (t.0, λ may. t.1 may.0 (order_for migration block) refl may.1); leaves = (t.2, t.3) }
refused_busy shape desk m (Replace old new) desk' m' e t = record { chosen = Plain; gives = λ words card. (t.0, λ may. t.1 may.0 (ReplaceOrder old new may.0) refl may.1); leaves = (t.2, t.3) }
refused_busy shape desk m job desk' m' e t = absurd (cc)

-- who has this task then
abbrev pub tasked : Member → Job → Plan → Member
tasked m job plan = record { task = Some (job, plan); orders = m.orders; awaiting = m.awaiting; buffer = m.buffer; seen = m.seen; share = m.share }

-- the task of a job that starts over this desk, by who has these orders
abbrev pub begins : Shape → DeskState Quiet → Member → Job → Plan
begins shape desk m job = table (task_job shape desk.mode m.awaiting job (cut_for shape job) [])

-- a job that needs no order starts
pub started_request : (shape : Shape) (desk : DeskState Quiet) (m : Member) (job : Job) (plan : Plan) → starts_beside job ≡ true → is_ordered job ≡ false → job_refusal shape job ≡ None → plan ≡ begins shape desk m job → GetsJob shape desk m job Started desk (tasked m (begun_as job) plan)
started_request shape desk m (Read extent) plan w o r p = record { chosen = Cut (cut_for shape (Read extent)); gives = λ words card. (r, pieces_cut 1 extent (omega arith)); leaves = (refl, ap (λ (x : Plan). tasked m (Read extent) x) p) }
started_request shape desk m (Write extent content) plan w o r p = record { chosen = Cut (cut_for shape (Write extent content)); gives = λ words card. (r, pieces_cut 1 extent (omega arith)); leaves = (refl, ap (λ (x : Plan). tasked m (Write extent content) x) p) }
started_request shape desk m (Invalidate block) plan w o r p = record { chosen = Plain; gives = λ words card. r; leaves = (refl, ap (λ (x : Plan). tasked m (Invalidate block) x) p) }
started_request shape desk m Flush plan w o r p = record { chosen = Plain; gives = λ words card. tt; leaves = (refl, ap (λ (x : Plan). tasked m Flush x) p) }
started_request shape desk m job plan w o r p = absurd (cc)

-- who is at its task then, with what it had or was given
tasked_so : (m m' : Member) (job : Job) (plan begun : Plan) → plan ≡ begun → m' ≡ m → tasked m' job plan ≡ tasked m job begun
tasked_so m m' job plan begun p e = ap (λ (x : Plan). tasked m' job x) p ∙ ap (λ (x : Member). tasked x job begun) e

-- the order that was taken is the one of the job
taken : (mine order : Order) (desk : DeskState Quiet) (m : Member) (cache : CBlock) (desk' : DeskState Quiet) (m' : Member) → Some mine ≡ Some order → MayReserve desk cache order → desk' ≡ reserved desk cache order false → m' ≡ record m { orders = order ∷ m.orders } →
    MayReserve desk cache mine × (desk' ≡ reserved desk cache mine false) × (m' ≡ record m { orders = mine ∷ m.orders })
taken mine order desk m cache desk' m' e may d s =
    let same : mine ≡ order = cc in
    subst (λ (o : Order). MayReserve desk cache o × (desk' ≡ reserved desk cache o false) × (m' ≡ record m { orders = o ∷ m.orders })) (sym same) (may, d, s)

-- a migration or a replacement starts under the order that was had or taken
pub started_ordered : (shape : Shape) (desk : DeskState Quiet) (m : Member) (job : Job) (desk' : DeskState Quiet) (m' : Member) (plan : Plan) → is_ordered job ≡ true → TakesOrder desk m job true desk' m' → plan ≡ begins shape desk m job →
    GetsJob shape desk m job Started desk' (tasked m' (begun_as job) plan)
started_ordered shape desk m (Read extent) desk' m' plan e t p = absurd (cc)
started_ordered shape desk m (Write extent content) desk' m' plan e t p = absurd (cc)
started_ordered shape desk m (Invalidate block) desk' m' plan e t p = absurd (cc)
started_ordered shape desk m Flush desk' m' plan e t p = absurd (cc)
started_ordered shape desk m Suspend desk' m' plan e t p = absurd (cc)
started_ordered shape desk m (Open mode second) desk' m' plan e t p = absurd (cc)
started_ordered shape desk m job desk' m' plan e t p = elim t [
  | inl has ↦ record {
    chosen = Cut (cut_for shape job);
    gives = λ words card. (pieces_cut 1 _ (omega arith), has.0);
    leaves = (has.1, tasked_so m m' (begun_as job) plan (begins shape desk m job) p has.2);
  }
  | inr given ↦
      let r = taken _ given.1.0 desk m given.0 desk' m' given.1.1 given.1.2 given.1.3 given.1.4 in
      record {
        chosen = Orders (cut_for shape job) given.0;
        gives = λ words card. (pieces_cut 1 _ (omega arith), r.0);
        leaves = (r.1, tasked_so _ m' (begun_as job) plan (begins shape desk m job) p r.2);
      }
]

-- ---- who takes an order

-- a replacement takes the cache block where its block is
takes_where : (desk : DeskState Quiet) (old new : OBlock) (cache : CBlock) (order : Order) → order_by (Replace old new) cache ≡ Some order → MayReserve desk cache order → IsMappedAt (holdings desk) old.0 cache.0
takes_where desk old new cache order e may = let same : ReplaceOrder old new cache ≡ order = cc in (subst (λ (o : Order). MayReserve desk cache o) (sym same) may).lawful.1

pub takes_replacement : (desk : DeskState Quiet) (m : Member) (old new : OBlock) (cache : CBlock) (b : Bool) (desk' : DeskState Quiet) (m' : Member) → IsMapping desk.geometry.cache_blocks desk.geometry.origin_blocks desk.tree.entries → IsMappedAt (holdings desk) old.0 cache.0 → ¬ KeepsReplacement desk m.orders old new →
    GetsOrder desk m (ReplaceOrder old new cache) b desk' m' → TakesOrder desk m (Replace old new) b desk' m'
takes_replacement desk m old new cache true desk' m' kept at n g =
    let same : g.0 ≡ cache = g.1.lawful.0 in
    inr (g.0, (ReplaceOrder old new cache, ap (λ (c : CBlock). Some (ReplaceOrder old new c)) same, g.1, g.2, g.3))
takes_replacement desk m old new cache false desk' m' kept at n g = (
  n,
  (λ there order e may.
      let here = mapped_once desk.geometry.cache_blocks desk.geometry.origin_blocks desk.tree.entries old.0 there.0 cache.0 kept (takes_where desk old new there order e may) at in
      let same : ReplaceOrder old new cache ≡ order = ap (λ (k : ℕ). ReplaceOrder old new (record { 0 = k })) (sym here) ∙ (let both = e in cc) in
      g.0 there (subst (λ (o : Order). MayReserve desk there o) (sym same) may)),
  g.1,
  g.2,
)

-- orders that were dropped are those that were sorted out
pub dropped_is : (block : OBlock) (orders : List Order) → dropped block orders ≡ filter (λ (o : Order). not (is_of block o)) orders
dropped_is block [] = refl
dropped_is block (o ∷ os) = by_test (is_of block o) (dropped_is block os)
  where
    by_test : (t : Bool) → dropped block os ≡ filter (λ (o : Order). not (is_of block o)) os → (if t then dropped block os else o ∷ dropped block os) ≡ (if not t then o ∷ filter (λ (o : Order). not (is_of block o)) os else filter (λ (o : Order). not (is_of block o)) os)
    by_test true e = e
    by_test false e = ap (λ xs. o ∷ xs) e

-- the replacements of a block are those that were sorted out
pub replacing_is : (block : OBlock) (orders : List Order) → replacing block orders ≡ filter (λ (o : Order). is_of block o && is_replacement o) orders
replacing_is block [] = refl
replacing_is block (o ∷ os) = by_test (is_of block o && is_replacement o) (replacing_is block os)
  where
    by_test : (t : Bool) → replacing block os ≡ filter (λ (o : Order). is_of block o && is_replacement o) os → (if t then o ∷ replacing block os else replacing block os) ≡ (if t then o ∷ filter (λ (o : Order). is_of block o && is_replacement o) os else filter (λ (o : Order). is_of block o && is_replacement o) os)
    by_test true e = ap (λ xs. o ∷ xs) e
    by_test false e = e
