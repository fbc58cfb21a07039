-- In passthrough a write or an invalidation takes its block out of the cache: where the abstract world has it, and there nobody has an order.
use Rattle.std.proofs.Common.{◌≡◌, ◌∙◌, ◌++◌, inl, inr, ℕ, false, List, Option, Some, None, refl, sym, ap, subst, slice_get, slice_set}
use Rattle.std.proofs.lemmas.Option.{slice_get_within}
use Rattle.wb_types.specs.declared.number.CBlock.{CBlock}
use Rattle.wb_types.specs.declared.number.OBlock.{OBlock}
use Rattle.wb_types.specs.declared.mode.Mode.TheVariants.{Writeback, Passthrough}
use Rattle.wb_disk.specs.Device.{History}
use Rattle.wb_contents.specs.Volume.{Volume}
use Rattle.wb_contents.specs.Promises.{first_volume}
use Rattle.wb_orders.specs.declared.live_order.LiveOrder.{LiveOrder}
use Rattle.wb_orders.specs.Orders.{Orders, order_at}
use Rattle.wb_space.specs.declared.block.Block.TheVariants.{Mapped, Quarantined}
use Rattle.wb_tree.specs.Edits.{IsChangedAt}
use Rattle.wb_tasks.specs.Plan.{Plan, want}
use Rattle.wb_tasks.specs.Ready.{Suits}
use Rattle.wb_tasks.specs.declared.step.DeskStep.TheVariants.{Unmap}
use Rattle.wb_tasks.specs.declared.step.Want.TheVariants.{Desk}
use Rattle.wb_tasks.specs.declared.step.Got.TheVariants.{Done}
use Rattle.wb_devices.specs.declared.devices.Devices.{Devices}
use Rattle.wb_devices.specs.declared.running.RunningCommit.{RunningCommit}
use Rattle.wb_desk.specs.Desks.{DeskState, DeskInvariant, holdings}
use Rattle.wb_policy.specs.Law.{IsMappedAt}
use Rattle.wb_desk.specs.Entries.{IsRemoved, keeps, orders_past, unmapped}
use Rattle.wb_desk.proofs.Leaving.{mapped_state}
use Rattle.wb_stage.specs.Asking.{DidUnmap}
use Rattle.wb_link.specs.Tables.{Want as AbstractWant, Unmap_plain, Done as DoneThere, Order as AbstractOrder}
use Rattle.wb_link.specs.World.{Shared, abstract_after_all}
use Rattle.wb_link.specs.Clerk.{abstract_opened}
use Rattle.wb_link.specs.Openings.{Site, AbstractPhase, site}
use Rattle.wb_link.proofs.Link.{Linked, Ready}
use Rattle.wb_link.proofs.Lives.{ends, start_is_linked}
use Rattle.wb_link.proofs.Opening.{Lived}
use Rattle.wb_link.proofs.Runs.{fresh_noted}
use Rattle.wb_link.proofs.Steps.{step_facts}
use Rattle.wb_promise.specs.declared.job.Job.{Job}
use Rattle.wb_promise.specs.States.{Shape, Actor, Target, Stands}
use Rattle.wb_promise.specs.Clerk.{Notes}
use Rattle.wb_promise.specs.Effects.{actor_then, dropped, replacing, seen_then}
use Rattle.wb_runs.proofs.Images.{Images, later_of}
use Rattle.wb_runs.proofs.Metadata.{MetadataKept, AtDesk, unknowing, kept_readable}
use Rattle.wb_runs.proofs.Desks.{unmapped_stands}
use Rattle.wb_runs.proofs.Located.{stands_alone}
use Rattle.wb_simulation.specs.Carried.{order_there}
use Rattle.wb_simulation.specs.Sites.{StateTakesClean}
use Rattle.wb_simulation.specs.Telling.{Quietly}
use Rattle.wb_simulation.specs.Worlds.{zeros, OrderIsThere, Unmaps}
use Rattle.wb_simulation.specs.Laws.{HasNoOrder, UnmapFollowed, IsRequestJob, after_step}
use Rattle.wb_simulation.proofs.Orders.{cache_there}
use Rattle.wb_simulation.proofs.Noted.{notes_followed}
use Rattle.wb_simulation.proofs.Opening.{images_followed}
use Rattle.wb_simulation.proofs.Unmapping.{unmaps_followed}
use Rattle.wb_headline.specs.Desks.{live_orders, orders_living, block_there}
use Rattle.wb_headline.proofs.Desking.{desk_unmaps}
use Rattle.wb_headline.proofs.Following.{situation, size, many, Followed, Goes}
use Rattle.wb_headline.proofs.Orders.{stands_so}
use Rattle.wb_headline.proofs.Seeing.{slot_there}
use Rattle.wb_headline.proofs.Targets.{standing, actor_is, leads_on, unnoted}

module _ (P A : Type 0) (shape : Shape) (images : Images) (t : Target P) (commit : Option RunningCommit) (devices : Devices (List History)) (actors : List Actor) (n : Notes) (known : MetadataKept {P = P} {A = A} shape.geometry images (Stands t) commit devices.metadata)
    (f : Followed P A shape images (standing P A shape images t commit devices actors n) n) (a : ℕ) (x : Actor) (ex : slice_get actors a ≡ Some x) (job : Job) (request : IsRequestJob job) (plan : Plan) (xt : x.task ≡ Some (job, plan)) (suits : Suits shape.geometry.origin_blocks plan x.card)
    (bl : OBlock) (new : DeskState P) (next : Desk (Unmap bl) ≡ want plan) (did : DidUnmap (λ policy o. new.policy) bl t.desk new) where
  abbrev s : Shared
  s = f.site.world.shared

  law : UnmapFollowed (situation shape t devices actors) a x job plan bl f.site.world
  law = unmaps_followed (situation shape t devices actors) shape.geometry.origin_blocks a x job bl plan f.site.world request (record { here = ex; task = xt; asks = sym next; agrees = f.phase.agrees }) suits

  -- the run that has come there keeps what every run keeps
  linked : (d : Volume) × Linked (size P A shape) f.site.world d
  linked =
      let first = first_volume Writeback (λ b o. zeros) in
      let all = ends (size P A shape) (site (many P A shape) zeros) first (abstract_opened (λ b o. zeros)) f.reached.events (start_is_linked (size P A shape) (many P A shape) zeros) (fresh_noted (many P A shape) first (λ b o. zeros) refl) f.reached.happens in
      (all.last, subst (λ (phase : AbstractPhase). Lived (size P A shape) f.site.world phase all.last) f.phase.phase_is (subst (λ (v : Site). Lived (size P A shape) v.world v.phase all.last) f.reached.at all.lived))

  -- so the block stands where it is unmapped from, and the target passes through
  ready : Ready (Unmap_plain bl.0 law.cache) law.actor s
  ready = subst (λ (v : AbstractWant). Ready v law.actor s) (sym law.may.asked) (step_facts (size P A shape) f.site.world linked.0 a law.actor law.script (Unmap_plain bl.0 law.cache) DoneThere linked.1 law.may).ready

  passes : linked.0.mode ≡ Passthrough
  passes = linked.1.dropping a law.actor law.may.actor ready.0

  none : HasNoOrder f.site.world
  none = record { nobody = λ b z p ez e. linked.1.orders b z p ez e passes; none_waits = λ c p w. linked.1.aside.modes c p w passes }

  nowhere : (p : AbstractOrder) → OrderIsThere f.site.world p → ⊥
  nowhere p (inl w) = none.none_waits p.cache p w
  nowhere p (inr h) = none.nobody h.0 h.1 p h.2 h.3

  -- no order lives at the desk
  vacant : (c : ℕ) → order_at t.desk.orders.slots c ≡ None
  vacant c = by (order_at t.desk.orders.slots c) refl
    where
      by : (o : Option LiveOrder) → order_at t.desk.orders.slots c ≡ o → order_at t.desk.orders.slots c ≡ None
      by None e = e
      by (Some l) e = absurd (nowhere (order_there s.mapping c l.order) ((f.phase.agrees.orders_agree.live c (Some l.order) (slot_there t.desk.orders.slots c l e) (order_there s.mapping c l.order) (cache_there s.mapping c l.order)).0 refl))

  abbrev c : CBlock
  c = record { 0 = law.cache }

  kept : DeskInvariant unknowing t.desk
  kept = known.is.kept

  at : IsMappedAt (holdings t.desk) bl.0 law.cache
  at = stands_so P t.desk kept s f.phase.desk bl.0 law.cache ready.1

  -- the desk has taken it from there, and its orders stay
  gone : IsChangedAt t.desk.tree new.tree law.cache None × (new ≡ unmapped t.desk c new.tree new.policy)
  gone = did.0 (record { cache = c; mapped = at; removed = subst IsRemoved (sym (vacant law.cache)) tt })

  pub left_at : (cache : ℕ) × IsMappedAt (holdings t.desk) bl.0 cache × IsChangedAt t.desk.tree new.tree cache None
  left_at = (law.cache, at, gone.0)

  orders_stay : orders_past (order_at t.desk.orders.slots law.cache) t.desk.orders c ≡ t.desk.orders
  orders_stay = ap (λ (o : Option LiveOrder). orders_past o t.desk.orders c) (vacant law.cache)

  pub same_orders : new.orders ≡ t.desk.orders
  same_orders = ap (λ (d : DeskState P). d.orders) gone.1 ∙ orders_stay

  abbrev To : DeskState P → Type 0
  To desk = Goes P A shape (record { devices = devices; commit = commit; phase = Stands (record { words = t.words; desk = desk }); actors = slice_set actors a (actor_then {P = P} {A = A} shape (Stands t) devices x (Desk (Unmap bl)) Done) }) n

  pub unmap_goes : seen_then x.seen (Desk (Unmap bl)) Done job ≡ x.seen → To new
  unmap_goes sees =
      let g = law.follows none (dropped bl x.orders) (replacing bl x.orders ++ x.awaiting) in
      let s' = (abstract_after_all f.site.world g.records).shared in
      let desk' = unmapped t.desk c new.tree new.policy in
      let y : Actor = record (after_step job plan Done x) { orders = dropped bl x.orders; awaiting = replacing bl x.orders ++ x.awaiting } in
      let alone = stands_alone P t.desk kept bl.0 law.cache at in
      let room = slice_get_within t.desk.space.blocks law.cache Mapped (mapped_state unknowing t.desk bl.0 law.cache kept at) in
      let readable = kept_readable shape.geometry images devices.metadata P A (Stands t) commit known in
      subst To (sym gone.1)
      (subst (λ (v : Actor). Goes P A shape (record { devices = devices; commit = commit; phase = Stands (record { words = t.words; desk = desk' }); actors = slice_set actors a v }) n) (sym (actor_is P A shape (Stands t) devices x job plan (Desk (Unmap bl)) Done xt ∙ (λ i. record y { seen = sees i })))
      (leads_on P A shape images t commit devices actors n known f a x ex (Unmaps bl.0 law.cache None) Quietly (record { words = t.words; desk = desk' }) commit devices y n images (live_orders t.desk) g
      (unnoted P A shape images t commit devices actors n known f a x ex notes_followed.quiet g f.notes_agree) refl refl
      (subst (λ (k : DeskState P). AtDesk shape.geometry images k commit devices.metadata) gone.1 (unmapped_stands P shape.geometry images t.desk commit devices.metadata bl new known did))
      (ap (λ (os : Orders). orders_living os.slots) (sym orders_stay))
      (desk_unmaps P t.desk s s' f.phase.desk bl.0 c alone.0 new.tree new.policy None (ap (λ (o : Option LiveOrder). block_there (Quarantined (keeps o) false)) (vacant law.cache)) room alone.1 gone.0 g.desk.0 g.desk.1)
      (images_followed.stay shape.geometry images.committed (later_of images) devices.metadata devices.metadata s s' f.phase.images_agree g.turned readable.read)
      (λ state e. let r = f.phase.running state e in (g.turned.1 ∙ r.0, subst (StateTakesClean state) (sym g.turned.4) r.1))))
