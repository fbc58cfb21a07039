-- The desk's unmap of a write or an invalidation is followed.
use Rattle.std.proofs.Common.{◌≡◌, ◌∙◌, ◌⊎◌, inl, inr, ℕ, true, false, List, [], ◌∷◌, Option, Some, None, refl, sym, ap, subst, slice_get, slice_set}
use Rattle.wb_simulation.proofs.Cells.{Leading}
use Rattle.wb_refines.proofs.Followed.{rest_plain}
use Rattle.wb_refines.proofs.Cells.{IsPlain, held_plain, saw_plain}
use Rattle.wb_tasks.specs.Ready.{Suits}
use Rattle.wb_types.specs.declared.number.CBlock.{CBlock}
use Rattle.wb_types.specs.declared.number.OBlock.{OBlock}
use Rattle.wb_disk.specs.Device.{Content}
use Rattle.wb_policy.specs.declared.order.Order.{Order}
use Rattle.wb_tasks.specs.Tables.{BlockRange, BlockJob, Reading, Invalidating}
use Rattle.wb_tasks.specs.Plan.{Plan, want, first_step}
use Rattle.wb_tasks.specs.declared.step.Answer.{Answer}
use Rattle.wb_tasks.specs.declared.step.DeskStep.TheVariants.{Unmap}
use Rattle.wb_tasks.specs.declared.step.Want.{Want}
use Rattle.wb_tasks.specs.declared.step.Want.TheVariants.{Desk}
use Rattle.wb_tasks.specs.declared.step.Got.TheVariants.{Done}
use Rattle.wb_contents.specs.Volume.{changed}
use Rattle.wb_link.specs.Tables.{Script, Order as AbstractOrder, Done as DoneThere}
use Rattle.wb_link.specs.World.{World, Shared, Quarantined, AbstractActor, is_alone}
use Rattle.wb_refines.specs.Going.{shared_after, gone, MayGo}
use Rattle.wb_refines.specs.Translation.{script_for}
use Rattle.wb_refines.specs.Models.{IsAt, HasStopped, plan_of, MayUnmap, held_of}
use Rattle.wb_refines.proofs.Locks.{has_no_more}
use Rattle.wb_refines.proofs.Going.{with_own}
use Rattle.wb_promise.specs.declared.job.Job.{Job}
use Rattle.wb_promise.specs.declared.job.Job.TheVariants.{Read, Write, Invalidate}
use Rattle.wb_promise.specs.States.{Actor}
use Rattle.wb_simulation.specs.Steps.{AreOfBlock}
use Rattle.wb_simulation.specs.Carried.{live_there, order_there}
use Rattle.wb_simulation.specs.Actors.{write_of, IsLate, IsRequestAt, IsDoing, IsAmongOthers, StandsFor}
use Rattle.wb_simulation.specs.Telling.{Quietly, AreUnnoted}
use Rattle.wb_simulation.specs.Worlds.{Situation, Agrees, OrdersAgree, OrderIsThere, Unmaps, WorldFollowsBy}
use Rattle.wb_simulation.specs.Laws.{HasNoOrder, UnmapFollowed, UnmapsFollowed, IsRequestJob, after_step}
use Rattle.wb_simulation.proofs.Orders.{IsDone, MigratesNot, by_pair, cache_there, does_none, who}
use Rattle.wb_simulation.proofs.Among.{own_there, goes_with}
use Rattle.wb_simulation.proofs.Followed.{doing_of, begins_by}

-- nobody has an order, so none lives, whatever the entries are
orders_none : (now : Situation) (a : ℕ) (x x' : Actor) (s : World) (y y' : AbstractActor) (t : Shared) → slice_get now.actors a ≡ Some x → slice_get s.actors a ≡ Some y → Agrees now s → HasNoOrder s → y'.order ≡ y.order → IsDone now.size now.words now.orders x' y' →
    OrdersAgree now.size now.words now.orders (slice_set now.actors a x') (with_own s a t y')
orders_none now a x x' s y y' t ex ey g none same its = record {
  live = λ c o e p at. (λ l. absurd (dead c o e p l), λ h. absurd (nowhere p h));
  once = λ b v p ev e. absurd (nobody b v p ev e);
  waits = λ k p w. absurd (none.none_waits k p w);
  ours = λ b z v p ez ev e. absurd (nobody b v p ev e);
  carried = λ b z v migration block plan ez ev e. by_pair now.actors s.actors a x x' y y' ex ey (λ b z v. IsDone now.size now.words now.orders z v) its (λ b z v n ez ev migration block plan e. g.orders_agree.carried b z v migration block plan ez ev e) b z v ez ev migration block plan e;
}
  where
    same_there : (v : AbstractActor) (p : AbstractOrder) → v.order ≡ y.order → v.order ≡ Some p → ⊥
    same_there v p k e = none.nobody a y p ey (sym k ∙ e)

    nobody : (b : ℕ) (v : AbstractActor) (p : AbstractOrder) → slice_get (slice_set s.actors a y') b ≡ Some v → v.order ≡ Some p → ⊥
    nobody b v p ev e = elim (who s.actors a y y' ey b v ev) [
      | inl one ↦ same_there y' p same (ap (λ (q : AbstractActor). q.order) one.1 ∙ e)
      | inr other ↦ none.nobody b v p other.1 e
    ]

    nowhere : (p : AbstractOrder) → OrderIsThere (with_own s a t y') p → ⊥
    nowhere p (inl w) = none.none_waits p.cache p w
    nowhere p (inr h) = nobody h.0 h.1 p h.2 h.3

    was_nowhere : (p : AbstractOrder) → OrderIsThere s p → ⊥
    was_nowhere p (inl w) = none.none_waits p.cache p w
    was_nowhere p (inr h) = none.nobody h.0 h.1 p h.2 h.3

    dead : (c : ℕ) (o : Option Order) → slice_get now.orders c ≡ Some o → (p : AbstractOrder) → live_there t.mapping c o ≡ Some p → ⊥
    dead c None e p l = absurd (cc)
    dead c (Some o) e p l = was_nowhere (order_there s.shared.mapping c o) ((g.orders_agree.live c (Some o) e (order_there s.shared.mapping c o) (cache_there s.shared.mapping c o)).0 refl)

module _ (now : Situation) (a : ℕ) (x : Actor) (s : World) (y : AbstractActor) (ex : slice_get now.actors a ≡ Some x) (ey : slice_get s.actors a ≡ Some y) (g : Agrees now s) (st : StandsFor now.size now.most now.words x y) where
  -- it is at its task there, and unmaps its block from where it was seen
  at_unmap : (job : Job) (content : Content) (on : BlockJob) (block : OBlock) (later : List Want) (answer : Answer) → IsPlain later → MigratesNot job → is_alone y.task ≡ false → ((z : AbstractActor) → IsAt now.size content (plan_of on later answer) x.card z → IsDoing now.size now.most false job (plan_of on later answer) x.card x.share z) →
      IsAt now.size content (plan_of on (Desk (Unmap block) ∷ later) answer) x.card y → UnmapFollowed now a x job (plan_of on (Desk (Unmap block) ∷ later) answer) block s
  at_unmap job content on block later answer plain other among does i = by_place i.place i.is i.unmaps
    where
      by_place : (place : Option CBlock) → y ≡ record { task = Some (script_for now.size content place (plan_of on (Desk (Unmap block) ∷ later) answer)); held = held_of x.card.hold; order = None; leads = false; buffer = i.buffer } → MayUnmap place (Desk (Unmap block) ∷ later) → UnmapFollowed now a x job (plan_of on (Desk (Unmap block) ∷ later) answer) block s
      by_place None is m = absurd m
      by_place (Some c) is m = record {
        cache = c.0;
        actor = y;
        script = script_for now.size content (Some c) (plan_of on (Desk (Unmap block) ∷ later) answer);
        may = record { actor = ey; task = ap (λ (v : AbstractActor). v.task) is; asked = refl; gives = tt; wins = tt };
        follows = λ none orders' awaiting'. by none orders' awaiting';
      }
        where
          t : Shared
          t = record s.shared { mapping = changed s.shared.mapping block.0 None; blocks = changed s.shared.blocks c.0 (Quarantined false) }

          y' : AbstractActor
          y' = record y { task = Some (script_for now.size content (Some c) (plan_of on later answer)) }

          at : IsAt now.size content (plan_of on later answer) x.card y'
          at = record { place = Some c; buffer = i.buffer; is = ap (λ (v : AbstractActor). record v { task = Some (script_for now.size content (Some c) (plan_of on later answer)) }) is ∙ (λ k. record { task = Some (script_for now.size content (Some c) (plan_of on later answer)); held = sym (held_plain later x.card plain) k; order = None; leads = false; buffer = i.buffer }); saw = saw_plain (plan_of on later answer) later x.card plain; unmaps = tt }

          gone_is : gone y y.task (DoneThere ∷ []) ≡ y'
          gone_is = ap (λ (k : Option Script). gone y k (DoneThere ∷ [])) (ap (λ (v : AbstractActor). v.task) is)

          then_actor : List Order → List Order → Actor
          then_actor orders' awaiting' = record (after_step job (plan_of on (Desk (Unmap block) ∷ later) answer) Done x) { orders = orders'; awaiting = awaiting' }

          by : HasNoOrder s → (orders' awaiting' : List Order) → WorldFollowsBy (Unmaps block.0 c.0 None) Quietly a s now (then_actor orders' awaiting')
          by none orders' awaiting' = let x' = then_actor orders' awaiting' in goes_with now now.words (λ f. f) a x x' s y g ex ey (Unmaps block.0 c.0 None) Quietly now.orders now.devices (DoneThere ∷ []) t (DoneThere ∷ [], subst (λ (k : Option Script). AreUnnoted k (DoneThere ∷ [])) (sym (ap (λ (v : AbstractActor). v.task) is)) (tt, tt), refl)
              (subst (λ (k : Option Script). MayGo s.actors a s.shared y k (DoneThere ∷ [])) (sym (ap (λ (v : AbstractActor). v.task) is)) (tt, tt, tt)) (ap (λ (k : Option Script). shared_after s.shared y k (DoneThere ∷ [])) (ap (λ (v : AbstractActor). v.task) is))
              (subst (λ (v : AbstractActor). StandsFor now.size now.most now.words x' v) (sym gone_is) (record { failed = false; has_failed = λ e. absurd (cc); at = does y' at; below = has_no_more now.size content (plan_of on later answer) x.card y' at; among_others = λ k. sym (ap (λ (v : AbstractActor). is_alone v.task) is) ∙ among }))
              (subst (Leading y) (sym gone_is) (λ l. let bad : true ≡ false = sym l ∙ ap (λ (v : AbstractActor). v.leads) is in absurd (cc))) (record { fail = g.words_agree.fail; seals = g.words_agree.seals }) g.origin g.cache refl refl (refl, refl, refl) (refl, refl, refl, refl, refl) (refl, refl)
              (subst (λ (v : AbstractActor). OrdersAgree now.size now.words now.orders (slice_set now.actors a x') (with_own s a t v)) (sym gone_is) (orders_none now a x x' s y y' t ex ey g none refl (does_none _ _ _ _ _ other)))

  -- a request whose next step it is
  of_request : (blocks : ℕ) (job : Job) (content : Content) (job_on : BlockRange → BlockJob) (plan : Plan) (block : OBlock) → MigratesNot job → is_alone y.task ≡ false → ((p : Plan) (z : AbstractActor) → IsRequestAt now.size content false job_on p x.card z → IsDoing now.size now.most false job p x.card x.share z) →
      want plan ≡ Desk (Unmap block) → Suits blocks plan x.card → IsRequestAt now.size content st.failed job_on plan x.card y → UnmapFollowed now a x job plan block s
  of_request blocks job content job_on plan block other among does next suits r = subst (λ (p : Plan). UnmapFollowed now a x job p block s) (sym is)
      (at_unmap job content (job_on r.part) block b.0 plan.answer (rest_plain (job_on r.part) suited.1.1.0 b.0 suited.1.1.1.1) other among
      (λ z at. does (plan_of (job_on r.part) b.0 plan.answer) z (record { part = r.part; job = refl; is_part = r.is_part; of_block = subst (λ (ws : List Want). AreOfBlock now.size r.part.block.0 ws) b.1 r.of_block; at = inl at })) (there (subst At is r.at)))
    where
      b : (ws : List Want) × (plan.steps ≡ Desk (Unmap block) ∷ ws)
      b = begins_by plan (Desk (Unmap block)) next (λ answer k. absurd (cc))

      p : Plan
      p = plan_of (job_on r.part) (Desk (Unmap block) ∷ b.0) plan.answer

      is : plan ≡ p
      is = λ i. record { job = r.job i; steps = b.1 i; answer = plan.answer }

      suited : Suits blocks p x.card
      suited = subst (λ (q : Plan). Suits blocks q x.card) is suits

      At : Plan → Type 0
      At q = IsAt now.size content q x.card y ⊎ HasStopped st.failed q x.card y ⊎ IsLate st.failed q y

      there : At p → IsAt now.size content p x.card y
      there (inl i) = i
      there (inr (inl k)) = absurd k.over
      there (inr (inr l)) = elim l.at [
        | inl e ↦ let steps = ap (λ (q : Plan). first_step q.steps q.answer) e in absurd (cc)
        | inr e ↦ let bad : Desk (Unmap block) ∷ b.0 ≡ [] = e.0 in absurd (cc)
      ]

  followed : (blocks : ℕ) (job : Job) (plan : Plan) (block : OBlock) → IsRequestJob job → x.task ≡ Some (job, plan) → want plan ≡ Desk (Unmap block) → Suits blocks plan x.card → IsDoing now.size now.most st.failed job plan x.card x.share y → UnmapFollowed now a x job plan block s
  followed blocks (Read extent) plan block q task next suits d = of_request blocks (Read extent) [] Reading plan block tt (st.among_others (subst IsAmongOthers (sym task) tt)) (λ p z r. r) next suits d
  followed blocks (Write extent content) plan block q task next suits d = of_request blocks (Write extent content) content write_of plan block tt (st.among_others (subst IsAmongOthers (sym task) tt)) (λ p z r. r) next suits d
  followed blocks (Invalidate b) plan block q task next suits d = of_request blocks (Invalidate b) [] Invalidating plan block tt (st.among_others (subst IsAmongOthers (sym task) tt)) (λ p z r. r) next suits d
  followed blocks job plan block q task next suits d = absurd q

pub unmaps_followed : UnmapsFollowed
unmaps_followed now blocks a x job block plan s q wants suits =
    let y = own_there now s wants.agrees a x wants.here in
    followed now a x s y.0 wants.here y.1 wants.agrees y.2 blocks job plan block q wants.task wants.asks suits (doing_of now.size now.most now.words x y.0 job plan y.2 wants.task)
