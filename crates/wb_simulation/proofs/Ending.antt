-- Answers are followed.
use Rattle.std.proofs.Common.{Bool, ◌≡◌, ◌∙◌, ◌⊎◌, ◌++◌, inl, inr, ℕ, true, false, List, [], ◌∷◌, Option, Some, None, refl, sym, ap, subst, slice_get, Contains}
use Rattle.wb_disk.specs.Device.{Content}
use Rattle.wb_words.specs.SharedWords.{Words, flag}
use Rattle.wb_words.specs.declared.card.Card.{Card}
use Rattle.wb_words.specs.declared.card.Hold.TheVariants.{Nothing as HoldsNothing}
use Rattle.wb_policy.specs.declared.order.Order.{Order}
use Rattle.wb_tasks.specs.Tables.{BlockRange, BlockJob, Reading, Invalidating, OnBlock}
use Rattle.wb_tasks.specs.Plan.{Plan, want}
use Rattle.wb_tasks.specs.Ready.{Suits}
use Rattle.wb_tasks.specs.declared.step.Answer.{Answer}
use Rattle.wb_tasks.specs.declared.step.Want.{Want}
use Rattle.wb_tasks.specs.declared.step.Want.TheVariants.{End}
use Rattle.wb_link.specs.Tables.{Script, Done as DoneThere}
use Rattle.wb_link.specs.World.{World, Nothing, Record, AbstractActor, is_alone}
use Rattle.wb_refines.specs.Going.{records, shared_after, gone, MayGo}
use Rattle.wb_refines.specs.Translation.{job_for}
use Rattle.wb_refines.specs.Models.{IsAt, HasStopped, IsFree, held_of}
use Rattle.wb_refines.specs.Tasks.{IsResting}
use Rattle.wb_promise.specs.declared.job.Job.{Job}
use Rattle.wb_promise.specs.declared.job.Job.TheVariants.{Read, Write, Invalidate}
use Rattle.wb_promise.specs.States.{Actor}
use Rattle.wb_simulation.specs.Actors.{write_of, IsLate, IsRequestAt, IsDoing, StandsFor}
use Rattle.wb_simulation.specs.Carried.{held}
use Rattle.wb_simulation.specs.Telling.{Telling, Answers, IsTold}
use Rattle.wb_simulation.specs.Worlds.{Situation, Agrees, WorldFollows}
use Rattle.wb_simulation.specs.Laws.{AnswersFollowed, IsRequestJob, job_content}
use Rattle.wb_simulation.proofs.Cells.{Leading}
use Rattle.wb_simulation.proofs.Telling.{nothing_told, answers_at, stopped_answers, late_answers_so}
use Rattle.wb_simulation.proofs.Orders.{does_none}
use Rattle.wb_simulation.proofs.Among.{own_there, goes_on, stays_there}
use Rattle.wb_simulation.proofs.Followed.{doing_of, answers_by}

abbrev pub IsNothingLeft : Option Script → Type 0
IsNothingLeft None = Unit {0}
IsNothingLeft (Some script) = script.steps ≡ []

-- Nothing is left of its task there but the answer, or it has none; and it has nothing, or the target has failed.
pub record IsOver (words : Words) (y : AbstractActor) : Type 0 where
  pub steps : IsNothingLeft y.task
  pub free : ((y.held ≡ Nothing) × (y.leads ≡ false)) ⊎ (flag words.fail ≡ true)

-- so it is where it was stopped, or is late
pub stopped_over : (words : Words) (failed : Bool) → (failed ≡ true → flag words.fail ≡ true) → (plan : Plan) (card : Card) (y : AbstractActor) → plan.steps ≡ [] → HasStopped failed plan card y → IsOver words y
stopped_over words failed has plan card y e k = record { steps = subst IsNothingLeft (sym k.task) k.nothing; free = elim (subst (λ (ws : List Want). IsFree failed ws y) e k.free) [ inl h ↦ inl (h, k.leads) | inr f ↦ inr (has f) ] }

pub late_over : (words : Words) (failed : Bool) → (failed ≡ true → flag words.fail ≡ true) → (plan : Plan) (y : AbstractActor) → IsLate failed plan y → IsOver words y
late_over words failed has plan y l = record { steps = subst IsNothingLeft (sym l.nothing) tt; free = inr (has l.has_failed) }

module _ (now : Situation) (a : ℕ) (x : Actor) (s : World) (y : AbstractActor) (ex : slice_get now.actors a ≡ Some x) (ey : slice_get s.actors a ≡ Some y) (g : Agrees now s) (st : StandsFor now.size now.most now.words x y) where
  -- It answers there, too, or has no task there; its orders it may put in another place.
  module _ (orders' awaiting' : List Order) (keeps : (o : Order) → Contains (held x) o → Contains (orders' ++ awaiting') o) where
    abbrev over : Actor
    over = record x { task = None; orders = orders'; awaiting = awaiting' }

    pub answers : (telling : Telling) → IsTold telling a y.task (records a y.task (DoneThere ∷ [])) → IsOver now.words y → WorldFollows telling a s now over
    answers telling told o = by y.task refl
      where
        rests : IsResting (record y { task = None }) ⊎ (flag now.words.fail ≡ true)
        rests = elim o.free [ inl h ↦ inl (record { task = refl; held = h.0; leads = h.1 }) | inr f ↦ inr f ]

        by : (task : Option Script) → y.task ≡ task → WorldFollows telling a s now over
        by None e = stays_there now a x over s y g ex ey telling (subst (λ (rs : List Record). IsTold telling a y.task rs) (sym (nothing_told a y.task (DoneThere ∷ []) e)) told)
            (record { failed = flag now.words.fail; has_failed = λ k. k; at = (e, elim rests [ inl r ↦ inl (record { task = e; held = r.held; leads = r.leads }) | inr f ↦ inr f ]); below = st.below; among_others = λ among. ap is_alone e }) keeps (does_none _ _ _ _ _ tt)
        by (Some script) e =
            let is : y.task ≡ Some (record { job = script.job; steps = []; answer = script.answer }) = e ∙ ap (λ (ws : List _). Some (record { job = script.job; steps = ws; answer = script.answer })) (subst IsNothingLeft e o.steps) in
            let gone_is : gone y y.task (DoneThere ∷ []) ≡ record y { task = None } = ap (λ (t : Option Script). gone y t (DoneThere ∷ [])) is in
            goes_on now now.words (λ f. f) a x over s y g ex ey telling now.devices (DoneThere ∷ []) s.shared told (subst (λ (t : Option Script). MayGo s.actors a s.shared y t (DoneThere ∷ [])) (sym is) (tt, tt, tt)) (ap (λ (t : Option Script). shared_after s.shared y t (DoneThere ∷ [])) is)
            (subst (λ (z : AbstractActor). StandsFor now.size now.most now.words over z) (sym gone_is) (record { failed = flag now.words.fail; has_failed = λ k. k; at = (refl, rests); below = record { owned = st.below.owned; shared = st.below.shared }; among_others = λ among. refl })) (subst (Leading y) (sym gone_is) (λ l. (l, λ more. absurd more)))
            g.words_agree g.origin g.cache refl refl (refl, refl, refl) (refl, refl, refl, refl, refl) (refl, refl) (ap (λ (z : AbstractActor). z.order) gone_is) keeps (does_none _ _ _ _ _ tt)

  abbrev Goal : Plan → Content → Answer → Type 0
  Goal plan content answer = WorldFollows (Answers (job_for now.size content plan.job) answer) a s now (record x { task = None })

  of_request : (blocks : ℕ) (content : Content) (job_on : BlockRange → BlockJob) (plan : Plan) (answer : Answer) → want plan ≡ End answer → Suits blocks plan x.card → IsRequestAt now.size content st.failed job_on plan x.card y → Goal plan content answer
  of_request blocks content job_on plan answer e suits r = answers_by plan (OnBlock (job_on r.part)) answer r.job e (λ later k. (subst (λ (p : Plan). Suits blocks p x.card) (λ i. record { job = r.job i; steps = k i; answer = plan.answer }) suits).1.1.1)
      (λ p. Suits blocks p x.card → At p → Goal p content answer) (λ suits at. by suits.1 at) suits r.at
    where
      At : Plan → Type 0
      At p = IsAt now.size content p x.card y ⊎ HasStopped st.failed p x.card y ⊎ IsLate st.failed p y

      p : Plan
      p = record { job = OnBlock (job_on r.part); steps = []; answer = answer }

      by : x.card.hold ≡ HoldsNothing → At p → Goal p content answer
      by h (inl i) = answers x.orders x.awaiting (λ o c. c) (Answers (job_for now.size content p.job) answer) (answers_at now.size content i.place p.job answer y (ap (λ (v : AbstractActor). v.task) i.is), refl)
          (record { steps = subst (λ (v : AbstractActor). IsNothingLeft v.task) (sym i.is) refl; free = inl (ap (λ (v : AbstractActor). v.held) i.is ∙ ap held_of h, ap (λ (v : AbstractActor). v.leads) i.is) })
      by h (inr (inl k)) = answers x.orders x.awaiting (λ o c. c) (Answers (job_for now.size content p.job) answer) (stopped_answers (job_for now.size content p.job) st.failed p x.card answer y refl k, refl) (stopped_over now.words st.failed st.has_failed p x.card y refl k)
      by h (inr (inr l)) = answers x.orders x.awaiting (λ o c. c) (Answers (job_for now.size content p.job) answer) (late_answers_so (job_for now.size content p.job) st.failed p answer y refl (λ t. let bad = ap (λ (q : Plan). q.steps) t in absurd (cc)) l, refl) (late_over now.words st.failed st.has_failed p y l)

  followed : (blocks : ℕ) (job : Job) (plan : Plan) (answer : Answer) → IsRequestJob job → want plan ≡ End answer → Suits blocks plan x.card → IsDoing now.size now.most st.failed job plan x.card x.share y → Goal plan (job_content job) answer
  followed blocks (Read extent) plan answer q next suits d = of_request blocks [] Reading plan answer next suits d
  followed blocks (Write extent content) plan answer q next suits d = of_request blocks content write_of plan answer next suits d
  followed blocks (Invalidate block) plan answer q next suits d = of_request blocks [] Invalidating plan answer next suits d
  followed blocks job plan answer q next suits d = absurd q

pub answers_followed : AnswersFollowed
answers_followed now blocks a x job plan answer s q wants suits =
    let y = own_there now s wants.agrees a x wants.here in
    followed now a x s y.0 wants.here y.1 wants.agrees y.2 blocks job plan answer q wants.asks suits (doing_of now.size now.most now.words x y.0 job plan y.2 wants.task)
