-- One actor goes on, and all others are as they were.
use Rattle.std.proofs.Common.{Contains, ◌≢◌, zero, suc, [], ◌∷◌, ◌≡◌, ◌==◌, ◌∙◌, inl, inr, if◌then◌else◌, ℕ, Bool, true, false, List, Option, Some, refl, sym, ap, subst, arith, slice_get, slice_set}
use Rattle.std.proofs.lemmas.List.{length-set}
use Rattle.std.proofs.lemmas.Option.{slice_get_within}
use Rattle.wb_disk.specs.Device.{History}
use Rattle.wb_contents.specs.Devices.{by_block}
use Rattle.wb_words.specs.declared.word.Word.TheVariants.{Number}
use Rattle.wb_words.specs.SharedWords.{Words, word_at, flag, fail_word, with_cell, taken}
use Rattle.wb_words.specs.Effects.{words_after}
use Rattle.wb_words.specs.declared.word.Kind.TheVariants.{ReadHit}
use Rattle.wb_words.specs.declared.step.CellStep.{CellStep}
use Rattle.wb_words.specs.declared.step.CellStep.TheVariants.{Look, Take, Count, SetFailed, SetSuspended}
use Rattle.wb_policy.specs.declared.order.Order.{Order}
use Rattle.wb_devices.specs.declared.devices.Devices.{Devices}
use Rattle.wb_types.specs.declared.number.OBlock.{OBlock}
use Rattle.wb_words.specs.declared.card.Card.{Card}
use Rattle.wb_link.specs.Tables.{Order as AbstractOrder, Got}
use Rattle.wb_link.specs.World.{World, Shared, Record, IsAbstractRun, AbstractActor, is_alone, abstract_after_all}
use Rattle.wb_refines.specs.Going.{records, shared_after, gone, MayGo}
use Rattle.wb_refines.specs.Models.{WordsAgree}
use Rattle.wb_refines.specs.Roles.{Role, TakesBeside}
use Rattle.wb_refines.proofs.Cells.{flag_set}
use Rattle.wb_refines.proofs.Going.{goes, with_own}
use Rattle.wb_promise.specs.States.{Actor}
use Rattle.wb_runs.specs.Holding.{cards_of}
use Rattle.wb_simulation.specs.Actors.{StandsFor, AreAmongOthers}
use Rattle.wb_simulation.specs.Telling.{Telling, Quietly, IsTold}
use Rattle.wb_simulation.specs.Carried.{held}
use Rattle.wb_simulation.specs.Worlds.{zeros, Situation, Agrees, OrdersAgree, Turn, Stays, TurnedTo, DeskTurnedTo, WorldFollowsBy, WorldFollows, IsUnfinished, Commits, CommitsAgree, KeepsNumbers}
use Rattle.wb_simulation.proofs.Cells.{Leading, shared_stays, gone_nowhere}
use Rattle.wb_simulation.proofs.Orders.{who, by_pair, IsDone, IsNoMigration, does_none, orders_on}
use Rattle.wb_contents.proofs.Lists.{there_is}

-- the failed bit is never cleared
pub failed_stays : (words : Words) (step : CellStep) (failures suspensions : ℕ) → words.fail ≡ fail_word failures suspensions → flag words.fail ≡ true → flag (words_after words step).fail ≡ true
failed_stays words (Take access b seen) f z e t = by_test (word_at words.cells b == seen)
  where
    by_test : (won : Bool) → flag (if won then with_cell words b (taken access seen) else words).fail ≡ true
    by_test true = t
    by_test false = t
failed_stays words (Count ReadHit) f z e t = t
failed_stays words SetFailed f z e t = flag_set false words.fail f z e
failed_stays words SetSuspended f z e t = flag_set true words.fail f z e
failed_stays words step f z e t = t

-- ---- who is there

pub card_there : (actors : List Actor) (a : ℕ) (x : Actor) → slice_get actors a ≡ Some x → slice_get (cards_of actors) a ≡ Some x.card
card_there [] a x e = absurd (cc)
card_there (z ∷ xs) zero x e = let same : z ≡ x = cc in ap (λ (v : Actor). Some v.card) same
card_there (z ∷ xs) (suc a) x e = card_there xs a x e

-- an abstract actor in its place stands for it
abbrev pub StandsThere : Situation → World → ℕ → Actor → Type 0
StandsThere now s a x = (y : AbstractActor) × (slice_get s.actors a ≡ Some y) × StandsFor now.size now.most now.words x y

module _ (now : Situation) (s : World) (g : Agrees now s) where
  -- each of the run's actors is there, and nobody else
  pub own_there : (a : ℕ) (x : Actor) → slice_get now.actors a ≡ Some x → StandsThere now s a x
  own_there a x e = let y = there_is s.actors a (let l = slice_get_within now.actors a x e in let many = g.many in omega (arith, l, many)) in (y.0, y.1, g.each a x y.0 e y.1)

  pub whose : (b : ℕ) (y : AbstractActor) → slice_get s.actors b ≡ Some y → (x : Actor) × (slice_get now.actors b ≡ Some x)
  whose b y e = there_is now.actors b (let l = slice_get_within s.actors b y e in let many = g.many in omega (arith, l, many))

  pub nobody_alone : AreAmongOthers now.actors → (b : ℕ) (z : AbstractActor) → slice_get s.actors b ≡ Some z → is_alone z.task ≡ false
  nobody_alone among b z e = let x = whose b z e in (g.each b x.0 z x.1 e).among_others (among b x.0 x.1)

  -- So where it takes its block, whoever holds one beside it has a card that counts it.
  pub takes : (role : Role) (a : ℕ) (card : Card) (step : CellStep) → ((block : OBlock) → step ≡ Look (Number block) → (seal : ℕ) → card.seal ≡ Some seal → role.finds seal) → TakesBeside role step s.actors (cards_of now.actors) a card
  takes role a card (Look (Number block)) finds = ((λ b y n e held. let x = whose b y e in (x.0.card, card_there now.actors b x.0 x.1, (g.each b x.0 y x.1 e).below)), finds block refl)
  takes role a card step finds = tt

-- ---- one goes on

module _ (now : Situation) (words' : Words) (up : flag now.words.fail ≡ true → flag words'.fail ≡ true) (a : ℕ) (x x' : Actor) (s : World) (y : AbstractActor) (g : Agrees now s) (ex : slice_get now.actors a ≡ Some x) (ey : slice_get s.actors a ≡ Some y) where
  -- where the run stands then, with that actor as it is then
  abbrev pub then_at : Commits → List (Option Order) → Devices (List History) → Situation
  then_at commits' orders' devices' = record now { words = words'; commits = commits'; orders = orders'; devices = devices'; actors = slice_set now.actors a x' }

  -- The whole state agrees where this is shared and this is aside, and the actor is this one there.
  module _ (commits' : Commits) (orders' : List (Option Order)) (devices' : Devices (List History)) (waiting : ℕ → Option AbstractOrder) (t : Shared) (y' : AbstractActor) (st : StandsFor now.size now.most words' x' y') (w : WordsAgree words' t) (o : t.origin ≡ by_block now.size zeros devices'.origin) (c : t.cache ≡ by_block now.size zeros devices'.cache) (m : t.mode ≡ s.shared.mode)
      (ordered : OrdersAgree now.size words' orders' (slice_set now.actors a x') (record { shared = t; actors = slice_set s.actors a y'; waiting = waiting })) where
    agrees_with : CommitsAgree commits' t → (t.broken ≡ true → t.committing ≡ true) → ((b : ℕ) (v : AbstractActor) → slice_get (slice_set s.actors a y') b ≡ Some v → v.leads ≡ true → t.committing ≡ true) → ((b : ℕ) (v : AbstractActor) → slice_get (slice_set s.actors a y') b ≡ Some v → v.leads ≡ true → IsUnfinished v.task → t.broken ≡ false) →
        ((b d : ℕ) (v u : AbstractActor) → slice_get (slice_set s.actors a y') b ≡ Some v → slice_get (slice_set s.actors a y') d ≡ Some u → v.leads ≡ true → u.leads ≡ true → b ≡ d) → Agrees (then_at commits' orders' devices') (record { shared = t; actors = slice_set s.actors a y'; waiting = waiting })
    agrees_with k b led whole one = record {
      words_agree = w;
      origin = o;
      cache = c;
      mode = m ∙ g.mode;
      commits = k;
      broken = b;
      led = led;
      whole = whole;
      one_leads = one;
      many = length-set s.actors a y' ∙ g.many ∙ sym (length-set now.actors a x');
      each = by_pair now.actors s.actors a x x' y y' ex ey (λ b z v. StandsFor now.size now.most words' z v) st (λ b z v n ez ev. let st = g.each b z v ez ev in record { failed = st.failed; has_failed = λ e. up (st.has_failed e); at = st.at; below = st.below; among_others = st.among_others });
      orders_agree = ordered;
    }

  -- no commit begins, ends or is broken by it
  pub agrees_on : (orders' : List (Option Order)) (devices' : Devices (List History)) (waiting : ℕ → Option AbstractOrder) (t : Shared) (y' : AbstractActor) → Leading y y' → StandsFor now.size now.most words' x' y' → WordsAgree words' t → t.origin ≡ by_block now.size zeros devices'.origin → t.cache ≡ by_block now.size zeros devices'.cache → t.mode ≡ s.shared.mode → t.committing ≡ s.shared.committing → KeepsNumbers s.shared t →
      OrdersAgree now.size words' orders' (slice_set now.actors a x') (record { shared = t; actors = slice_set s.actors a y'; waiting = waiting }) → Agrees (then_at now.commits orders' devices') (record { shared = t; actors = slice_set s.actors a y'; waiting = waiting })
  agrees_on orders' devices' waiting t y' leading st w o c m k b ordered = agrees_with now.commits orders' devices' waiting t y' st w o c m ordered (record { runs = k ∙ g.commits.runs; broken = b.0 ∙ g.commits.broken; began = b.1 ∙ g.commits.began; ended = b.2 ∙ g.commits.ended }) (λ e. k ∙ g.broken (sym b.0 ∙ e))
      (λ d v ev l. let u = was d v ev l in k ∙ g.led d u.0 u.1 u.2.0) (λ d v ev l more. let u = was d v ev l in b.0 ∙ g.whole d u.0 u.1 u.2.0 (u.2.1 more)) (λ d e v u ev eu l n. let p = was d v ev l in let q = was e u eu n in g.one_leads d e p.0 q.0 p.1 q.1 p.2.0 q.2.0)
    where
      was : (d : ℕ) (v : AbstractActor) → slice_get (slice_set s.actors a y') d ≡ Some v → v.leads ≡ true → (u : AbstractActor) × (slice_get s.actors d ≡ Some u) × ((u.leads ≡ true) × (IsUnfinished v.task → IsUnfinished u.task))
      was d v ev l = elim (who s.actors a y y' ey d v ev) [ inl one ↦ (y, ap (slice_get s.actors) one.0 ∙ ey, subst (Leading y) one.1 leading l) | inr one ↦ (v, one.1, (l, λ more. more)) ]

  -- the world goes on by these records, of which it is told, to where all agrees
  pub follows_by : (turn : Turn) (telling : Telling) (commits' : Commits) (orders' : List (Option Order)) (devices' : Devices (List History)) (rs : List Record) (w : World) → IsAbstractRun now.size s rs → abstract_after_all s rs ≡ w → IsTold telling a y.task rs → Agrees (then_at commits' orders' devices') w → TurnedTo turn s.shared w.shared → DeskTurnedTo turn s.shared w.shared →
      WorldFollowsBy turn telling a s (record now { words = words'; commits = commits'; orders = orders'; devices = devices' }) x'
  follows_by turn telling commits' orders' devices' rs w run is told agrees turned desk = record {
    records = rs;
    run = run;
    agrees = subst (λ (v : World). Agrees (then_at commits' orders' devices') v) (sym is) agrees;
    turned = subst (λ (v : World). TurnedTo turn s.shared v.shared) (sym is) turned;
    desk = subst (λ (v : World). DeskTurnedTo turn s.shared v.shared) (sym is) desk;
    told = λ z ez. let both : Some y ≡ Some z = sym ey ∙ ez in let same : y ≡ z = cc in subst (λ (v : AbstractActor). IsTold telling a v.task rs) same told;
  }

  -- it goes on by these results, which lead to this
  goes_to : (turn : Turn) (telling : Telling) (commits' : Commits) (orders' : List (Option Order)) (devices' : Devices (List History)) (results : List Got) (t : Shared) → IsTold telling a y.task (records a y.task results) → MayGo s.actors a s.shared y y.task results → shared_after s.shared y y.task results ≡ t →
      Agrees (then_at commits' orders' devices') (with_own s a t (gone y y.task results)) → TurnedTo turn s.shared t → DeskTurnedTo turn s.shared t → WorldFollowsBy turn telling a s (record now { words = words'; commits = commits'; orders = orders'; devices = devices' }) x'
  goes_to turn telling commits' orders' devices' results t told may is agrees turned desk =
      let went = goes now.size results s a y y.task ey refl may in
      follows_by turn telling commits' orders' devices' (records a y.task results) (with_own s a t (gone y y.task results)) went.run (went.is ∙ ap (λ (v : Shared). with_own s a v (gone y y.task results)) is) told agrees turned desk

  pub goes_with : (turn : Turn) (telling : Telling) (orders' : List (Option Order)) (devices' : Devices (List History)) (results : List Got) (t : Shared) → IsTold telling a y.task (records a y.task results) → MayGo s.actors a s.shared y y.task results → shared_after s.shared y y.task results ≡ t → StandsFor now.size now.most words' x' (gone y y.task results) → Leading y (gone y y.task results) → WordsAgree words' t →
      t.origin ≡ by_block now.size zeros devices'.origin → t.cache ≡ by_block now.size zeros devices'.cache → t.mode ≡ s.shared.mode → t.committing ≡ s.shared.committing → KeepsNumbers s.shared t → TurnedTo turn s.shared t → DeskTurnedTo turn s.shared t →
      OrdersAgree now.size words' orders' (slice_set now.actors a x') (with_own s a t (gone y y.task results)) → WorldFollowsBy turn telling a s (record now { words = words'; orders = orders'; devices = devices' }) x'
  goes_with turn telling orders' devices' results t told may is st leading w o c m k b turned desk ordered = goes_to turn telling now.commits orders' devices' results t told may is (agrees_on orders' devices' s.waiting t (gone y y.task results) leading st w o c m k b ordered) turned desk

  -- its orders stay, and so do the desk's entries
  pub goes_by : (turn : Turn) (telling : Telling) (devices' : Devices (List History)) (results : List Got) (t : Shared) → IsTold telling a y.task (records a y.task results) → MayGo s.actors a s.shared y y.task results → shared_after s.shared y y.task results ≡ t → StandsFor now.size now.most words' x' (gone y y.task results) → Leading y (gone y y.task results) → WordsAgree words' t →
      t.origin ≡ by_block now.size zeros devices'.origin → t.cache ≡ by_block now.size zeros devices'.cache → t.mode ≡ s.shared.mode → t.committing ≡ s.shared.committing → KeepsNumbers s.shared t → TurnedTo turn s.shared t → DeskTurnedTo turn s.shared t →
      (gone y y.task results).order ≡ y.order → ((o : Order) → Contains (held x) o → Contains (held x') o) → t.mapping ≡ s.shared.mapping → IsDone now.size words' now.orders x' (gone y y.task results) → WorldFollowsBy turn telling a s (record now { words = words'; devices = devices' }) x'
  goes_by turn telling devices' results t told may is st leading w o c m k b turned desk same own same_map its = goes_with turn telling now.orders devices' results t told may is st leading w o c m k b turned desk
      (orders_on now.size now.words words' up now.orders now.actors a x x' s y (gone y y.task results) t ex ey g.orders_agree same own same_map its)

  pub goes_on : (telling : Telling) (devices' : Devices (List History)) (results : List Got) (t : Shared) → IsTold telling a y.task (records a y.task results) → MayGo s.actors a s.shared y y.task results → shared_after s.shared y y.task results ≡ t → StandsFor now.size now.most words' x' (gone y y.task results) → Leading y (gone y y.task results) → WordsAgree words' t →
      t.origin ≡ by_block now.size zeros devices'.origin → t.cache ≡ by_block now.size zeros devices'.cache → t.mode ≡ s.shared.mode → t.committing ≡ s.shared.committing → KeepsNumbers s.shared t → TurnedTo Stays s.shared t → DeskTurnedTo Stays s.shared t →
      (gone y y.task results).order ≡ y.order → ((o : Order) → Contains (held x) o → Contains (held x') o) → IsDone now.size words' now.orders x' (gone y y.task results) → WorldFollows telling a s (record now { words = words'; devices = devices' }) x'
  goes_on telling devices' results t told may is st leading w o c m k b turned desk same own its = goes_by Stays telling devices' results t told may is st leading w o c m k b turned desk same own desk.0 its

  -- a commit of which it is told here begins, ends or is broken, and it alone leads one
  pub goes_leading : (turn : Turn) (commits' : Commits) (results : List Got) (t : Shared) → IsTold Quietly a y.task (records a y.task results) → MayGo s.actors a s.shared y y.task results → shared_after s.shared y y.task results ≡ t → StandsFor now.size now.most words' x' (gone y y.task results) → WordsAgree words' t →
      t.origin ≡ s.shared.origin → t.cache ≡ s.shared.cache → t.mode ≡ s.shared.mode → CommitsAgree commits' t → (t.broken ≡ true → t.committing ≡ true) → ((b : ℕ) (v : AbstractActor) → b ≢ a → slice_get s.actors b ≡ Some v → v.leads ≢ true) →
      ((gone y y.task results).leads ≡ true → (t.committing ≡ true) × (IsUnfinished (gone y y.task results).task → t.broken ≡ false)) → TurnedTo turn s.shared t → DeskTurnedTo turn s.shared t → (gone y y.task results).order ≡ y.order → held x ≡ held x' → t.mapping ≡ s.shared.mapping → IsNoMigration x'.task →
      WorldFollowsBy turn Quietly a s (record now { words = words'; commits = commits' }) x'
  goes_leading turn commits' results t told may is st w o c m k b others here turned desk same own same_map other = goes_to turn Quietly commits' now.orders now.devices results t told may is
      (agrees_with commits' now.orders now.devices s.waiting t z st w (o ∙ g.origin) (c ∙ g.cache) m ordered k b (λ d v ev l. (this d v ev l).1.0) (λ d v ev l. (this d v ev l).1.1) (λ d e v u ev eu l n. (this d v ev l).0 ∙ sym (this e u eu n).0)) turned desk
    where
      z : AbstractActor
      z = gone y y.task results

      ordered : OrdersAgree now.size words' now.orders (slice_set now.actors a x') (with_own s a t z)
      ordered = orders_on now.size now.words words' up now.orders now.actors a x x' s y z t ex ey g.orders_agree same (λ o h. subst (λ (os : List Order). Contains os o) own h) same_map (does_none _ _ _ _ _ other)

      this : (d : ℕ) (v : AbstractActor) → slice_get (slice_set s.actors a z) d ≡ Some v → v.leads ≡ true → (d ≡ a) × ((t.committing ≡ true) × (IsUnfinished v.task → t.broken ≡ false))
      this d v ev l = elim (who s.actors a y z ey d v ev) [ inl one ↦ (one.0, subst (λ (u : AbstractActor). u.leads ≡ true → (t.committing ≡ true) × (IsUnfinished u.task → t.broken ≡ false)) one.1 here l) | inr one ↦ absurd (others d v one.0 one.1 l) ]

-- one does nothing there
module _ (now : Situation) (a : ℕ) (x x' : Actor) (s : World) (y : AbstractActor) (g : Agrees now s) (ex : slice_get now.actors a ≡ Some x) (ey : slice_get s.actors a ≡ Some y) where
  pub stays_there : (telling : Telling) → IsTold telling a y.task (records a y.task []) → StandsFor now.size now.most now.words x' y → ((o : Order) → Contains (held x) o → Contains (held x') o) → IsDone now.size now.words now.orders x' y → WorldFollows telling a s now x'
  stays_there telling told st own its = goes_on now now.words (λ f. f) a x x' s y g ex ey telling now.devices [] s.shared told tt (shared_stays s.shared y y.task)
      (subst (λ (z : AbstractActor). StandsFor now.size now.most now.words x' z) (sym nowhere) st) (subst (Leading y) (sym nowhere) (λ l. (l, λ more. more))) g.words_agree g.origin g.cache refl refl (refl, refl, refl) (refl, refl, refl, refl, refl) (refl, refl) (ap (λ (v : AbstractActor). v.order) nowhere) own
      (subst (λ (z : AbstractActor). IsDone now.size now.words now.orders x' z) (sym nowhere) its)
    where
      nowhere : gone y y.task [] ≡ y
      nowhere = gone_nowhere y y.task
