-- What a migration asks of the desk is followed.
use Rattle.std.proofs.Common.{◌≡◌, ◌≢◌, ◌∙◌, inl, inr, ℕ, Bool, true, List, [], ◌∷◌, Option, Some, None, refl, sym, ap, subst, Contains, slice_get, slice_set, false, eq-eqb, if◌then◌else◌, ◌&&◌, ◌||◌, ◌++◌}
use Rattle.wb_types.specs.declared.number.CBlock.{CBlock}
use Rattle.wb_types.specs.declared.number.OBlock.{OBlock}
use Rattle.wb_types.specs.declared.refusal.Refusal.{Refusal}
use Rattle.wb_words.specs.declared.word.Access.TheVariants.{Owned}
use Rattle.wb_words.specs.declared.step.CellStep.TheVariants.{Release}
use Rattle.wb_policy.specs.declared.order.Order.{Order}
use Rattle.wb_tasks.specs.Tables.{Migrating, BlockRange}
use Rattle.wb_tasks.specs.Plan.{Plan}
use Rattle.wb_tasks.specs.Ready.{Has, Suits, IsRest}
use Rattle.wb_tasks.specs.declared.step.Answer.TheVariants.{Refused as Refuses}
use Rattle.wb_tasks.specs.declared.step.DeskStep.TheVariants.{Map, Unmap, ReleaseOrder}
use Rattle.wb_tasks.specs.declared.step.Migration.{Migration}
use Rattle.wb_tasks.specs.declared.step.Migration.TheVariants.{Promote, Demote}
use Rattle.wb_tasks.specs.declared.step.Want.{Want}
use Rattle.wb_tasks.specs.declared.step.Want.TheVariants.{Cell, Desk}
use Rattle.wb_stage.specs.Asking.{is_of}
use Rattle.wb_link.specs.Tables.{Order as AbstractOrder, Got, Done as DoneThere, Short, Map_to, Unmap_from, Give_up, Promoting, Returning, Failed as AnsweredFailed}
use Rattle.wb_link.specs.World.{World, Shared, Nothing, effect, AbstractActor, following}
use Rattle.wb_contents.proofs.Lists.{set_there, set_other}
use Rattle.wb_refines.specs.Translation.{offsets}
use Rattle.wb_refines.specs.Models.{WordsAgree, plan_of, held_of, SawSeal, held_for}
use Rattle.wb_refines.specs.Migrations.{order_on, job_under, migrating}
use Rattle.wb_refines.specs.Carrying.{GoesTo, without_block, under}
use Rattle.wb_refines.specs.Carried.{IsMigrationAt}
use Rattle.wb_refines.proofs.Carrying.{carrying_followed}
use Rattle.wb_refines.proofs.Cells.{held_plain, saw_plain, same_images}
use Rattle.wb_refines.proofs.Followed.{rest_plain}
use Rattle.wb_promise.specs.declared.job.Job.TheVariants.{Migrate}
use Rattle.wb_promise.specs.Effects.{dropped, replacing}
use Rattle.wb_promise.specs.States.{Actor}
use Rattle.wb_simulation.specs.Worlds.{Situation, Agrees, Turn, Stays, Maps, Unmaps, GivesUp, TurnedTo, DeskTurnedTo, KeepsNumbers}
use Rattle.std.proofs.lemmas.Bool.{ne_eqb, cases_eq}
use Rattle.std.proofs.lemmas.List.Elements.{Contains-append_cases, Contains-append_left, Contains-append_right}
use Rattle.wb_types.proofs.Lists.{Contains-first, Contains-behind}
use Rattle.wb_runs.proofs.Lists.{first_or}
use Rattle.wb_desk.specs.Entries.{is_replacement}
use Rattle.wb_contents.specs.Volume.{Locations, changed}
use Rattle.wb_contents.proofs.Positions.{changed_same, changed_other}
use Rattle.wb_policy.specs.declared.order.Order.TheVariants.{Replace, Demote as DemoteOrder}
use Rattle.wb_simulation.specs.Carried.{held, is_at, replacement_there, live_there, IsOrderFor, IsCarried}
use Rattle.wb_simulation.specs.Migrating.{LeavesFrom, TurnsOrder, Carried, EndsOrder}
use Rattle.wb_simulation.proofs.Carrying.{stands_there, is_done, carry_over, carried_job, carried_order}
use Rattle.wb_tasks.specs.declared.step.Answer.{Answer}
use Rattle.wb_refines.specs.Going.{gone}
use Rattle.wb_simulation.specs.Steps.{IsTail}
use Rattle.wb_simulation.proofs.Orders.{GoesOn, carried_again, goes_so, turns_so}
use Rattle.wb_simulation.proofs.Copying.{carry_so, at_again, y_is, y_has, its_own, lives, live_is, no_write_read, order_is}

-- ---- what lives on other cache blocks

map_elsewhere : (m : Locations) (b c d : ℕ) (o : Option Order) → d ≢ c → m b ≡ None → live_there (changed m b (Some c)) d o ≡ live_there m d o
map_elsewhere m b c d (Some (Replace old new k)) n free = ap (λ (t : Bool). Some (replacement_there t old.0 new.0 d)) (elim (cases_eq old.0 b) [
  | inl e ↦ ap (λ (l : Option ℕ). is_at l d) (ap (changed m b (Some c)) e ∙ changed_same m b (Some c)) ∙ ne_eqb c d (λ q. n (sym q)) ∙ sym (ap (λ (l : Option ℕ). is_at l d) (ap m e ∙ free))
  | inr o ↦ ap (λ (l : Option ℕ). is_at l d) (changed_other m b old.0 (Some c) o)
])
map_elsewhere m b c d o n free = refl

unmap_elsewhere : (m : Locations) (b c d : ℕ) (o : Option Order) → d ≢ c → m b ≡ Some c → live_there (changed m b None) d o ≡ live_there m d o
unmap_elsewhere m b c d (Some (Replace old new k)) n at = ap (λ (t : Bool). Some (replacement_there t old.0 new.0 d)) (elim (cases_eq old.0 b) [
  | inl e ↦ ap (λ (l : Option ℕ). is_at l d) (ap (changed m b None) e ∙ changed_same m b None) ∙ sym (ap (λ (l : Option ℕ). is_at l d) (ap m e ∙ at) ∙ ne_eqb c d (λ q. n (sym q)))
  | inr o ↦ ap (λ (l : Option ℕ). is_at l d) (changed_other m b old.0 None o)
])
unmap_elsewhere m b c d o n at = refl

-- a replacement of the block is kept, and a flush is awaited for it from now on
is_replacing : (b : OBlock) (orders : List Order) (o : Order) → is_of b o ≡ true → is_replacement o ≡ true → Contains orders o → Contains (replacing b orders) o
is_replacing b [] o t r h = h
is_replacing b (p ∷ orders) o t r h = by (is_of b p && is_replacement p) refl (λ later. is_replacing b orders o t r later)
  where
    by : (v : Bool) → (is_of b p && is_replacement p) ≡ v → (Contains orders o → Contains (replacing b orders) o) → Contains (if v then p ∷ replacing b orders else replacing b orders) o
    by true e rest = first_or p o orders (Contains (p ∷ replacing b orders) o) h (λ same. subst (λ (q : Order). Contains (p ∷ replacing b orders) q) (sym same) (Contains-first p (replacing b orders))) (λ later. Contains-behind p (replacing b orders) o (rest later))
    by false e rest = first_or p o orders (Contains (replacing b orders) o) h (λ same. absurd (let bad : true ≡ false = (λ i. sym t i && sym r i) ∙ ap (λ (q : Order). is_of b q && is_replacement q) same ∙ e in cc)) rest

still_held : (b : OBlock) (orders awaiting : List Order) (o : Order) → is_of b o ≡ true → is_replacement o ≡ true → Contains (orders ++ awaiting) o → Contains (dropped b orders ++ (replacing b orders ++ awaiting)) o
still_held b orders awaiting o t r h = Contains-append_right (dropped b orders) (replacing b orders ++ awaiting) o (elim (Contains-append_cases orders awaiting o h) [
  | inl i ↦ Contains-append_left (replacing b orders) awaiting o (is_replacing b orders o t r i)
  | inr i ↦ Contains-append_right (replacing b orders) awaiting o i
])

module _ (now : Situation) (blocks : ℕ) (a : ℕ) (x : Actor) (s : World) (y : AbstractActor) (g : Agrees now s) (ex : slice_get now.actors a ≡ Some x) (ey : slice_get s.actors a ≡ Some y)
    (migration : Migration) (block : OBlock) (part : BlockRange) (ws : List Want) (answer : Answer) where
  abbrev os : List (List ℕ)
  os = offsets now.size part.extents

  abbrev left : Plan
  left = plan_of (Migrating migration part) ws answer

  abbrev left_over : Actor
  left_over = record x { task = Some (Migrate migration block, left); orders = dropped part.block x.orders }

  -- It asks something of the desk under its order, which lives.
  module _ (next : Want) (f : IsCarried now.size now.orders migration block part (next ∷ ws) answer x y) (no_tail : ¬ IsTail (next ∷ ws)) where
    abbrev own : AbstractOrder
    own = order_on part f.c f.next

    abbrev over : List (Option Order)
    over = slice_set now.orders f.c.0 None

    its : slice_get now.orders f.c.0 ≡ Some (Some f.order)
    its = lives now a x s y g ex ey migration block part next ws answer f no_tail

    y_under : y.order ≡ Some own
    y_under = carried_order now.size now.orders migration block part (next ∷ ws) answer x y f ∙ live_is now a x s y g ex ey migration block part next ws answer f no_tail

    pub mine : Contains x.orders f.order
    mine = its_own now a x s y g ex ey migration block part next ws answer f no_tail

    -- no other actor has it, and it is not aside
    alone : (b : ℕ) (v : AbstractActor) (p : AbstractOrder) → b ≢ a → slice_get s.actors b ≡ Some v → v.order ≡ Some p → p.cache ≡ f.c.0 → ⊥
    alone b v p n ev e at = n ((g.orders_agree.once a y own ey y_under).1 b v p ev e at)

    waits_not : (k : ℕ) (p : AbstractOrder) → k ≡ f.c.0 → s.waiting k ≡ Some p → ⊥
    waits_not k p at w =
        let r = g.orders_agree.waits k p w in
        let there = (g.orders_agree.live f.c.0 (Some f.order) its p (r.0 ∙ at)).1 (inl (ap s.waiting r.0 ∙ w)) in
        let here = (g.orders_agree.live f.c.0 (Some f.order) its own refl).1 (inr (a, y, ey, y_under)) in
        let both : Some p ≡ Some own = sym there ∙ here in
        let same : p ≡ own = cc in
        (g.orders_agree.once a y own ey y_under).0 (ap s.waiting (sym at) ∙ w ∙ both)

    over_here : slice_get (slice_set now.orders f.c.0 None) f.c.0 ≡ Some None
    over_here = set_there now.orders f.c.0 (Some f.order) None its

    -- it ends it
    module _ (turn : Turn) (results : List Got) (t : Shared) (z : AbstractActor) (goes : GoesTo s.actors a s.shared y results t z)
        (words_agree : WordsAgree now.words t) (origin : t.origin ≡ s.shared.origin) (cache : t.cache ≡ s.shared.cache) (mode : t.mode ≡ s.shared.mode) (commits : t.committing ≡ s.shared.committing) (broken : KeepsNumbers s.shared t) (turned : TurnedTo turn s.shared t) (desk : DeskTurnedTo turn s.shared t) where
      pub ends_order : ((d : ℕ) (o : Option Order) → d ≢ f.c.0 → slice_get now.orders d ≡ Some o → live_there t.mapping d o ≡ live_there s.shared.mapping d o) → IsMigrationAt part f.c f.next migration None left x.card z → IsTail ws → GoesOn now.size part ws x.buffer z.buffer →
          EndsOrder turn f.c.0 a s now x left_over f.order
      ends_order turns at tail on =
          let none : z.order ≡ None = ap (λ (v : AbstractActor). v.order) at.is in
          let is : IsCarried now.size over migration block part ws answer left_over z = carried_again now.size now.orders over migration block part (next ∷ ws) ws answer answer x left_over y z f None (inr tail) at on in
          let gone_on = subst (λ (v : AbstractActor). IsCarried now.size over migration block part ws answer left_over v) (sym goes.is) is in
          let gone_none : (gone y y.task results).order ≡ None = ap (λ (v : AbstractActor). v.order) goes.is ∙ none in
          record {
            live = its;
            mine = mine;
            follows = carry_over now now.words (λ e. e) now.devices a x left_over s y g ex ey migration block part left refl refl (carried_job now.size now.orders migration block part (next ∷ ws) answer x y f) results t goes.may goes.shared words_agree (origin ∙ g.origin) (cache ∙ g.cache)
                turn over gone_on mode commits broken turned desk
                (goes_so now.size now.words now.words (λ e. e) now.orders over now.actors a x left_over s y (gone y y.task results) ex ey g.orders_agree (is_done now.size over migration block part left left_over (gone y y.task results) gone_on now.words refl refl)
                (λ d. d ≡ f.c.0) (λ d. elim (cases_eq d f.c.0) [ inl e ↦ inl e | inr n ↦ inr n ]) (λ p e. let bad : None ≡ Some p = sym gone_none ∙ e in absurd (cc))
                (λ p e away. absurd (let both : Some own ≡ Some p = sym y_under ∙ e in let same : own ≡ p = cc in away (ap (λ (q : AbstractOrder). q.cache) (sym same)))) (λ d n. set_other now.orders f.c.0 d None n)
                (λ d o e eo. let both : Some None ≡ Some o = sym over_here ∙ ap (slice_get over) (sym e) ∙ eo in let same : None ≡ o = cc in sym same) waits_not alone (λ o h p e. let bad : None ≡ Some p = sym gone_none ∙ e in absurd (cc)) t turns);
          }

  module _ (c : CBlock) (f : IsCarried now.size now.orders migration block part (Desk (Map part.block c) ∷ ws) answer x y) (suits : Suits blocks (plan_of (Migrating migration part) (Desk (Map part.block c) ∷ ws) answer) x.card) where
    suits_now : Has (Migrating migration part) x.card (Desk (Map part.block c) ∷ ws)
    suits_now = suits.1

    pub promotes : migration ≡ Promote c
    promotes = suits_now.1.1.0.1

    rest : IsRest (Migrating migration part) suits_now.1.0 ws
    rest = suits_now.1.1.1

    abbrev own_map : AbstractOrder
    own_map = order_on part f.c f.next

    y_there : y ≡ migrating now.size own_map os migration (Desk (Map part.block c) ∷ ws) f.at.answer f.at.buffer
    y_there = y_is now a x s y g ex ey migration block part (Desk (Map part.block c)) ws answer f (λ n. n) (ap held_of suits_now.0)

    -- without memory for the entry
    pub map_refused : (refusal : Refusal) → Carried Stays a s now (record x { task = Some (Migrate migration block, plan_of (Migrating migration part) (Cell (Release Owned part.block) ∷ Desk (ReleaseOrder part.block) ∷ []) (Refuses refusal)) })
    map_refused refusal =
        let back : List Want = Cell (Release Owned part.block) ∷ Desk (ReleaseOrder part.block) ∷ [] in
        let to = subst (λ (m : Migration). GoesTo s.actors a s.shared (migrating now.size own_map os m (Desk (Map part.block c) ∷ ws) f.at.answer f.at.buffer) (Short ∷ []) s.shared (migrating now.size own_map os m back AnsweredFailed f.at.buffer)) (sym promotes)
        (carrying_followed.has_no_room now.size s.actors a s.shared own_map os c part.block ws f.at.answer f.at.buffer refl) in
        let goes = subst (λ (v : AbstractActor). GoesTo s.actors a s.shared v (Short ∷ []) s.shared (migrating now.size own_map os migration back AnsweredFailed f.at.buffer)) (sym y_there) to in
        let z = migrating now.size own_map os migration back AnsweredFailed f.at.buffer in
        carry_so now a x s y g ex ey migration block part (Desk (Map part.block c)) ws answer f (λ n. n) back (Refuses refusal) x.buffer now.devices (Short ∷ []) s.shared z
        goes.may goes.shared goes.is
        (at_again now a x s y g ex ey migration block part (Desk (Map part.block c)) ws answer f z back AnsweredFailed f.at.buffer f.kept (Refuses refusal)
        (λ i. record z { held = sym (ap held_of suits_now.0) i; order = sym (live_is now a x s y g ex ey migration block part (Desk (Map part.block c)) ws answer f (λ n. n)) i }) (λ n. absurd (cc)) tt)
        (record { of_block = tt; paired = (tt, (tt, tt)); read = tt })
        g.words_agree g.origin g.cache (same_images s.shared)

    -- the block is mapped, and the order is over
    pub mapped : s.shared.mapping part.block.0 ≡ None → EndsOrder (Maps part.block.0 f.c.0) f.c.0 a s now x left_over f.order
    mapped free =
        let t = effect s.shared (Promoting own_map os) f.at.buffer (Map_to own_map) DoneThere in
        let z = under None (migrating now.size own_map os migration ws f.at.answer f.at.buffer) in
        let to = subst (λ (m : Migration). GoesTo s.actors a s.shared (migrating now.size own_map os m (Desk (Map part.block c) ∷ ws) f.at.answer f.at.buffer) (DoneThere ∷ DoneThere ∷ []) t (under None (migrating now.size own_map os m ws f.at.answer f.at.buffer))) (sym promotes)
        (carrying_followed.maps now.size s.actors a s.shared own_map os c part.block ws f.at.answer f.at.buffer) in
        let goes = subst (λ (v : AbstractActor). GoesTo s.actors a s.shared v (DoneThere ∷ DoneThere ∷ []) t z) (sym y_there) to in
        let plain = rest_plain (Migrating migration part) suits_now.1.0 ws rest in
        ends_order (Desk (Map part.block c)) f (λ n. n) (Maps part.block.0 f.c.0) (DoneThere ∷ DoneThere ∷ []) t z goes
        (record { fail = g.words_agree.fail; seals = g.words_agree.seals }) refl refl refl refl (refl, refl, refl) (refl, refl, refl, refl, refl) (refl, refl) (λ d o n e. map_elsewhere s.shared.mapping part.block.0 f.c.0 d o n free)
        (at_again now a x s y g ex ey migration block part (Desk (Map part.block c)) ws answer f z ws f.at.answer f.at.buffer None answer
        (λ i. record z { held = sym (held_plain ws x.card plain ∙ ap held_of suits_now.0) i }) f.at.alike (saw_plain left ws x.card plain))
        f.paired.0 (record { of_block = f.of_block; paired = f.paired.2; read = no_write_read now.size ws x.buffer _ f.paired.1 })

  module _ (f : IsCarried now.size now.orders migration block part (Desk (Unmap part.block) ∷ ws) answer x y) (suits : Suits blocks (plan_of (Migrating migration part) (Desk (Unmap part.block) ∷ ws) answer) x.card) where
    suits_away : Has (Migrating migration part) x.card (Desk (Unmap part.block) ∷ ws)
    suits_away = suits.1

    pub demotes : migration ≡ Demote
    demotes = suits_away.1.1.0.1

    leaves : IsRest (Migrating migration part) suits_away.1.0 ws
    leaves = suits_away.1.1.1

    abbrev own_away : AbstractOrder
    own_away = order_on part f.c f.next

    y_away : y ≡ migrating now.size own_away os migration (Desk (Unmap part.block) ∷ ws) f.at.answer f.at.buffer
    y_away = y_is now a x s y g ex ey migration block part (Desk (Unmap part.block)) ws answer f (λ n. n) (ap held_of suits_away.0)

    abbrev t_away : Shared
    t_away = effect s.shared (Returning true own_away os) f.at.buffer (Unmap_from own_away) DoneThere

    abbrev z_away : AbstractActor
    z_away = under (following f.c.0 f.next) (migrating now.size own_away os migration ws f.at.answer f.at.buffer)

    goes_away : GoesTo s.actors a s.shared y (DoneThere ∷ []) t_away z_away
    goes_away =
        let to = subst (λ (m : Migration). GoesTo s.actors a s.shared (migrating now.size own_away os m (Desk (Unmap part.block) ∷ ws) f.at.answer f.at.buffer) (DoneThere ∷ []) t_away (under (following f.c.0 f.next) (migrating now.size own_away os m ws f.at.answer f.at.buffer))) (sym demotes)
        (carrying_followed.unmaps now.size s.actors a s.shared own_away os part.block ws f.at.answer f.at.buffer) in
        subst (λ (v : AbstractActor). GoesTo s.actors a s.shared v (DoneThere ∷ []) t_away z_away) (sym y_away) to

    at_away : (kept : Option AbstractOrder) → following f.c.0 f.next ≡ kept → IsMigrationAt part f.c f.next migration kept left x.card z_away
    at_away kept e =
        let plain = rest_plain (Migrating migration part) suits_away.1.0 ws leaves in
        at_again now a x s y g ex ey migration block part (Desk (Unmap part.block)) ws answer f z_away ws f.at.answer f.at.buffer kept answer
        (λ i. record z_away { held = sym (held_plain ws x.card plain ∙ ap held_of suits_away.0) i; order = e i }) f.at.alike (saw_plain left ws x.card plain)

    on_away : GoesOn now.size part ws x.buffer z_away.buffer
    on_away = record { of_block = f.of_block; paired = f.paired.2; read = no_write_read now.size ws x.buffer _ f.paired.1 }

    -- it stands there
    stood_away : LeavesFrom now.orders s.shared.mapping block → s.shared.mapping part.block.0 ≡ Some f.c.0
    stood_away leaving =
        let same = order_is now a x s y g ex ey migration block part (Desk (Unmap part.block)) ws answer f (λ n. n) in
        ap (λ (v : OBlock). s.shared.mapping v.0) f.block_is ∙ leaving f.c.0 f.next f.order (its (Desk (Unmap part.block)) f (λ n. n)) (subst (λ (m : Migration). IsOrderFor m block f.next f.order) demotes f.of) (λ n. stands_there s.shared.mapping f.c.0 f.order migration block f.next own_away f.of same refl n)

    -- the block is nowhere, its cache block quarantined, and the order is over
    pub unmapped : f.next ≡ None → LeavesFrom now.orders s.shared.mapping block → EndsOrder (Unmaps part.block.0 f.c.0 None) f.c.0 a s now x left_over f.order
    unmapped none leaving = subst (λ (next : Option ℕ). EndsOrder (Unmaps part.block.0 f.c.0 next) f.c.0 a s now x left_over f.order) none
        (ends_order (Desk (Unmap part.block)) f (λ n. n) (Unmaps part.block.0 f.c.0 f.next) (DoneThere ∷ []) t_away z_away goes_away
        (record { fail = g.words_agree.fail; seals = g.words_agree.seals }) refl refl refl refl (refl, refl, refl) (refl, refl, refl, refl, refl) (refl, refl) (λ d o n e. unmap_elsewhere s.shared.mapping part.block.0 f.c.0 d o n (stood_away leaving))
        (at_away None (ap (following f.c.0) none)) f.paired.0 on_away)

    -- or another block is to follow it under that order
    abbrev left_waiting : Actor
    left_waiting = record x { task = Some (Migrate migration block, left); orders = dropped part.block x.orders; awaiting = replacing part.block x.orders ++ x.awaiting }

    pub turned_over : (new : OBlock) (k : CBlock) → f.order ≡ Replace block new k → f.next ≡ Some new.0 → LeavesFrom now.orders s.shared.mapping block → TurnsOrder f.c.0 a s now x left_waiting block
    turned_over new k is some leaving =
        let own' : AbstractOrder = record { block = new.0; cache = f.c.0; next = None } in
        let follows_is : following f.c.0 f.next ≡ Some own' = ap (following f.c.0) some in
        let carried = carried_again now.size now.orders now.orders migration block part (Desk (Unmap part.block) ∷ ws) ws answer answer x left_waiting y z_away f (Some own') (inr f.paired.0) (at_away (Some own') follows_is) on_away in
        let on_it = subst (λ (v : AbstractActor). IsCarried now.size now.orders migration block part ws answer left_waiting v) (sym goes_away.is) carried in
        let slot = its (Desk (Unmap part.block)) f (λ n. n) in
        let had = mine (Desk (Unmap part.block)) f (λ n. n) in
        let lives_now : live_there t_away.mapping f.c.0 (Some f.order) ≡ Some own' = ap (λ (o : Order). live_there t_away.mapping f.c.0 (Some o)) is ∙ ap (λ (l : Option ℕ). Some (replacement_there (is_at l f.c.0) block.0 new.0 f.c.0)) (ap (λ (v : OBlock). t_away.mapping v.0) (sym f.block_is) ∙ changed_same s.shared.mapping part.block.0 None) in
        record {
          new = new;
          k = k;
          live = slot ∙ ap (λ (o : Order). Some (Some o)) is;
          mine = subst (λ (o : Order). Contains x.orders o) is had;
          stood = ap (λ (v : OBlock). s.shared.mapping v.0) (sym f.block_is) ∙ stood_away leaving;
          follows = subst (λ (v : ℕ). Carried (Unmaps v f.c.0 (Some new.0)) a s now left_waiting) (ap (λ (v : OBlock). v.0) f.block_is) (subst (λ (next : Option ℕ). Carried (Unmaps part.block.0 f.c.0 next) a s now left_waiting) some
              (carry_over now now.words (λ e. e) now.devices a x left_waiting s y g ex ey migration block part left refl refl (carried_job now.size now.orders migration block part (Desk (Unmap part.block) ∷ ws) answer x y f) (DoneThere ∷ []) t_away goes_away.may goes_away.shared
              (record { fail = g.words_agree.fail; seals = g.words_agree.seals }) g.origin g.cache (Unmaps part.block.0 f.c.0 f.next) now.orders on_it refl refl (refl, refl, refl) (refl, refl, refl, refl, refl) (refl, refl)
              (turns_so now.size now.words now.orders now.actors a x left_waiting s y (gone y y.task (DoneThere ∷ [])) ex ey g.orders_agree (is_done now.size now.orders migration block part left left_waiting (gone y y.task (DoneThere ∷ [])) on_it now.words refl refl)
              own_away own' (y_under (Desk (Unmap part.block)) f (λ n. n)) (ap (λ (v : AbstractActor). v.order) goes_away.is ∙ follows_is) refl t_away f.order slot lives_now (subst (λ (o : Order). Contains (held left_waiting) o) (sym is) (still_held part.block x.orders x.awaiting (Replace block new k) (ap (λ (v : OBlock). is_of v (Replace block new k)) f.block_is ∙ ap (λ (v : Bool). v || is_of block (DemoteOrder new)) (eq-eqb block.0 block.0 refl)) refl (Contains-append_left x.orders x.awaiting (Replace block new k) (subst (λ (o : Order). Contains x.orders o) is had))))
              (λ d o n e. unmap_elsewhere s.shared.mapping part.block.0 f.c.0 d o n (stood_away leaving)))));
        }

  -- the order is given up, and it has only to answer
  module _ (f : IsCarried now.size now.orders migration block part (Desk (ReleaseOrder part.block) ∷ ws) answer x y) (suits : Suits blocks (plan_of (Migrating migration part) (Desk (ReleaseOrder part.block) ∷ ws) answer) x.card) where
    abbrev own_here : AbstractOrder
    own_here = order_on part f.c f.next

    pub given_up : EndsOrder (GivesUp f.c.0) f.c.0 a s now x left_over f.order
    given_up =
        let t = effect s.shared (job_under own_here os migration) f.at.buffer (Give_up own_here) DoneThere in
        let z = without_block (under None (migrating now.size own_here os migration ws f.at.answer f.at.buffer)) in
        let is = y_has now a x s y g ex ey migration block part (Desk (ReleaseOrder part.block)) ws answer f (λ n. n) Nothing (ap held_of suits.1.0) in
        let goes = subst (λ (v : AbstractActor). GoesTo s.actors a s.shared v (DoneThere ∷ []) t z) (sym is) (carrying_followed.gives_up now.size s.actors a s.shared own_here os migration part.block ws f.at.answer f.at.buffer) in
        let nothing : ws ≡ [] = suits.1.2 in
        ends_order (Desk (ReleaseOrder part.block)) f (λ n. n) (GivesUp f.c.0) (DoneThere ∷ []) t z goes
        (record { fail = g.words_agree.fail; seals = g.words_agree.seals }) refl refl refl refl (refl, refl, refl) (refl, refl, refl, refl, refl) (refl, refl) (λ d o n e. refl)
        (at_again now a x s y g ex ey migration block part (Desk (ReleaseOrder part.block)) ws answer f z ws f.at.answer f.at.buffer None answer
        (λ i. record z { held = sym (ap (λ (us : List Want). held_for us x.card) nothing ∙ ap held_of suits.1.0) i }) f.at.alike (subst (λ (us : List Want). SawSeal left us x.card) (sym nothing) tt))
        (subst (λ (us : List Want). IsTail us) (sym nothing) tt) (record { of_block = f.of_block; paired = f.paired.1; read = no_write_read now.size ws x.buffer _ f.paired.0 })
