use Rattle.std.proofs.Common.{◌≡◌, ◌≤◌, ◌∙◌, true, is_some, refl, sym, subst, arith}
use Rattle.wb_types.specs.Limits.{node_count}
use Rattle.wb_desk.specs.Desks.{DeskState}
use Rattle.wb_desk.proofs.Committing.{HaveBegun, begun_as, begun_parts, enough_for, facts_begun, free_for, has_begun, have_begun, left_size, places_counted, still_some}
use Rattle.wb_desk.proofs.desk.Desk.begin_commit.Given.{Over}
use Rattle.wb_desk.proofs.desk.Desk.begin_commit.Goals as goal
use Rattle.wb_desk.proofs.desk.Desk.begin_commit.Goals.{Joined-used}
use Rattle.wb_desk.specs.declared.desk.Desk.TheView.{view}

pub plan-requires-clause-free : goal.plan-requires-clause-free
plan-requires-clause-free g c =
    let idle = sym c.is_committing.ensures ∙ c.if-is_committing.false in
    free_for g.P.Policy.knows _ (is_some c.args.clean) c.self.invariant.desk idle
    (λ some. subst (λ (d : DeskState _). d.nodes ≤ node_count d.geometry.cache_blocks) (sym c.self.view_is) (c.if-not-has_places.ensures (c.is_some.ensures ∙ some)))

pub plan-requires-clause-enough : goal.plan-requires-clause-enough
plan-requires-clause-enough g c =
    let idle = sym c.is_committing.ensures ∙ c.if-is_committing.false in
    enough_for g.P.Policy.knows _ (is_some c.args.clean) c.self.invariant.desk idle
    (λ some. subst (λ (d : DeskState _). d.nodes ≤ node_count d.geometry.cache_blocks) (sym c.self.view_is) (c.if-not-has_places.ensures (c.is_some.ensures ∙ some)))

pub begin_space-requires-clause-size : goal.begin_space-requires-clause-size
begin_space-requires-clause-size g c = left_size c.self.inside.tree c.self.inside.space c.self.inside.left (sym c.is_committing.ensures ∙ c.if-is_committing.false) c.self.invariant.have_left

pub count_used-self-inside-requires : goal.count_used-self-inside-requires
count_used-self-inside-requires g c =
    let idle = sym c.is_committing.ensures ∙ c.if-is_committing.false in
    places_counted g.P.Policy.knows _ c.plan.new.tree c.in_ok-image.image c.in_ok-image.used c.self.invariant.desk
    (facts_begun g.P.Policy.knows (λ dirty. dirty.now) _ _ c.args.clean c.plan.new.tree c.in-Some.generation c.in_ok-image.image c.self.invariant.desk idle (omega arith)
    (λ some. subst (λ (d : DeskState _). d.nodes ≤ node_count d.geometry.cache_blocks) (sym c.self.view_is) (c.if-not-has_places.ensures (c.is_some.ensures ∙ some))) c.in_ok-image.ensures.image)
    c.in_ok-image.ensures.used

-- what is kept of the places once the commit has begun
have : (g : Over) (c : Joined-used g) → HaveBegun g.P.Policy.knows (view g.row.P.Denot g.P.Policy c.self.inside) c.plan.new.tree c.in_ok-image.image c.begin_space.new.space c.begin_space.new.left c.count_used-self-inside.result
have g c = have_begun g.P.Policy.knows _ c.plan.new.tree _ c.in_ok-image.image c.self.inside.left c.begin_space.new.left _ _ c.in_ok-image.used c.begin_space.new.space c.count_used-self-inside.result
    c.self.invariant.desk (sym c.is_committing.ensures ∙ c.if-is_committing.false) c.self.invariant.have_left c.in_ok-image.ensures.image
    (c.in_ok-image.ensures.marked ∙ still_some (λ dirty. dirty.now) c.args.clean) c.in_ok-image.ensures.used
    c.begin_space.ensures.listed (rw (← c.deref.ensures.value) c.begin_space.ensures.changed) c.begin_space.ensures.left (rw (← c.deref.ensures.value) c.begin_space.ensures.bits)
    c.count_used-self-inside.ensures.listed c.count_used-self-inside.ensures.known

pub invariant_of-self-2 : goal.invariant_of-self-2
invariant_of-self-2 g c =
    let idle = sym c.is_committing.ensures ∙ c.if-is_committing.false in
    let few : is_some c.args.clean ≡ true → c.self.inside.nodes ≤ node_count c.self.inside.geometry.cache_blocks =
    λ some. subst (λ (d : DeskState _). d.nodes ≤ node_count d.geometry.cache_blocks) (sym c.self.view_is) (c.if-not-has_places.ensures (c.is_some.ensures ∙ some)) in
    let have = have g c in
    rw (have.space, have.coming, have.left) (begun_parts g.P.Policy.knows _ c.plan.new.tree c.in_ok-image.image c.self.inside.cached.items c.self.inside.left c.self.inside.mapped
    c.self.invariant (record { idle = idle; next = omega arith })
    (facts_begun g.P.Policy.knows (λ dirty. dirty.now) _ _ c.args.clean c.plan.new.tree c.in-Some.generation c.in_ok-image.image c.self.invariant.desk idle (omega arith) few c.in_ok-image.ensures.image)
    c.in_ok-image.ensures.mapping c.in_ok-image.ensures.sound c.in_ok-image.ensures.inside)

pub returns-clause-begun : goal.returns-clause-begun
returns-clause-begun g c =
    let idle = sym c.is_committing.ensures ∙ c.if-is_committing.false in
    let few : is_some c.args.clean ≡ true → c.self.inside.nodes ≤ node_count c.self.inside.geometry.cache_blocks =
    λ some. subst (λ (d : DeskState _). d.nodes ≤ node_count d.geometry.cache_blocks) (sym c.self.view_is) (c.if-not-has_places.ensures (c.is_some.ensures ∙ some)) in
    let have = have g c in
    begun_as g.P.Policy.knows g.P.Policy.hint_of _ _ _ _ c.in_ok-image.image c.plan.new.tree c.self.view_is (rw (have.space, have.coming) refl)
    (has_begun g.P.Policy.knows (λ dirty. dirty.now) _ g.P.Policy.hint_of c.args.clean c.plan.new.tree c.in-Some.generation c.in_ok-image.image c.self.invariant.desk (record { idle = idle; next = omega arith }) (omega arith) few
    c.image_law.ensures.places c.in_ok-image.ensures.image c.in_ok-image.ensures.mapping c.in_ok-image.ensures.sound c.in_ok-image.ensures.inside)
