use Rattle.std.proofs.Common.{◌≡◌, ◌≤◌, ◌+◌, ◌*◌, ◌∙◌, None, Some, sym, subst}
use Rattle.std.specs.declared.alloc.Global.{Global}
use Rattle.wb_types.specs.Limits.{node_count}
use Rattle.wb_types.specs.declared.refusal.Refusal.TheVariants.{Memory}
use Rattle.wb_meta.specs.declared.read_steps.ReadSteps.{ReadSteps}
use Rattle.wb_tasks.specs.declared.step.Got.TheVariants.{Refused}
use Rattle.wb_machine.specs.Making.{reading_of}
use Rattle.wb_devices.specs.Clean.{DidTell}
use Rattle.wb_machine.specs.declared.machine.TheConstants.{ACTORS}
use Rattle.wb_machine.proofs.Standing.{UnderWay, all_made, all_told, had_room, none_made, under_way, wants_memory}
use Rattle.wb_machine.proofs.opener.Opener.tell.Goals as goal
use Rattle.wb_machine.proofs.opener.Opener.tell.Goals.{After-read-got}

-- the reading, which goes on
under : (c : After-read-got) → UnderWay c.args.geometry.now c.args.left c.args.self.now.opening.reading c.args.self.now.opening.commit
under c = under_way c.args.geometry.now c.args.left c.args.self.now.opening.reading c.args.self.now.opening.commit c.requires.reads.reads

room : (c : After-read-got) → 2 + 2 * node_count c.args.geometry.now.cache_blocks ≤ c.args.geometry.now.meta_sectors
room c = had_room c.args.geometry.now _ c.node_count-two_slots.ensures.value c.node_count-two_slots.ensures.two_images_fit

-- what it was told
told : (c : After-read-got) (was : ReadSteps Global) → c.args.self.now.opening.reading ≡ Some was →
    DidTell c.args.self.now.asked.mode c.args.self.now.opening.geometry c.args.geometry.now.meta_sectors c.args.left was c.args.metadata.now.contents c.args.self.now.opening.commit c.read-got.result c.read-got.new.self.reading c.read-got.new.self.commit
told c was is = subst (λ n. DidTell c.args.self.now.asked.mode c.args.self.now.opening.geometry n c.args.left was c.args.metadata.now.contents c.args.self.now.opening.commit c.read-got.result c.read-got.new.self.reading c.read-got.new.self.commit) c.requires.reads.size (c.read-got.ensures.told was tt (λ may. may.1) is)

told_alone : (c : After-read-got) → DidTell c.args.self.now.asked.mode c.args.self.now.opening.geometry c.args.geometry.now.meta_sectors c.args.left (under c).was c.args.metadata.now.contents None c.read-got.result c.read-got.new.self.reading c.read-got.new.self.commit
told_alone c = subst (λ x. DidTell c.args.self.now.asked.mode c.args.self.now.opening.geometry c.args.geometry.now.meta_sectors c.args.left (under c).was c.args.metadata.now.contents x c.read-got.result c.read-got.new.self.reading c.read-got.new.self.commit) (under c).commit_is (told c (under c).was (under c).is)

pub prepare-requires-clause-all : goal.prepare-requires-clause-all
prepare-requires-clause-all c =
    let self = c.args.self.now in
    let s = (goal.at.prepare-requires-clause-all c).After-read-got in
    let u = under s in
    all_told self.asked.mode c.args.geometry.now self.asked.second self.opening.geometry c.args.left u.was c.args.metadata.now.contents c.read-got.result c.read-got.new.self.reading c.read-got.new.self.commit c.requires.reads.asks (room s) c.requires.reads.size u.not_done u.left_is (c.requires.reads.finds u.was u.is) (told_alone s) (sym c.ends_reading.ensures ∙ c.if-not-ends_reading.false)

pub returns-in-Ok-clause-did : goal.returns-in-Ok-clause-did
returns-in-Ok-clause-did c was present = rw (c.in-Ok.ensures.reading, c.in-Ok.ensures.commit) (told (goal.at.returns-in-Ok-clause-did c).After-read-got was present)

pub returns-in-Ok-clause-made : goal.returns-in-Ok-clause-made
returns-in-Ok-clause-made c = all_made ACTORS c.args.self.now.asked c.read-got.result _ (sym c.ends_reading.ensures ∙ c.if-not-ends_reading.false) c.in-Ok.ensures.made

pub returns-in-Err-clause-did : goal.returns-in-Err-clause-did
returns-in-Err-clause-did c was present =
    let self = c.args.self.now in
    let g = c.args.geometry.now in
    let device = c.args.metadata.now.contents in
    let asked = self.opening.geometry in
    let at = (goal.at.returns-in-Err-clause-did c).After-read-got in
    let u = under at in
    let same : u.was ≡ was = let e = sym u.is ∙ present in cc in
    let refused = wants_memory self.asked.mode g self.asked.second asked c.args.left u.was device c.read-got.result c.read-got.new.self.reading c.read-got.new.self.commit c.requires.reads.asks (room at) c.requires.reads.size u.not_done u.left_is (c.requires.reads.finds u.was u.is) (told_alone at) (sym c.ends_reading.ensures ∙ c.if-not-ends_reading.false) in
    let final = c.prepare.new.self in
    let of_was = subst (λ w. DidTell self.asked.mode asked g.meta_sectors c.args.left w device None (Refused Memory) None None) same refused in
    let beside = subst (λ k. DidTell self.asked.mode asked g.meta_sectors c.args.left was device k (Refused Memory) None None) (sym u.commit_is) of_was in
    let named = subst (λ r. DidTell self.asked.mode asked g.meta_sectors c.args.left was device self.opening.commit (Refused r) None None) (sym c.in-Err.ensures.refused) beside in
    let over = subst (λ r. DidTell self.asked.mode asked g.meta_sectors c.args.left was device self.opening.commit (Refused c.in-Err.refusal) r None) (sym c.in-Err.ensures.over.0) named in
    subst (λ k. DidTell self.asked.mode asked g.meta_sectors c.args.left was device self.opening.commit (Refused c.in-Err.refusal) (reading_of final) k) (sym c.in-Err.ensures.over.1) over

pub returns-then-not-ends_reading-clause-did : goal.returns-then-not-ends_reading-clause-did
returns-then-not-ends_reading-clause-did c was present = rw c.requires.reads.none (told (goal.at.returns-then-not-ends_reading-clause-did c).After-read-got was present)

pub returns-then-not-ends_reading-clause-made : goal.returns-then-not-ends_reading-clause-made
returns-then-not-ends_reading-clause-made c = none_made ACTORS c.args.self.now.asked c.read-got.result _ (sym c.ends_reading.ensures ∙ c.if-not-ends_reading.true) c.requires.reads.none
