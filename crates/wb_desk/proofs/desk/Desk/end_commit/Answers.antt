use Rattle.std.proofs.Common.{◌≡◌, Bool, true, if◌then◌else◌, ap, subst, sym}
use Rattle.wb_tree.specs.Mapping.{IsPlaceOf}
use Rattle.wb_space.specs.Places.{HaveLeft}
use Rattle.wb_desk.specs.Desks.{DeskState}
use Rattle.wb_desk.specs.Commits.{commit_ended}
use Rattle.wb_desk.proofs.Committing.{ended_kept, length_flags}
use Rattle.wb_desk.proofs.desk.Desk.end_commit.Goals as goal

pub invariant_of-self : goal.invariant_of-self
invariant_of-self g c =
    let runs = subst (λ (d : DeskState _). d.space.committing ≡ true) (sym c.self.view_is) c.requires in
    rw (c.end.ensures, c.next-self-inside.ensures, c.next-self-inside-2.ensures, length_flags _ _ _ c.self.invariant.desk.places.committed) (record {
      desk = ended_kept g.P.Policy.knows _ c.self.invariant.desk runs;
      sound = c.self.invariant.sound;
      index = c.self.invariant.index;
      have_left = subst (λ (b : Bool). HaveLeft (IsPlaceOf c.self.inside.tree) (if b then c.self.inside.space.places.running else c.self.inside.space.places.committed) c.self.inside.left) runs c.self.invariant.have_left;
      count = c.self.invariant.count;
    })

pub returns : goal.returns
returns g c = rw (c.end.ensures, c.next-self-inside.ensures, c.next-self-inside-2.ensures, length_flags _ _ _ c.self.invariant.desk.places.committed) (ap (λ (d : DeskState _). commit_ended d) c.self.view_is)
