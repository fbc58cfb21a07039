use Rattle.std.proofs.Common.{◌+◌, ◌∙◌, ap, subst, List, Option, count_by, is_some, length}
use Rattle.wb_types.specs.declared.number.Place.{Place}
use Rattle.wb_tree.specs.Mapping.{Mapping, IsSound}
use Rattle.wb_tree.specs.Branches.{forget}
use Rattle.wb_tree.specs.Fields.{AreApart}
use Rattle.wb_tree.proofs.Nodes.Above.{counted-above}
use Rattle.wb_tree.proofs.tree.Tree.known_above.Goals as goal

pub returns : goal.returns
returns g c = record {
  forgotten =
      let m = c.args.self.now in
      let sound : IsSound m = subst IsSound c.self.view_is c.self.invariant.boxes.sound in
      let once : AreApart m.known = subst (λ (n : Mapping). AreApart n.known) c.self.view_is c.self.invariant.boxes.once in
      ap (λ n. length (forget c.args.c.0 m.known) + n) (c.count_known.ensures ∙ ap (λ (ps : List (Option Place)). count_by is_some ps) c.places_above-places.ensures)
      ∙ counted-above m c.args.c.0 sound once;
}
