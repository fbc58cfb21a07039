use Rattle.std.proofs.Common.{◌≡◌, ◌∙◌, sym, ap, subst, refl, Ok, List, map}
use Rattle.wb_format.specs.declared.root.Root.{Root}
use Rattle.wb_tree.specs.Loading.{FailsBy}
use Rattle.wb_tree.specs.Loaded.{IsMappingOf, IsLoaded}
use Rattle.wb_tree.specs.Reading.{Found, ReadOutcome}
use Rattle.wb_tree.specs.declared.placed.PlacedNode.{PlacedNode}
use Rattle.wb_dirty.specs.Reading.{Asked, dirty_read}
use Rattle.wb_dirty.specs.ImageLoading.{found_in}
use Rattle.wb_dirty.proofs.Images.{found-ahead, bits-begun, image-behind, front-begun, reached_alone, ends_fail}
use Rattle.wb_dirty.proofs.image_steps.go_on.Goals as goal

pub returns-in-Ok-clause-part : goal.returns-in-Ok-clause-part
returns-in-Ok-clause-part g c =
    let tree = c.in_ok-tree.tree in
    let nodes = c.args.nodes.items in
    let begun = bits-begun c.args.root.now c.args.loader nodes tree c.in-Ok.loader.marks.reached c.requires c.in_ok-tree.ensures.read c.in_ok-tree.ensures.entries (c.in-Ok.ensures.reached ∙ (c.deref.ensures.value ∙ c.in_ok-tree.ensures.places)) in
    record {
      named = c.requires.named;
      mapping = subst (λ (r : Root). IsMappingOf r tree) c.requires.root_is c.in_ok-tree.ensures.mapping;
      loaded = subst (λ (f : Found). IsLoaded c.args.root.now f tree) begun.found (subst (λ (r : Root). IsLoaded r c.args.loader.found tree) c.requires.root_is c.in_ok-tree.ensures.known);
      root_is = ap (λ (a : Asked). a.root) c.in-Ok.ensures.asked;
      front = front-begun nodes c.in-Ok.loader.marks.reached begun.places;
    }

pub returns-in-Ok-clause-goes_on : goal.returns-in-Ok-clause-goes_on
returns-in-Ok-clause-goes_on g c others =
    let tree = c.in_ok-tree.tree in
    let nodes = c.args.nodes.items in
    image-behind c.args.root.now c.args.loader nodes tree c.in_ok-mapped.mapped c.deref.result.now others _ c.requires.named
    (found-ahead c.args.root.now c.args.loader nodes tree c.requires c.in_ok-tree.ensures.read c.in_ok-tree.ensures.entries) (c.in_ok-tree.ensures.read others) c.in_ok-mapped.ensures.mapped
    (c.deref.ensures.value ∙ c.in_ok-tree.ensures.places) (c.in-Ok.ensures.begun others)

pub returns-in-Ok-clause-mapping : goal.returns-in-Ok-clause-mapping
returns-in-Ok-clause-mapping g c others =
    sym (c.in_ok-tree.ensures.read others ∙ ap Ok (found-ahead c.args.root.now c.args.loader c.args.nodes.items c.in_ok-tree.tree c.requires c.in_ok-tree.ensures.read c.in_ok-tree.ensures.entries))

pub returns-in-Ok-clause-reached : goal.returns-in-Ok-clause-reached
returns-in-Ok-clause-reached g c =
    let tree = c.in_ok-tree.tree in
    let nodes = c.args.nodes.items in
    let begun = bits-begun c.args.root.now c.args.loader nodes tree c.in-Ok.loader.marks.reached c.requires c.in_ok-tree.ensures.read c.in_ok-tree.ensures.entries (c.in-Ok.ensures.reached ∙ (c.deref.ensures.value ∙ c.in_ok-tree.ensures.places)) in
    reached_alone nodes c.in-Ok.loader.marks.reached begun.places ∙ ap (λ (f : Found). f.reached) (sym begun.found)

pub returns-in-Err-clause-err : goal.returns-in-Err-clause-err
returns-in-Err-clause-err g c others =
    let tree = c.in_ok-tree.tree in
    let nodes = c.args.nodes.items in
    let same : c.args.loader.found ≡ found_in c.args.root.now nodes tree = found-ahead c.args.root.now c.args.loader nodes tree c.requires c.in_ok-tree.ensures.read c.in_ok-tree.ensures.entries in
    let reading = dirty_read (record { root = c.args.root.now; mapped = c.in_ok-mapped.mapped }) others c.deref.result.now in
    subst (λ (r : ReadOutcome). FailsBy c.in-Err.refusal r)
    (image-behind c.args.root.now c.args.loader nodes tree c.in_ok-mapped.mapped c.deref.result.now others reading c.requires.named same (c.in_ok-tree.ensures.read others) c.in_ok-mapped.ensures.mapped (c.deref.ensures.value ∙ c.in_ok-tree.ensures.places) refl)
    (ends_fail c.in-Err.refusal (found_in c.args.root.now nodes tree) reading (c.in-Err.ensures.err others))

pub returns-in-Err-clause-none : goal.returns-in-Err-clause-none
returns-in-Err-clause-none g c nothing =
    c.in-Err.ensures.memory (c.deref.ensures.value ∙ (c.in_ok-tree.ensures.places ∙ ap (λ (ns : List PlacedNode). map (λ (node : PlacedNode). node.place) ns) nothing))
