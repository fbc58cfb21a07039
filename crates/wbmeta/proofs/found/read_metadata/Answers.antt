use Rattle.std.proofs.Common.{List, map, refl, rules, subst, sym}
use Rattle.wb_disk.specs.Device.{History, newest}
use Rattle.wb_meta.specs.States.{RepresentsState}
use Rattle.wb_meta.specs.Sizes.{AreSameSizes}
use Rattle.wbmeta.proofs.found.read_metadata.Goals as goal

pub returns-clause-found : goal.returns-clause-found
returns-clause-found g c tells =
    let state = c.in_ok-state.state in
    let sizes : AreSameSizes state.root.geometry c.args.geometry.now = search rules in
    record {
      root = state.root;
      tree = state.tree;
      dirty = state.dirty;
      used = state.used.items;
      represents = subst (λ (contents : List History). RepresentsState (map newest contents) state.root state.tree state.dirty state.used.items) (c.in_ok-known.ensures.same tells) (c.in_ok-state.ensures.read tells);
      sizes = sizes;
      generation_is = refl;
      clean_is = refl;
      entries_are = sym c.in_ok-entries.ensures;
    }
