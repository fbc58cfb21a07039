-- When a cache is left as it should be.
use Rattle.std.proofs.Common.{◌≡◌, ◌∙◌, ℕ, Bool, true, List, Option, sym, subst}
use Rattle.wb_types.specs.declared.entry.Entry.{Entry}
use Rattle.wb_types.specs.declared.geometry.Geometry.{Geometry}
use Rattle.wb_disk.specs.Device.{Content}
use Rattle.wbmeta.specs.declared.ending.Aim.{Aim}
use Rattle.wbmeta.specs.declared.found.Counted.{Counted}
use Rattle.wbmeta.specs.Counted.{AreCounted, IsFound}
use Rattle.wbmeta.specs.Ending.{IsLeftAs, IsReached}

-- what was found and counted so is left so
pub left_as : (aim : Aim) (sectors : List Content) (geometry : Geometry) (generation : ℕ) (clean : Bool) (entries : List (Option Entry)) (counted : Counted)
    → IsFound sectors geometry generation clean entries → AreCounted clean entries counted.mapped counted.dirty → counted.clean ≡ clean → IsReached aim counted
    → IsLeftAs aim sectors geometry
left_as aim sectors geometry generation clean entries counted found count same reached =
    let is_clean : clean ≡ true = sym same ∙ reached.clean in
    let counts : AreCounted true entries counted.mapped counted.dirty = subst (λ (c : Bool). AreCounted c entries counted.mapped counted.dirty) is_clean count in
    record {
      generation = generation;
      entries = entries;
      found = subst (λ (c : Bool). IsFound sectors geometry generation c entries) is_clean found;
      home = sym counts.dirty_is ∙ reached.home;
      empty = λ aimed. sym counts.mapped_is ∙ reached.empty aimed;
    }
