-- A run begins as the abstract world does once it has crashed: no target stands, and every sector is as formatting leaves it.
use Rattle.std.proofs.Common.{arith, ◌≡◌, ◌∙◌, ◌+◌, ◌*◌, ℕ, zero, suc, Bool, true, false, cond, nat_lt, unwrap_or, List, [], Option, Some, None, refl, sym, ap, subst, length, replicate, slice_get}
use Rattle.std.proofs.lemmas.List.{length-replicate}
use Rattle.wb_types.proofs.Lists.{Contains-first}
use Rattle.wb_disk.specs.Device.{History, only}
use Rattle.wb_meta.specs.Formats.{IsFormatted}
use Rattle.wb_promise.specs.States.{Shape, Actor, start, resting, sector_count, cache_sector_count}
use Rattle.wb_promise.specs.Clerk.{Doing, formatted}
use Rattle.wb_promise.specs.Headline.{cached_from}
use Rattle.wb_contents.proofs.Lists.{replicated}
use Rattle.wb_runs.proofs.Images.{Images}
use Rattle.wb_runs.proofs.Formatted.{formatted_none, none_images, none_readable}
use Rattle.wb_runs.proofs.Using.{used_start}
use Rattle.wb_runs.proofs.LinkedRuns.{links_start}
use Rattle.wb_runs.proofs.InsideRuns.{PlanInside}
use Rattle.wb_link.specs.Tables.{Script}
use Rattle.wb_link.specs.World.{AbstractActor, abstract_resting as idle}
use Rattle.wb_link.specs.Clerk.{abstract_opened}
use Rattle.wb_link.specs.Openings.{Site, Stopping, Stopped, site, after_event}
use Rattle.wb_simulation.specs.Noting.{counts_by_block, IsNotedSo}
use Rattle.wb_simulation.specs.Worlds.{zeros}
use Rattle.wb_simulation.proofs.Possible.{empty_device}
use Rattle.wb_headline.proofs.Events.{start_reached, event_reaches}
use Rattle.wb_headline.proofs.Following.{many, size}
use Rattle.wb_headline.proofs.Keeping.{HasNone}
use Rattle.wb_headline.proofs.Whole.{Whole}

-- a tree without entries has no block
nowhere : (count block c : ℕ) → cached_from block c (replicate count None) ≡ None
nowhere zero block c = refl
nowhere (suc count) block c = nowhere count block (suc c)

-- nothing is counted of any sector
nothing_counted : (sectors count b o : ℕ) → ◌≡◌ {A = ℕ} 0 (counts_by_block sectors (replicate count 0) b o)
nothing_counted sectors count b o = by (nat_lt o sectors)
  where
    none_at : (n k : ℕ) → ◌≡◌ {A = ℕ} 0 (unwrap_or (slice_get (replicate n 0) k) 0)
    none_at zero k = refl
    none_at (suc n) zero = refl
    none_at (suc n) (suc k) = none_at n k

    by : (t : Bool) → ◌≡◌ {A = ℕ} 0 (cond t (unwrap_or (slice_get (replicate count 0) (b * sectors + o)) 0) 0)
    by true = none_at count (b * sectors + o)
    by false = refl

module _ (P A : Type 0) (shape : Shape) (metadata : List History) (f : IsFormatted shape.geometry metadata) (sized : length metadata ≡ shape.geometry.meta_sectors) where
  abbrev first : Site
  first = site (many P A shape) zeros

  -- a crash of devices that hold one content each
  abbrev crash : Stopping
  crash = record { origin = λ b o. zeros; cache = λ b o. zeros; new_root = false }

  abbrev begun : Site
  begun = after_event first (Stopped crash)

  idle_there : (a : ℕ) (y : AbstractActor) → slice_get begun.world.actors a ≡ Some y → y.task ≡ None
  idle_there a y e = ap (λ (v : AbstractActor). v.task) (sym (replicated (length first.world.actors) a idle y e))

  images : Images
  images = none_images shape.geometry metadata (formatted_none shape.geometry metadata f)

  pub whole_start : Whole P A shape (start shape metadata) (formatted shape)
  whole_start = record {
    goes = record {
      images = none_images shape.geometry metadata (formatted_none shape.geometry metadata f);
      known = none_readable shape.geometry metadata (formatted_none shape.geometry metadata f) sized;
      followed = record {
        site = begun;
        notes = abstract_opened (λ b o. zeros);
        reached = event_reaches (size P A shape) (many P A shape) first (abstract_opened (λ b o. zeros)) (Stopped crash) (start_reached (size P A shape) (many P A shape))
            (record { root = λ e. absurd (cc); origin = λ b o. Contains-first zeros []; cache = λ k o. Contains-first zeros [] });
        as_many = length-replicate (length first.world.actors) idle ∙ length-replicate (many P A shape) idle;
        notes_agree = record {
          histories = empty_device zeros (size P A shape) (sector_count shape);
          finished = λ i b o. nothing_counted (size P A shape) (sector_count shape) b o i;
          floors = λ i b o. nothing_counted (size P A shape) (sector_count shape) b o i;
          as_many = length-replicate (sector_count shape) 0 ∙ sym (length-replicate (sector_count shape) (only zeros));
          floors_as_many = length-replicate (sector_count shape) 0 ∙ sym (length-replicate (sector_count shape) (only zeros));
          each = λ a y less e. subst (λ (t : Option Script). IsNotedSo (size P A shape) (length (formatted shape).histories) t (slice_get (formatted shape).doings a) a (abstract_opened (λ b o. zeros))) (sym (idle_there a y e)) tt;
        };
        sized = record { actors_many = length-replicate shape.actors resting; doings_many = length-replicate shape.actors None; sectors = length-replicate (sector_count shape) (only zeros) };
        phase = record {
          later = None;
          devices_follow = record {
            agree = record {
              origin = empty_device zeros (size P A shape) (sector_count shape);
              cache = empty_device zeros (size P A shape) (cache_sector_count shape);
              images = record {
                read = (none_readable shape.geometry metadata (formatted_none shape.geometry metadata f) sized).read;
                committed_is = λ i block. sym (nowhere f.root.geometry.cache_blocks block 0) i;
                clean_is = λ block cache e. absurd (let bad : None ≡ Some cache = sym (nowhere f.root.geometry.cache_blocks block 0) ∙ e in cc);
                later_is = tt;
              };
            };
            down = λ e. absurd (cc);
            idle = idle_there;
          };
        };
      };
    };
    used = used_start P A shape metadata;
    linked = links_start P A shape metadata;
    inside = record {
      cache = length-replicate (cache_sector_count shape) _;
      origin = length-replicate (sector_count shape) _;
      seals = tt;
      tasks = λ a x e. subst (λ (v : Actor). PlanInside shape v.task) (replicated shape.actors a resting x e) tt;
    };
    noted_so = λ a d e. absurd (let same : ◌≡◌ {A = Option Doing} None (Some d) = replicated shape.actors a None (Some d) e in cc);
    keeping = λ a x e. subst (λ (v : Actor). HasNone v) (replicated shape.actors a resting x e) (λ order h. absurd (omega (arith, h.1)));
  }
