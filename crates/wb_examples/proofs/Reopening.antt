-- Power is lost once a root without a tree was made durable, and an opening in write-back shows the origin, since nothing is cached.
use Rattle.std.proofs.Common.{◌≡◌, ◌∙◌, ◌<◌, ◌≤◌, ◌+◌, ◌%◌, ◌^◌, inl, inr, ℕ, false, List, [], Option, Some, None, Ok, sym, ap, subst, arith, length, map, slice_get}
use Rattle.std.specs.Prelude.{option_map}
use Rattle.std.proofs.lemmas.Option.{slice_get-get_or, slice_get-map}
use Rattle.std.proofs.lemmas.List.{length-map}
use Rattle.std.proofs.lemmas.List.Elements.{All-nil}
use lib.ListN.{get_or}
use Rattle.std.proofs.Math.Nat.{mod-lt}
use Rattle.wb_types.specs.declared.entry.Entry.{Entry}
use Rattle.wb_types.specs.declared.geometry.Geometry.{Geometry}
use Rattle.wb_types.specs.declared.number.OBlock.{OBlock}
use Rattle.wb_types.specs.declared.mode.Mode.{Mode}
use Rattle.wb_types.specs.declared.mode.Mode.TheVariants.{Writeback}
use Rattle.wb_types.specs.declared.mode.Dev.{Dev}
use Rattle.wb_types.specs.declared.mode.Dev.TheVariants.{Metadata, Cache, Origin}
use Rattle.wb_disk.specs.Device.{Content as Bytes, History, Crashed, newest, only, synced, written}
use Rattle.wb_disk.specs.Crash.{Choice, Applies, crashed}
use Rattle.wb_disk.specs.Memory.{blank}
use Rattle.wb_disk.specs.declared.crash_choice.Base.{Base}
use Rattle.wb_disk.specs.declared.crash_choice.Base.TheVariants.{Durable, Newest}
use Rattle.wb_disk.proofs.Leaving.{newest-synced, read-left, crash-left, left-crashed}
use Rattle.wb_disk.proofs.Crashes.{Crashed-crashed_from}
use Rattle.wb_format.specs.declared.root.Root.{Root}
use Rattle.wb_format.specs.Layout.{SpellsRoot}
use Rattle.wb_format.proofs.Values.{one_root}
use Rattle.wb_meta.specs.Representing.{Represents, alone}
use Rattle.wb_meta.proofs.ImageFraming.{alone_read}
use Rattle.wb_meta.proofs.Histories.{newest-added}
use Rattle.wb_tree.specs.Reading.{IsNewestRoot, nothing_found, top_read, tree_read}
use Rattle.wb_desk.specs.Desks.{DeskState}
use Rattle.wb_devices.specs.declared.devices.Devices.{Devices}
use Rattle.wb_promise.specs.States.{Shape, State}
use Rattle.wb_promise.specs.Happenings.{MayStop}
use Rattle.wb_promise.specs.Effects.{all_resting}
use Rattle.wb_promise.specs.Headline.{shown, cached_from}
use Rattle.wb_examples.specs.Possible.{StandsNowhere}
use Rattle.wb_runs.proofs.Images.{Images}
use Rattle.wb_runs.proofs.Metadata.{Quiet, AtDesk}
use Rattle.wb_runs.proofs.Formatted.{HasNoTree}
use Rattle.wb_runs.proofs.Spelling.{spelling, spelled_root}
use Rattle.wb_examples.proofs.Shown.{written_same, origin_shown, nowhere}
use Rattle.wb_examples.proofs.Playing.{ends, resting_idle}
use Rattle.wb_examples.proofs.Opening.{write_back_starts, Down, down, opening, opened_is, target, bare}
use Rattle.wb_examples.proofs.Desks.{Setting, shape}

-- the root that was written last, if the newest root has its generation
pub root_there : (m : List History) (r q : Root) → 2 ≤ length m → r.generation < 2 ^ 64 → q.generation ≡ r.generation → IsNewestRoot (map newest (synced (written (synced m) (r.generation % 2) (spelling r)))) q → q ≡ r
root_there m r q some fits same n =
    let at = r.generation % 2 in
    let low : at < 2 = mod-lt r.generation (omega arith) in
    let size = length-map m (λ (h : History). only (newest h)) in
    let here = slice_get-get_or (synced m) at blank (omega (arith, low, some, size)) in
    let put = written_same (synced m) at _ (spelling r) here in
    let reads = slice_get-map newest (written (synced m) at (spelling r)) at in
    let slot : n.slot ≡ at = sym n.valid.parity ∙ ap (λ (k : ℕ). k % 2) same in
    let seen : Some n.sector ≡ Some (spelling r) = sym n.there ∙ ap (λ (k : ℕ). slice_get (map newest (synced (written (synced m) at (spelling r)))) k) slot ∙ ap (λ (ss : List Bytes). slice_get ss at) (newest-synced (written (synced m) at (spelling r))) ∙ reads ∙ ap (λ (o : Option History). option_map newest o) put ∙ ap (λ (c : Bytes). Some c) (newest-added (get_or (synced m) at blank) (spelling r)) in
    let is : n.sector ≡ spelling r = cc in
    one_root (spelling r) q r (subst (λ (s : Bytes). SpellsRoot s q) is n.valid.spelled) (spelled_root r fits)

-- metadata that stand quietly by a root without a tree, once a crash has left of them what it will
pub none_after : (P : Type 0) (g : Geometry) (i : Images) (desk : DeskState P) (m m' : List History) (q : Quiet g i desk m) → q.stored.root.top ≡ None → q.stored.root.top_dirty ≡ None → q.stored.root.geometry ≡ g → q.stored.root.generation + 2 < 2 ^ 64 → Crashed m m' → HasNoTree g m'
none_after P g i desk m m' q top no_bits geometry more crash = record {
  root = q.stored.root;
  geometry_is = geometry;
  top = top;
  no_bits = no_bits;
  more = more;
  represents = λ sectors left. subst (λ (ss : List Bytes). Represents ss q.stored.root (alone (nothing_found q.stored.root))) (sym (left-crashed m m' sectors crash left)) (nothing (map newest m') (q.stores.represents (map newest m') (crash-left m m' crash)).newest);
}
  where
    nothing : (sectors : List Bytes) → IsNewestRoot sectors q.stored.root → Represents sectors q.stored.root (alone (nothing_found q.stored.root))
    nothing sectors n =
        let read : tree_read q.stored.root (λ place. None) ≡ Ok (nothing_found q.stored.root) = ap (λ t. top_read q.stored.root (λ place. None) t) top in
        record {
          newest = n;
          nodes = λ place. None;
          reached = λ place e. absurd (cc);
          reads = alone_read q.stored.root (λ place. None) (nothing_found q.stored.root) no_bits read;
          mapping = read;
        }

-- power may be lost so that each sector keeps what is durable, or what is newest
kept : (base : Base) (device : Dev) (sectors : List History) → Applies device (record { base = base; named = [] }) sectors
kept Durable device sectors = record { inside = All-nil _; there = λ at h e. omega arith }
kept Newest device sectors = record { inside = All-nil _; there = λ at h e. omega arith }

pub may_stop : (base : Base) (devices : Devices (List History)) → MayStop (record { base = base; named = [] }) devices
may_stop base devices = record { metadata = kept base Metadata devices.metadata; cache = kept base Cache devices.cache; origin = kept base Origin devices.origin }

module _ (P A : Type 0) (policy : P) (alloc : A) (mode : Mode) (s : Setting P 0 mode) (desk : DeskState P) (r : Root) (metadata : List History) where
  abbrev there : Shape
  there = shape P 0 mode s

  -- the metadata with that root, durable
  abbrev with_root : List History
  with_root = synced (written (synced metadata) (r.generation % 2) (spelling r))

  module _ (images : Images) (known : AtDesk there.geometry images desk None with_root) (idle : desk.space.committing ≡ false) (top : r.top ≡ None) (no_bits : r.top_dirty ≡ None) (same : desk.generation ≡ r.generation) (of : r.geometry ≡ there.geometry) (later : r.generation + 2 < 2 ^ 64) (size : length metadata ≡ s.sizes.meta_sectors)
      (choice : Choice) (cache origin : List History) where
    quiet : Quiet there.geometry images desk with_root
    quiet = elim known.stands [ inl q ↦ q | inr broken ↦ absurd (let busy = broken.busy in cc) ]

    root_is : quiet.stored.root ≡ r
    root_is = root_there metadata r quiet.stored.root (omega (arith, size, s.sizes.within.meta_from)) (omega (arith, later)) (sym quiet.generation ∙ same) ((quiet.stores.represents (map newest with_root) (read-left with_root)).newest)

    crash_of : Crashed with_root (crashed Metadata choice with_root)
    crash_of = Crashed-crashed_from Metadata choice 0 with_root

    pub none_there : HasNoTree there.geometry (crashed Metadata choice with_root)
    none_there = none_after P there.geometry images desk with_root (crashed Metadata choice with_root) quiet (ap (λ (x : Root). x.top) root_is ∙ top) (ap (λ (x : Root). x.top_dirty) root_is ∙ no_bits) (ap (λ (x : Root). x.geometry) root_is ∙ of) (omega (arith, ap (λ (x : Root). x.generation) root_is, later)) crash_of

    pub size_there : length (crashed Metadata choice with_root) ≡ there.geometry.meta_sectors
    size_there = crash_of.size ∙ quiet.stores.size ∙ ap (λ (g : Geometry). g.meta_sectors) (ap (λ (x : Root). x.geometry) root_is ∙ of)

    -- what the crash left, of which these are the cache and the origin
    abbrev pub again : Down P A
    again =
        let left : List History = crashed Metadata choice with_root in
        record { mode = Writeback; writes = write_back_starts; policy = policy; alloc = alloc; global = s.global; shape = there; metadata = left; cache = cache; origin = origin; none = none_there; size = size_there; rest = all_resting s.rest; idle = resting_idle s.rest }

    abbrev opened_again : State P A
    opened_again = ends s.global there (down P A again) (opening P A again)

    pub again_shown : (content : Bytes) → length origin ≡ 64 → slice_get (map newest (synced origin)) 0 ≡ Some content → slice_get (shown there opened_again) 0 ≡ Some content
    again_shown content all first = ap (λ (w : State P A). slice_get (shown there w) 0) (opened_is P A again)
        ∙ ap (λ (ss : List Bytes). slice_get ss 0) (origin_shown there (target P A again).desk.tree.entries (map newest (synced cache)) (map newest (synced origin)) there.geometry.cache_blocks (bare P A again).entries
        (length-map (synced origin) newest ∙ length-map origin (λ (h : History). only (newest h)) ∙ all)) ∙ first

    pub again_nowhere : (block : OBlock) → StandsNowhere block opened_again
    again_nowhere block = subst (λ (w : State P A). StandsNowhere block w) (sym (opened_is P A again)) (ap (λ (es : List (Option Entry)). cached_from block.0 0 es) (bare P A again).entries ∙ nowhere block.0 0 there.geometry.cache_blocks)
