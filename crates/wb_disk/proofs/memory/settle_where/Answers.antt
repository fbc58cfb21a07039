use Rattle.std.proofs.Common.{◌≡◌, ◌∙◌, ◌<◌, ◌+◌, Some, ℕ, Bool, true, false, length, get_or, arith, ap, refl, sym, slice_set}
use Rattle.std.specs.List.{slice_get}
use Rattle.std.proofs.lemmas.List.{map-set, length-map}
use Rattle.std.proofs.lemmas.Option.{slice_get-map, slice_get-get_or}
use Rattle.std.specs.Option.{option_map}
use Rattle.wb_disk.specs.Device.{newest, only}
use Rattle.wb_disk.specs.Stored.{history, histories, capacity_of, lands_at}
use Rattle.wb_disk.proofs.Sectors.{map-set_same}
use Rattle.wb_disk.proofs.Noting.{member_inside, synced_from-settled, noted-settled, done_before, done_settled, done_passed, done_all}
use Rattle.wb_disk.proofs.memory.settle_where.Goals as goal
use Rattle.wb_disk.proofs.memory.settle_where.Goals.{then-is_at, else-is_at}

pub loop-at-preserved : goal.loop-at-preserved
loop-at-preserved c =
    let i = c.in-Some.at in
    let ps = c.loop-at.sectors in
    let hs = histories ps in
    let noted = c.args.unsynced.now in
    let L : ℕ → Bool = lands_at c.args.landing in
    let done = done_before L hs noted c.loop-at.from i c.loop-at.invariant.noted c.in-Some.ensures.found c.loop-at.invariant.done in
    elim c.if-is_at.branch [
      | then-is_at w ↦
          let yes : L i ≡ true = sym c.is_at.ensures ∙ w.if-is_at.true in
          let inside : i < length ps = omega (arith, member_inside noted i c.in-Some.ensures.found.holds, c.loop-at.invariant.noted.size, length-map ps history) in
          let p = get_or ps i w.index-sectors-at.result in
          let q = w.settle.new.self in
          let here : slice_get ps i ≡ Some p = slice_get-get_or ps i w.index-sectors-at.result inside in
          let had : slice_get hs i ≡ Some (history p) = slice_get-map history ps i ∙ ap (option_map history) here in
          let number : 0 + i ≡ i = omega arith in
          let set : histories (slice_set ps i q) ≡ slice_set hs i (only (newest (history p))) = map-set history ps i q ∙ ap (λ h. slice_set hs i h) w.settle.ensures.contents in
          rw (w.sectors-is, set) (record {
            synced = synced_from-settled L 0 hs i i (history p) number had yes ∙ c.loop-at.invariant.synced;
            capacity = map-set_same capacity_of ps i p q here w.settle.ensures.capacity ∙ c.loop-at.invariant.capacity;
            noted = noted-settled hs noted i (only (newest (history p))) c.loop-at.invariant.noted refl;
            done = done_settled L hs i (only (newest (history p))) refl done;
          })
      | else-is_at w ↦
          let no : L i ≡ false = sym c.is_at.ensures ∙ w.if-is_at.false in
          rw w.sectors-is (record {
            synced = c.loop-at.invariant.synced;
            capacity = c.loop-at.invariant.capacity;
            noted = c.loop-at.invariant.noted;
            done = done_passed L hs i no done;
          })
    ]

pub returns-clause-contents : goal.returns-clause-contents
returns-clause-contents c =
    let hs = histories c.loop-at.sectors in
    let L : ℕ → Bool = lands_at c.args.landing in
    sym (done_all L hs c.args.unsynced.now c.loop-at.from c.loop-at.invariant.noted c.in_default.ensures.none c.loop-at.invariant.done) ∙ c.loop-at.invariant.synced
