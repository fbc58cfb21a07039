use Rattle.std.proofs.Common.{◌≡◌, ◌≢◌, ◌∙◌, ◌<◌, ◌+◌, true, false, List, [], Some, length, ap, sym, arith, add-one, get_or}
use Rattle.std.specs.List.{slice_get}
use Rattle.std.proofs.lemmas.Option.{slice_get-get_or}
use Rattle.wb_disk.specs.Device.{History, written}
use Rattle.wb_disk.specs.Memory.{FrontWritten}
use Rattle.wb_disk.proofs.Neighbours.{each_more, room_stays}
use Rattle.wb_disk.proofs.memory.MemDiskDisk.write_extent.Goals as goal
use Rattle.wb_types.proofs.Truth.{on_err}

pub loop-k-preserved : goal.loop-k-preserved
loop-k-preserved c =
    let from = c.args.from.now in
    let k = c.loop-k.k in
    let first = c.args.first in
    let content = get_or from k [] in
    let there : k < length from = omega arith in
    let here : slice_get from k ≡ Some content = slice_get-get_or from k [] there in
    record {
      many = c.in_ok-write.ensures.size ∙ c.loop-k.invariant.many;
      contents = rw add-one (c.in_ok-write.ensures.ok ∙ ap (λ (d : List History). written d (first + k) content) c.loop-k.invariant.contents
          ∙ sym (each_more c.args.self.now.contents first k from content here));
      room = λ all i past below.
          let had = c.loop-k.invariant.room all in
          let in_place = c.in_ok-write.ensures.in_place (had k (omega arith) there) in
          let other : first + i ≢ first + k = omega arith in
          room_stays c.loop-k.self c.write.new.self (first + k) (first + i) content c.in_ok-write.ensures.ok in_place other (had i (omega arith) below);
      faults = c.in_ok-write.ensures.no_fault ∙ c.loop-k.invariant.faults;
    }

pub returns-in_err-write-clause-err : goal.returns-in_err-write-clause-err
returns-in_err-write-clause-err c =
    let landed : FrontWritten c.args.self.now.contents c.args.first c.args.from.now c.write.new.self.contents =
    (c.loop-k.k, omega arith, c.in_err-write.ensures.err ∙ c.loop-k.invariant.contents) in
    on_err c.from_residual.result landed

pub returns-in_err-write-clause-room : goal.returns-in_err-write-clause-room
returns-in_err-write-clause-room c all =
    let never : false ≡ true = c.in_err-write.ensures.room (c.loop-k.invariant.room all c.loop-k.k (omega arith) (omega arith)) in
    absurd (cc)
