use Rattle.std.proofs.Common.{◌≡◌, ◌∙◌, ◌+◌, suc, Bool, drop, true, false, if◌then◌else◌, arith, ap, sym, add-one}
use Rattle.wb_disk.specs.Device.{written}
use Rattle.wb_disk.specs.Extents.{written_where}
use Rattle.wb_disk.specs.Memory.{HasRoom}
use Rattle.wb_disk.proofs.Neighbours.{room_stays}
use Rattle.wb_disk.specs.Failing.{lands}
use Rattle.wb_disk.proofs.Falters.{one_each_less, done_so}
use Rattle.wb_disk.proofs.faltering.write_landing.Goals as goal
use Rattle.wb_disk.proofs.faltering.write_landing.Goals.{then-has_landed, else-has_landed}

pub write-requires : goal.write-requires
write-requires c = omega (arith, c.requires.inside, c.loop-k.invariant.size, c.loop-k-test.true)

pub loop-k-preserved : goal.loop-k-preserved
loop-k-preserved c =
    let k = c.loop-k.k in
    let at = c.args.first + k in
    let old = c.loop-k.disk in
    let content = c.nth-content.result.now in
    let landing = lands c.args.device c.args.choice.now in
    let less = one_each_less landing old.contents c.args.first k c.args.contents.now content (omega (arith, c.loop-k-test.true)) c.nth-content.ensures in
    elim c.if-has_landed.branch [
      | then-has_landed w ↦
          let room : HasRoom old at = c.loop-k.invariant.room k (omega arith) (omega (arith, c.loop-k-test.true)) in
          let is_ok = w.write.ensures.room room in
          let wrote : w.write.new.self.contents ≡ written old.contents at content = done_so w.write.result is_ok w.write.ensures.ok in
          let does : landing at ≡ true = sym c.has_landed.ensures ∙ w.if-has_landed.true in
          rw (w.disk-is, add-one) (record {
            size = w.write.ensures.size ∙ c.loop-k.invariant.size;
            faults = done_so w.write.result is_ok w.write.ensures.no_fault ∙ c.loop-k.invariant.faults;
            room = λ i l b. room_stays old w.write.new.self at (c.args.first + i) content wrote (w.write.ensures.in_place room) (λ e. absurd (omega (arith, e, l))) (c.loop-k.invariant.room i (omega (arith, l)) b);
            landed = ap (λ d. written_where landing d (c.args.first + suc k) (drop (suc k) c.args.contents.now)) (wrote ∙ sym (ap (λ (t : Bool). if t then written old.contents at content else old.contents) does)) ∙ less ∙ c.loop-k.invariant.landed;
          })
      | else-has_landed w ↦
          let not : landing at ≡ false = sym c.has_landed.ensures ∙ w.if-has_landed.false in
          rw (w.disk-is, add-one) (record {
            size = c.loop-k.invariant.size;
            faults = c.loop-k.invariant.faults;
            room = λ i l b. c.loop-k.invariant.room i (omega (arith, l)) b;
            landed = ap (λ d. written_where landing d (c.args.first + suc k) (drop (suc k) c.args.contents.now)) (sym (ap (λ (t : Bool). if t then written old.contents at content else old.contents) not)) ∙ less ∙ c.loop-k.invariant.landed;
          })
    ]
