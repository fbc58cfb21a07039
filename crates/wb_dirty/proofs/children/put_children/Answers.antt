use Rattle.std.proofs.Common.{List, ◌≡◌, ◌∙◌, sym, ap, subst, reverse, arith, ◌+◌, ◌-◌, ◌*◌, slice_index}
use Rattle.std.specs.Prelude.{All}
use Rattle.wb_dirty.specs.declared.children.Child.{Child}
use Rattle.wb_dirty.specs.Loading.{IsLevelOfChild}
use Rattle.wb_dirty.proofs.Steps.{children-next, children-skip, children-all, children-zero}
use Rattle.wb_dirty.proofs.Loads.{all_push}
use Rattle.wb_dirty.proofs.children.put_children.Goals.{then-word-ne0, else-word-ne0}
use Rattle.wb_dirty.proofs.children.put_children.Goals as goal

pub loop-k-preserved : goal.loop-k-preserved
loop-k-preserved c =
    elim c.if-word-ne0.branch [
      | then-word-ne0 w ↦ record {
        levels = all_push IsLevelOfChild c.loop-k.left.items c.if-word-ne0.left.items _ c.loop-k.invariant.levels (record { from = omega (arith, c.requires.from); to = omega (arith, c.requires.to) }) (ap (λ v. v.items) w.left-is ∙ w.push_reserved.ensures.items);
        room = omega (arith, c.loop-k.invariant.room, c.loop-k-test.true, ap (λ v. v.len) w.left-is, ap (λ v. v.cap) w.left-is, w.push_reserved.ensures.len, w.push_reserved.ensures.capacity);
        put = children-next c.loop-k.k _ c.args.parent.index c.args.parent.place c.args.words.now (reverse c.args.left.now.items) c.loop-k.left.items c.if-word-ne0.left.items _ c.loop-k-test.true c.loop-k.invariant.put w.if-word-ne0.true
            (ap (λ n. record { level = c.args.parent.level - 1; index = 32 * n + (31 - c.loop-k.k); word = slice_index c.args.words.now (31 - c.loop-k.k); from = c.args.parent.place }) w.from.ensures)
            (ap (λ v. v.items) w.left-is ∙ w.push_reserved.ensures.items);
      }
      | else-word-ne0 w ↦ record {
        levels = subst (All IsLevelOfChild) (sym (ap (λ v. v.items) w.left-is)) c.loop-k.invariant.levels;
        room = omega (arith, c.loop-k.invariant.room, c.loop-k-test.true, ap (λ v. v.len) w.left-is, ap (λ v. v.cap) w.left-is);
        put = children-skip c.loop-k.k _ c.args.parent.index c.args.parent.place c.args.words.now (reverse c.args.left.now.items) c.loop-k.left.items c.if-word-ne0.left.items c.loop-k-test.true c.loop-k.invariant.put w.if-word-ne0.false (ap (λ v. v.items) w.left-is);
      }
    ]

pub returns-clause-ok : goal.returns-clause-ok
returns-clause-ok c =
    children-all c.loop-k.k _ c.args.parent.index c.args.parent.place c.args.words.now (reverse c.args.left.now.items) c.loop-k.left.items c.loop-k-test.false c.loop-k.auto.k-end c.loop-k.invariant.put

pub loop-k-init : goal.loop-k-init
loop-k-init c =
    let same : c.reserve.new.self.items ≡ c.args.left.now.items = c.in_ok-reserve.ensures.items in
    record {
      levels = subst (All IsLevelOfChild) (sym same) c.requires.levels;
      room = omega (arith, c.in_ok-reserve.ensures.ok, c.in_ok-reserve.ensures.capacity);
      put = ap (λ (xs : List Child). reverse xs) same ∙ sym (children-zero _ c.args.parent.index c.args.parent.place c.args.words.now (reverse c.args.left.now.items));
    }
