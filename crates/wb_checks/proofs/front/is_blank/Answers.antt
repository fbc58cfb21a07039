use Rattle.std.proofs.Common.{sym, ◌∙◌, map, arith}
use Rattle.wb_disk.specs.Device.{newest}
use Rattle.wb_meta.proofs.Sectors.{given_there, on_ok}
use Rattle.wb_checks.proofs.Fronts.{blank_more, blank_all}
use Rattle.wb_checks.proofs.front.is_blank.Goals as goal

pub front-preserved : goal.front-preserved
front-preserved g c =
    let fine = sym c.is_err.ensures.value ∙ c.if-is_err.false in
    record {
      size = c.read.ensures.size ∙ c.front.invariant.size;
      same = λ tells. c.read.ensures.kept tells ∙ c.front.invariant.same tells;
      no_fault = λ tells. on_ok c.read.result fine (c.read.ensures.no_fault tells) ∙ c.front.invariant.no_fault tells;
      blank = λ tells.
          let device = g.D.Disk.contents c.args.metadata.now in
          let given = on_ok c.read.result fine (c.read.ensures.given tells) in
          let there = given_there (g.D.Disk.contents c.front.metadata) c.front.at c.read.new.out given in
          blank_more (map newest device) c.front.at c.read.new.out (c.front.invariant.blank tells) (rw (c.front.invariant.same tells) at there) c.if-not-is_blank_sector.ensures.blank;
    }

pub returns-clause-blank : goal.returns-clause-blank
returns-clause-blank g c tells =
    blank_all (g.D.Disk.contents c.args.metadata.now) (g.D.Disk.size c.args.metadata.now) c.args.count c.front.at (g.met.D.Disk.whole c.args.metadata.now tells) (omega arith) (c.front.invariant.blank tells)
