use Rattle.std.proofs.Common.{◌≢◌, [], List, Err, Option, Some, inr, length, refl, ap, subst}
use Rattle.std.proofs.lemmas.Result.{on_ok_weaker, IfErr-weaker}
use Rattle.wb_types.specs.declared.geometry.Geometry.{Geometry}
use Rattle.wb_types.specs.declared.refusal.Refusal.{Refusal}
use Rattle.wb_types.specs.declared.refusal.Refusal.TheVariants.{Range}
use Rattle.wb_tasks.specs.declared.step.Answer.{Answer}
use Rattle.wb_tasks.specs.declared.step.Answer.TheVariants.{Done as Finished, Refused as Refuses}
use Rattle.wb_port.specs.Ports.{block_at}
use Rattle.wb_port.specs.Requests.{WriteRefused}
use Rattle.wb_port.specs.declared.port.Port.{Port}
use Rattle.wb_port.proofs.Ranging.{never_range}
use Rattle.wb_target.specs.Works.{WasAsked}
use Rattle.wb_target.specs.Blocking.{WriteCame}
use Rattle.wb_target.specs.Displaces.{WasDeferred, WasDisplaced}
use Rattle.wb_target.proofs.Trying.{write_run_refused}
use Rattle.wb_target.proofs.client.Client.write_once.Given.{Over}
use Rattle.wb_target.proofs.client.Client.write_once.Goals as goal

module _ (g : Over) (c : goal.After-displace_port g) where
  abbrev old : Port g.row.D.Denot
  old = c.args.self.now.port

  abbrev mid : Port g.row.D.Denot
  mid = c.try_write.new.self

  abbrev Displaced : Geometry → Answer → Type 0
  Displaced geometry answer = WasDisplaced g.D.Disk.tells g.D.Disk.size g.D.Disk.contents g.D.Disk.faults (WasAsked g.P.Policy.with_entry g.P.Policy.without_entry []) geometry.origin_blocks geometry.block (block_at geometry c.args.at.0) (record { first = c.args.at.0; count = length c.args.from.now }) c.args.from.now mid.hand answer c.displace_port.new.port.hand

  -- the try was deferred, and then the desk was asked
  deferred : (answer : Answer) → Displaced mid.geometry answer → WasDeferred g.D.Disk.tells g.D.Disk.size g.D.Disk.contents g.D.Disk.faults (WasAsked g.P.Policy.with_entry g.P.Policy.without_entry []) old.geometry (record { first = c.args.at.0; count = length c.args.from.now }) c.args.from.now old.hand answer c.displace_port.new.port.hand
  deferred answer displaced = record {
    mid = mid.hand;
    deferred = subst (λ (x : Refusal). WriteRefused g.D.Disk.tells g.D.Disk.size g.D.Disk.contents g.D.Disk.faults old.geometry.origin_blocks old.geometry.block (block_at old.geometry c.args.at.0) (record { first = c.args.at.0; count = length c.args.from.now }) c.args.from.now old.hand x mid.hand) c.if-not-is_deferred.ensures.0
        (write_run_refused g.D.Disk.tells g.D.Disk.size g.D.Disk.contents g.D.Disk.faults old mid old.geometry refl old.sized (ap (λ (xs : List _). length xs) c.requires.settled) c.args.at.0 (length c.args.from.now) c.requires.inside c.requires.fits c.args.from.now c.in-Err.refusal refl c.in-Err.ensures.refused);
    displaced = subst (λ (geometry : Geometry). Displaced geometry answer) c.try_write.ensures.geometry displaced;
  }

  abbrev Came : Option Refusal → Type 0
  Came end = WriteCame g.D.Disk.tells g.D.Disk.size g.D.Disk.contents g.D.Disk.faults (WasAsked g.P.Policy.with_entry g.P.Policy.without_entry []) old.geometry end (record { first = c.args.at.0; count = length c.args.from.now }) (old.hand, c.args.from.now) (c.displace_port.new.port.hand, c.args.from.now)

pub returns-else-not-is_deferred-clause-written : goal.returns-else-not-is_deferred-clause-written
returns-else-not-is_deferred-clause-written g c = on_ok_weaker c.displace_port.result (λ (done : Displaced g c c.try_write.new.self.geometry Finished). (inr (deferred g c Finished done), refl)) c.displace_port.ensures.done

pub returns-else-not-is_deferred-clause-refused : goal.returns-else-not-is_deferred-clause-refused
returns-else-not-is_deferred-clause-refused g c =
    IfErr-weaker c.displace_port.result (λ (refusal : Refusal). Displaced g c c.try_write.new.self.geometry (Refuses refusal)) (λ (refusal : Refusal). (refusal ≢ Range) × Came g c (Some refusal))
    (λ refusal was. (never_range {A = Unit {0}} _ _ was.steps (Refuses refusal) (Err refusal) refl was.run refl, (inr (deferred g c (Refuses refusal) was), refl))) c.displace_port.ensures.refused
