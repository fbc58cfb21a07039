use Rattle.std.proofs.Common.{refl}
use Rattle.wb_nbd.specs.Handshakes.{lines}
use Rattle.wb_nbd.proofs.handshake.shake_hands.Goals as goal

pub returns : goal.returns
returns g c = record {
  greeted = lines (g.R.Read.remaining c.args.reader.now) (g.W.Write.contents c.greet.new.writer);
  flagged = lines (g.R.Read.remaining c.take_client_flags.new.reader) (g.W.Write.contents c.greet.new.writer);
  flags = c.in_ok-brief.ensures.0;
  brief = c.in_ok-brief.brief;
  listened = refl;
  greeting = c.in_ok-greet.ensures;
  taken = c.in_ok-brief.ensures.1;
  flags_are = c.in_ok-brief.ensures.2;
  kept = refl;
  haggled = c.in_ok-agreed.ensures;
}
