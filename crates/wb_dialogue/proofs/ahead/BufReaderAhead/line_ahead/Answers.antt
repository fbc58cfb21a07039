use Rattle.std.proofs.Common.{◌≡◌, subst, false, take}
use Rattle.memchr.specs.Find.{is_byte, IsFirstByte}
use Rattle.wb_dialogue.specs.FirstLine.{IsFirstLine, has_break}
use Rattle.wb_dialogue.proofs.FirstLine.{first_line, no_line}
use Rattle.wb_dialogue.proofs.ahead.BufReaderAhead.line_ahead.Goals as goal

pub returns-in-None-clause-none : goal.returns-in-None-clause-none
returns-in-None-clause-none g c =
    let bytes = c.buffer-bytes.result.now in
    subst (λ ahead. has_break ahead ≡ false) c.buffer-bytes.ensures (no_line bytes (subst (λ found. IsFirstByte (is_byte 10) bytes found) c.in-None.is c.memchr.ensures))

pub returns-in-Some-clause-line : goal.returns-in-Some-clause-line
returns-in-Some-clause-line g c =
    let bytes = c.buffer-bytes.result.now in
    subst (λ ahead. IsFirstLine (take c.in-Some.end bytes) ahead) c.buffer-bytes.ensures (first_line bytes c.in-Some.end (subst (λ found. IsFirstByte (is_byte 10) bytes found) c.in-Some.is c.memchr.ensures))
