use Rattle.std.proofs.lemmas.Str.{IsUtf8-from_ascii}
use Rattle.wb_dialogue.proofs.shown.text_of.Goals as goal

pub from_utf8_unchecked-requires : goal.from_utf8_unchecked-requires
from_utf8_unchecked-requires c = IsUtf8-from_ascii c.args.bytes.now c.requires
