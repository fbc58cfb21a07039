use Rattle.std.proofs.Common.{rules}
use Rattle.wb_dialogue.proofs.Laid.{byte_laid, mixed_laid}
use Rattle.wb_dialogue.proofs.shown.lay_name.Goals as goal

pub returns-in-Uniform-clause-laid : goal.returns-in-Uniform-clause-laid
returns-in-Uniform-clause-laid c = byte_laid _ c.in-Uniform.byte c.digit_of-in-Uniform.result c.digit_of.result _ _ _ c.in-Uniform.is (search rules) c.digit_of-in-Uniform.ensures.value c.digit_of-in-Uniform.ensures.ascii c.digit_of.ensures.value c.digit_of.ensures.ascii c.lay_byte-end.ensures.laid c.lay_byte.ensures.laid

pub returns-in-Mixed-clause-laid : goal.returns-in-Mixed-clause-laid
returns-in-Mixed-clause-laid c = mixed_laid _ _ _ _ _ _ _ c.in-Mixed.is c.lay_byte-end-in-Mixed.ensures.laid c.lay_byte-end-in-Mixed-2.ensures.laid c.lay_byte-end-in-Mixed-3.ensures.laid c.lay_byte-end-in-Mixed-4.ensures.laid c.lay_byte-in-Mixed.ensures.laid
