use Rattle.std.proofs.Common.{sym}
use Rattle.flac_subframe.proofs.lemmas.format.Bytes.{rice_byte, escape_byte}
use Rattle.flac_subframe.proofs.format.coding.Coding.of_byte.Goals as goal

pub returns-then-byte-lt32 : goal.returns-then-byte-lt32
returns-then-byte-lt32 c = sym (rice_byte c.args.byte c.if-byte-lt32.true)

pub returns-else-byte-lt32 : goal.returns-else-byte-lt32
returns-else-byte-lt32 c = sym (escape_byte c.args.byte c.if-byte-lt32.false)
