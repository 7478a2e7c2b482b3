use Rattle.std.proofs.Common.{rules, ◌<◌, ◌^◌}
use Rattle.flac_bits.proofs.Words.{of_byte_bits}
use Rattle.flac_bits.proofs.word.Word.of_byte.Goals as goal

pub returns : goal.returns
returns c = rw c.from.ensures (let b = c.args.byte in let fits : b < 2 ^ 8 = search rules in of_byte_bits b fits)
