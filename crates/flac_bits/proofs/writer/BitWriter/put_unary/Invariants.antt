use Rattle.std.proofs.Common.{◌-◌, ◌*◌}
use Rattle.flac_bits.specs.Meaning.{unary_bits}
use Rattle.flac_bits.proofs.Writing.{Towards}
use Rattle.flac_bits.proofs.writer.BitWriter.put_unary.Given as goal

abbrev pub invariant-loop-i : goal.invariant-loop-i
invariant-loop-i g l = Towards (unary_bits (l.q - 64 * l.i)) (unary_bits l.q) l.initial.self l.self
