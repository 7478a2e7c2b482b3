use Rattle.std.proofs.Common.{◌*◌, ◌-◌, ◌/◌}
use Rattle.flac_bits.proofs.Writing.{Towards}
use Rattle.flac_meta.specs.Spelling.{zero_bits}
use Rattle.flac_meta.proofs.put.put_zeros.Given as goal

abbrev pub invariant-loop-i : goal.invariant-loop-i
invariant-loop-i g l = Towards (zero_bits (64 * (l.count / 64 - l.i))) (zero_bits l.count) l.fn.writer l.writer
