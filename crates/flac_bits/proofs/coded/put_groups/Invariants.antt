use Rattle.std.proofs.Common.{◌-◌}
use Rattle.flac_bits.specs.Coded.{six_bits}
use Rattle.flac_bits.proofs.Writing.{Towards}
use Rattle.flac_bits.proofs.coded.put_groups.Given as goal

abbrev pub invariant-loop-i : goal.invariant-loop-i
invariant-loop-i g l = Towards (six_bits (l.count - l.i) l.value) (six_bits l.count l.value) l.initial.writer l.writer
