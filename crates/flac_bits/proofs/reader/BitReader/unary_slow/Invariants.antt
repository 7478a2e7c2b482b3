use Rattle.std.proofs.Common.{◌-◌, ◌≤◌}
use Rattle.flac_bits.specs.Layout.{zeros_from}
use Rattle.flac_bits.specs.inner.Reading.{Goes}
use Rattle.flac_bits.proofs.Needing.{Zeros}
use Rattle.flac_bits.proofs.reader.BitReader.unary_slow.Given as goal

abbrev pub invariant-loop-zeros : goal.invariant-loop-zeros
invariant-loop-zeros g l = record {
  within : l.zeros ≤ l.limit;
  goes : Goes l.initial.self l.self (zeros_from (l.limit - l.zeros) l.zeros l.self.cursor) (zeros_from l.limit 0 l.initial.self.cursor);
  zeros : Zeros l.zeros l.initial.self l.self;
  spent : l.self.most ≤ l.initial.self.most;
}

abbrev pub decreases-loop-zeros : goal.decreases-loop-zeros
decreases-loop-zeros g l = l.limit - l.zeros
