use Rattle.std.proofs.Common.{◌<◌, ◌≤◌, ◌+◌, ◌^◌, ◌-◌}
use Rattle.flac_bits.specs.Layout.{number_from}
use Rattle.flac_bits.specs.inner.Reading.{Goes}
use Rattle.flac_bits.proofs.reader.BitReader.take_slow.Given as goal

abbrev pub invariant-loop-i : goal.invariant-loop-i
invariant-loop-i g l = (l.initial.self.held ≤ l.self.held + l.i) × (l.self.most + l.i ≤ l.initial.self.most) × (l.value < 2 ^ l.i) × Goes l.initial.self l.self (number_from (l.n - l.i) l.value l.self.cursor) (number_from l.n 0 l.initial.self.cursor)
