use Rattle.std.proofs.Common.{◌<◌, ◌≤◌, ◌+◌, ◌*◌, ◌^◌, ◌-◌}
use Rattle.flac_bits.specs.Layout.{run}
use Rattle.flac_bits.specs.Number.{continued}
use Rattle.flac_bits.specs.inner.Reading.{Goes, Draws}
use Rattle.flac_bits.specs.Reading.{HeldEnds}
use Rattle.flac_bits.proofs.number.continued.Given as goal

abbrev pub invariant-loop-i : goal.invariant-loop-i
invariant-loop-i g l = (l.value < 2 ^ 5 * 64 ^ l.i) × (l.value < (l.high + 1) * 64 ^ l.i) × (l.bits.most ≤ l.initial.bits.most) × Goes l.initial.bits l.bits (run (continued (l.count - l.i) l.value) l.bits.cursor) (run (continued l.count l.high) l.initial.bits.cursor) × Draws l.initial.bits l.bits (HeldEnds (continued (l.count - l.i) l.value) l.bits) (HeldEnds (continued l.count l.high) l.initial.bits)
