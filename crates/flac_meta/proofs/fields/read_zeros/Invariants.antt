use Rattle.std.proofs.Common.{◌≤◌, ◌-◌, ◌*◌, ◌/◌}
use Rattle.flac_bits.specs.Layout.{run}
use Rattle.flac_bits.specs.inner.Reading.{Goes}
use Rattle.flac_meta.specs.Fields.{zeros}
use Rattle.flac_meta.proofs.Zeros.{zeros_then}
use Rattle.flac_meta.proofs.fields.read_zeros.Given as goal

abbrev pub invariant-loop-i : goal.invariant-loop-i
invariant-loop-i g l = (l.bits.most ≤ l.fn.bits.most) × Goes l.fn.bits l.bits (zeros_then (64 * (l.count / 64 - l.i)) l.clear l.bits.cursor) (run (zeros l.count) l.fn.bits.cursor)
