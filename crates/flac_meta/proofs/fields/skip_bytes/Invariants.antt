use Rattle.std.proofs.Common.{◌*◌, ◌-◌, ◌≤◌}
use Rattle.flac_bits.specs.Layout.{run}
use Rattle.flac_bits.specs.inner.Reading.{Goes}
use Rattle.flac_meta.specs.Padding.{skipped}
use Rattle.flac_meta.proofs.fields.skip_bytes.Given as goal

abbrev pub invariant-loop-i : goal.invariant-loop-i
invariant-loop-i g l = (l.bits.most ≤ l.initial.bits.most) × Goes l.initial.bits l.bits (run (skipped (8 * l.length - 64 * l.i)) l.bits.cursor) (run (skipped (8 * l.length)) l.initial.bits.cursor)
