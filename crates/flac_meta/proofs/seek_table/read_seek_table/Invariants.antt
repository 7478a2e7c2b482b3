use Rattle.std.proofs.Common.{◌≤◌, ◌-◌, None}
use Rattle.flac_bits.specs.Layout.{run, and_then}
use Rattle.flac_bits.specs.Lists.{after}
use Rattle.flac_bits.specs.inner.Reading.{Goes}
use Rattle.flac_meta.specs.SeekTable.{seek_points}
use Rattle.flac_meta.proofs.seek_table.read_seek_table.Given as goal

abbrev pub invariant-loop-i : goal.invariant-loop-i
invariant-loop-i g l = (l.bits.most ≤ l.initial.bits.most) × Goes l.initial.bits l.bits (and_then (run (seek_points (l.count - l.i) l.before) l.bits.cursor) (after l.points.items)) (run (seek_points l.count None) l.initial.bits.cursor)
