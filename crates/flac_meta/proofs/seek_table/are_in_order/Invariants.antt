use Rattle.std.proofs.Common.{◌≡◌, drop, None}
use Rattle.flac_meta.specs.SeekTable.{in_order}
use Rattle.flac_meta.proofs.seek_table.are_in_order.Given as goal

abbrev pub invariant-loop-point : goal.invariant-loop-point
invariant-loop-point l = in_order l.before (drop l.point-index l.points) ≡ in_order None l.points
