use Rattle.std.proofs.Common.{◌≡◌, replicate}
use Rattle.flac_draft.specs.Table.{vacant}
use Rattle.flac_draft.proofs.point_table.PointTable.reserved.Given as goal

abbrev pub invariant-loop-index : goal.invariant-loop-index
invariant-loop-index l = l.points.items ≡ replicate l.index vacant
