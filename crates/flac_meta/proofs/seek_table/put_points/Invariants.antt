use Rattle.std.proofs.Common.{drop}
use Rattle.flac_bits.proofs.Writing.{Towards}
use Rattle.flac_meta.specs.Spelling as s
use Rattle.flac_meta.proofs.seek_table.put_points.Given as goal

abbrev pub invariant-loop-point : goal.invariant-loop-point
invariant-loop-point g l = Towards (s.each_spelled s.point_spelling (drop l.point-index l.points)) (s.each_spelled s.point_spelling l.points) l.initial.writer l.writer
