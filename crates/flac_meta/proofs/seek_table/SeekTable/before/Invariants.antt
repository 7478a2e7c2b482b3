use Rattle.std.proofs.Common.{◌≡◌, take}
use Rattle.flac_meta.specs.SeekTable.{last_before}
use Rattle.flac_meta.proofs.seek_table.SeekTable.before.Given as goal

abbrev pub invariant-loop-point : goal.invariant-loop-point
invariant-loop-point l = l.found ≡ last_before l.sample (take l.point-index l.points)
