use Rattle.std.proofs.Common.{◌≡◌, drop}
use Rattle.flac_reader.specs.Kept.{first_points}
use Rattle.flac_reader.proofs.reader.Reader.point_before.Given as goal

abbrev pub invariant-loop-block : goal.invariant-loop-block
invariant-loop-block g l = first_points l.self.blocks.items ≡ first_points (drop l.block-index l.self.blocks.items)
