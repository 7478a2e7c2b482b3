use Rattle.std.proofs.Common.{◌≡◌, drop}
use Rattle.flac_reader.specs.Kept.{first_comments}
use Rattle.flac_reader.proofs.reader.Reader.comments.Given as goal

abbrev pub invariant-loop-block : goal.invariant-loop-block
invariant-loop-block g l = first_comments l.self.blocks.items ≡ first_comments (drop l.block-index l.self.blocks.items)
