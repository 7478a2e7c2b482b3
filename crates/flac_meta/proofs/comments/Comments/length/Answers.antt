use Rattle.std.proofs.Common.{rules}
use Rattle.flac_meta.proofs.comments.Comments.length.Goals as goal

pub returns : goal.returns
returns c = search rules
