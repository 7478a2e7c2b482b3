use Rattle.std.proofs.Common.{rules}
use Rattle.flac_pages.proofs.page_buffer.PageBuffer.lacing.Goals as goal

pub returns-clause-values : goal.returns-clause-values
returns-clause-values c = search rules
