use Rattle.std.proofs.Common.{rules}
use Rattle.flac_pages.proofs.page_buffer.PageBuffer.segment.Goals as goal

pub returns : goal.returns
returns c = search rules
