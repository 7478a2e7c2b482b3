use Rattle.std.proofs.Common.{rules}
use Rattle.flac_pages.proofs.page_buffer.PageBuffer.head.Goals as goal

pub returns : goal.returns
returns c = search rules
