use Rattle.std.proofs.Common.{rules}
use Rattle.flac_pages.proofs.page_buffer.PageBuffer.body.Goals as goal

pub returns-clause-bytes : goal.returns-clause-bytes
returns-clause-bytes c = search rules
