use Rattle.std.proofs.Common.{refl}
use Rattle.flac_pages.proofs.writing.head_bytes.Goals as goal

pub returns : goal.returns
returns c = rw (c.to_le_bytes.ensures, c.to_le_bytes-2.ensures, c.to_le_bytes-3.ensures, c.to_le_bytes-4.ensures) refl
