use Rattle.flac_edit.proofs.BlockContents.{content_from}
use Rattle.flac_edit.proofs.exporting.content_of.Goals as goal

pub returns : goal.returns
returns c = content_from c.args.block.now c.in_ok-bytes.bytes.items c.deref.result.now c.split_at.result.1.now c.in_ok-from_slice.field-0.items c.in_ok-bytes.ensures.spelled c.deref.ensures.value c.split_at.ensures.back c.in_ok-from_slice.ensures.items
