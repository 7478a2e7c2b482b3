use Rattle.std.proofs.Common.{◌++◌, Vec, Global, sym, ap, ◌∙◌}
use Rattle.flac_meta.specs.declared.block.Block.{Block}
use Rattle.flac_cli.specs.ListedJson.{head_of}
use Rattle.flac_cli.specs.OggEdits.{blocks_among}
use Rattle.flac_cli.specs.declared.ogg_export.BlockHolder.{BlockHolder}
use Rattle.flac_cli.proofs.OggEdits.{all_held}
use Rattle.flac_cli.proofs.Outcomes.{counts_on}
use Rattle.flac_cli.proofs.ogg_export.head_blocks.Goals as goal

pub returns-in-Ok : goal.returns-in-Ok
returns-in-Ok g c = λ known parts end read.
    let told = c.in-Ok.ensures.head known (counts_on _ c.new-holder.ensures.failures) parts end read in
    let held = all_held (λ (h : BlockHolder). h.blocks.items) c.new-holder.result (head_of parts) c.pass_head-outcome.new.sink told.1 in
    (told.0, sym (ap (λ (v : Vec Block Global). v.items) c.into_blocks-blocks.ensures ∙ held ∙ ap (λ l. l ++ blocks_among (head_of parts)) c.new-holder.ensures.blocks))
