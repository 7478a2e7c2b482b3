use Rattle.std.proofs.Common.{◌≡◌, drop}
use Rattle.flac_edit.specs.Exported.{first_sheet}
use Rattle.flac_edit.proofs.exporting.first_sheet.Given as goal

abbrev pub invariant-loop-block : goal.invariant-loop-block
invariant-loop-block l = first_sheet (drop l.block-index l.blocks) ≡ first_sheet l.blocks
