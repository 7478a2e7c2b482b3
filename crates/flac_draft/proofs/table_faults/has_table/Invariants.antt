use Rattle.std.proofs.Common.{◌≡◌, drop}
use Rattle.flac_native.specs.Seeking.{has_table}
use Rattle.flac_draft.proofs.table_faults.has_table.Given as goal

abbrev pub invariant-loop-block : goal.invariant-loop-block
invariant-loop-block l = has_table (drop l.block-index l.blocks) ≡ has_table l.blocks
