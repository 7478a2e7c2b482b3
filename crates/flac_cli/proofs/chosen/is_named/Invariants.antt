use Rattle.std.proofs.Common.{◌≡◌, drop, map}
use Rattle.flac_edit.specs.BlockEdits.{is_named}
use Rattle.flac_cli.specs.Editing.{removal_of}
use Rattle.flac_cli.proofs.chosen.is_named.Given as goal

abbrev pub invariant-loop-name : goal.invariant-loop-name
invariant-loop-name l = is_named (map removal_of (drop l.name-index l.names)) l.number l.block ≡ is_named (map removal_of l.names) l.number l.block
