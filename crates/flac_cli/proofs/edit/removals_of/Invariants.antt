use Rattle.std.proofs.Common.{◌≡◌, ◌++◌, map, drop}
use Rattle.flac_cli.specs.Editing.{removal_of}
use Rattle.flac_cli.proofs.edit.removals_of.Given as goal

abbrev pub invariant-loop-name : goal.invariant-loop-name
invariant-loop-name l = l.removals.items ++ map removal_of (drop l.name-index l.names) ≡ map removal_of l.names
