use Rattle.std.proofs.Common.{◌≡◌, ◌++◌, drop}
use Rattle.flac_shelf.specs.Shown.{shown}
use Rattle.flac_shelf.proofs.printing.shown_bytes.Given as goal

abbrev pub invariant-loop-byte : goal.invariant-loop-byte
invariant-loop-byte l = l.text.items ++ shown (drop l.byte-index l.path) ≡ shown l.path
