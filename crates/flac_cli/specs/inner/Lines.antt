-- For proofs of printing: what a call adds to a buffer of text, which is `old` before the call and `new` after it.
use Rattle.std.specs.Prelude.{ℕ, List, [], take, Result}
use Rattle.flac_bits.specs.declared.target.Target as target
use Rattle.flac_cli.specs.inner.Lined.{Adds}
use Rattle.flac_cli.specs.declared.lines.Lines.{Lines}

-- this text, to what was sent to its target or to what it holds
abbrev pub AddsTo : {W X E : Type 0} (h : target.Ghosts W) (text : List ℕ) (old new : Lines W h) → Result X E → Type 0
AddsTo h text old new result = Adds h text old.target new.target (take old.held old.bytes) (take new.held new.bytes) result

-- this text was sent: the buffer was empty, and is empty again
abbrev pub SendsLine : {W X E : Type 0} (h : target.Ghosts W) (text : List ℕ) (old new : Lines W h) → Result X E → Type 0
SendsLine h text old new result = Adds h text old.target new.target [] [] result
