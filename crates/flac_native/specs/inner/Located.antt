-- For proofs of where a stream is refused: from any state on.
use Rattle.std.specs.Prelude.{◌≡◌, ◌≢◌, true, List, Option, Some, None}
use Rattle.flac_bits.specs.State.{Cursor, State}
use Rattle.flac_bits.specs.Fencing.{lifted}
use Rattle.flac_bits.specs.Items.{Refused, Stream, mark_after}
use Rattle.flac_bits.specs.declared.why.Why.TheVariants.{Memory}
use Rattle.flac_native.specs.Stream.{Piece, Progress, grammar}
use Rattle.flac_native.specs.declared.located.Located.{Located}

-- after these parts the input is refused, and so many bytes were read until then
pub record IsStopped (p : Progress) (c : Cursor) (l : Located) : Type 0 where
  pub parts : List Piece
  pub refused : Refused grammar p c.mark parts c.left l.fault.at l.fault.why
  pub byte : l.byte ≡ (mark_after grammar p c.mark parts refused.front refused.spelled).bytes

-- that was found of the input from this cursor on, unless memory ran out; or else it is a stream
abbrev pub Stops : Progress → Cursor → Option Located → Type 0
Stops p c None = (parts : List Piece) × Stream grammar p c.mark parts c.left
Stops p c (Some l) = l.fault.why ≢ Memory → IsStopped p c l

-- the same of what a reader reads, if its bits are known and no error of the source was met
abbrev pub StopsFrom : Progress → State → State → Option Located → Type 0
StopsFrom p old new found = old.known ≡ true → new.errors ≡ old.errors → new.raised ≡ old.raised → Stops p (lifted old).cursor found
