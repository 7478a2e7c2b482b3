-- What calls of a decoder, one after another, read.
use Rattle.std.specs.Prelude.{◌≡◌, List, Option, Some, Ok, Result, Err}
use Rattle.flac_bits.specs.Handing.{TakesAll, IsOutside}
use Rattle.flac_native.specs.Stream.{Piece, Progress}
use Rattle.flac_native.specs.Track.{IsAt}
use Rattle.flac_native.specs.Item.{Item}
use Rattle.flac_native.specs.Giving.{items_of, HasFirst, BreaksAfter, Stage, Moves}
use Rattle.flac_native.specs.declared.fault.Fault.{Fault}
use Rattle.flac_native.specs.declared.container.Container as container

-- a call of a decoder with this result
abbrev pub Answers : {C : Type 0} → container.Ghosts C → Stage C → Result (Option Item) Fault → Stage C → Type 0
Answers g old answer new = Moves g old new (λ (o : Option Item). o) answer

-- calls one after another gave these items
abbrev pub GivesAll : {C : Type 0} → container.Ghosts C → Stage C → List Item → Stage C → Type 0
GivesAll {C} g old items new = TakesAll (λ (a : Stage C) (x : Item) (b : Stage C). Answers g a (Ok (Some x)) b) old items new

-- Calls of a decoder from this progress on gave these items, and then one ended early, by an error of the device or
-- because memory ran out. They read parts one after another, the first of those to come, whose items are exactly these;
-- and the place is that of the container that gave these parts.
abbrev pub FailuresArePlaced : {C : Type 0} → container.Ghosts C → Type 0
FailuresArePlaced {C} g = (p : Progress) (first now last : Stage C) (items : List Item) (f : Fault) → IsAt first.track p → GivesAll g first items now → Answers g now (Err f) last → IsOutside f.why
    → (parts : List Piece) × (items ≡ items_of parts) × HasFirst g p first.container parts × BreaksAfter g p first.container last.container parts f.at f.why
