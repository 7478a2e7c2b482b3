-- Reading an item with a largest number of bytes, with no fence set before.
use Rattle.std.specs.Prelude.{◌≡◌, ℕ, Bool, true, List, ◌++◌, Option, Result, IfOk, IfErr, IsOkAnd, IsErrAnd}
use Rattle.flac_bits.specs.State.{State, Cursor, Consumes, started}
use Rattle.flac_bits.specs.Layout.{Layout}
use Rattle.flac_bits.specs.Reading.{Gives}
use Rattle.flac_bits.specs.Meaning.{Spells}
use Rattle.flac_bits.specs.Fence.{InRoom, StopsIn, read_in}
use Rattle.flac_bits.specs.Fencing.{lifted}
use Rattle.flac_bits.specs.declared.why.Why.{Why}

-- what was returned is what the layout gives within the room, the checks having begun there
abbrev pub ReadsWithin : {X Y : Type 0} → Option ℕ → (X → Y) → Layout Y → State → State → Result X Why → Type 0
ReadsWithin room view layout old new result = Gives view (read_in room layout (started (lifted old)).cursor) (lifted old) new result

-- What was returned follows from the meaning of the layout alone: a value is the one that a prefix of the input spells
-- within the room, and the reader is after exactly these bits; a reason is the only one for which there is no item.
pub record DecodesWithin {X Y : Type 0} (room : Option ℕ) (view : X → Y) (layout : Layout Y) (old new : Cursor) (result : Result X Why) : Type 0 where
  pub found : IfOk result (λ x. (text : List Bool) × Consumes text old new × Spells layout old.mark text (view x) × InRoom room old.mark text)
  pub only : (text rest : List Bool) (y : Y) → old.left ≡ text ++ rest → Spells layout old.mark text y → InRoom room old.mark text → IsOkAnd result (λ x. (view x ≡ y) × (new.left ≡ rest))
  pub fault : IfErr result (λ e. StopsIn room layout old.mark old.left e)
  pub stopped : (why : Why) → StopsIn room layout old.mark old.left why → IsErrAnd result (λ e. e ≡ why)

-- this holds if the bytes of the source are known and it returned no error in the call
abbrev pub MeansWithin : {X Y : Type 0} → Option ℕ → (X → Y) → Layout Y → State → State → Result X Why → Type 0
MeansWithin room view layout old new result = old.known ≡ true → new.errors ≡ old.errors → DecodesWithin room view layout (started (lifted old)).cursor new.cursor result
