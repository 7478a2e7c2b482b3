-- When three writes change the blocks of a file so that each state between reads as the old blocks or as the new ones.
use Rattle.std.specs.Prelude.{ℕ, List, length}
use Rattle.flac_native.specs.BlockOrder.{MarkedBlock}
use Rattle.flac_edit.specs.Device.{Timeline, Fits, Holds, Torn, LeavesOnly}
use Rattle.flac_edit.specs.inner.Reads.{Reads, IsOldOrNew}
use Rattle.flac_edit.specs.declared.flipping.Change.{Change}

-- each write is inside the file
pub record IsInside (plan : Change) (file : List ℕ) : Type 0 where
  pub comments : Fits plan.at plan.bytes.items file
  pub header : Fits plan.header_at plan.header.items file
  pub zeros : Fits plan.zeros_at plan.zeros.items file

-- While the new comments are written, the file reads as before, whatever of them is stored. Once the header of four bytes
-- is written too, it reads as after, whatever is stored of the zeros.
pub record Flips (olds news : List MarkedBlock) (frames : List ℕ) (plan : Change) (file : List ℕ) : Type 0 where
  pub old : (c : List ℕ) → Torn plan.at (length plan.bytes.items) file c → Reads olds frames c
  pub new : (staged flipped c : List ℕ) → Holds file plan.at plan.bytes.items staged → Holds staged plan.header_at plan.header.items flipped
      → Torn plan.zeros_at (length plan.zeros.items) flipped c → Reads news frames c

-- a crash at any moment leaves the old blocks or the new ones, before the same frames
abbrev pub LeavesEither : Change → List ℕ → Timeline → Timeline → Type 0
LeavesEither plan file old new = (olds : List MarkedBlock) (news : List MarkedBlock) (frames : List ℕ) → Flips olds news frames plan file → LeavesOnly old new (IsOldOrNew olds news frames)

-- the file has the new blocks now
abbrev pub HasNew : Change → List ℕ → List ℕ → Type 0
HasNew plan file now = (olds : List MarkedBlock) (news : List MarkedBlock) (frames : List ℕ) → Flips olds news frames plan file → Reads news frames now
