-- For proofs of edits in place: what one that may change nothing leaves of a file with these blocks. It is `old` before the
-- call and `new` after it, and `g` is that of the device's type.
use Rattle.std.specs.Prelude.{◌≡◌, ◌⊎◌, true, List}
use Rattle.flac_meta.specs.declared.block.Block.{Block}
use Rattle.flac_edit.specs.Places.{slots_of, LeavesOldOrEdited, ReadsOldOrEdited, HasComments}
use Rattle.flac_edit.specs.Tagged.{new_comments}
use Rattle.flac_edit.specs.declared.device.Device as device
use Rattle.flac_edit.specs.declared.edits.Edit.{Edit}

-- nothing changed; or a crash at any moment leaves the old blocks, or those with the edited comments
abbrev pub LeavesSameOrEdited : {D : Type 0} (g : device.Ghosts D) → List Edit → List Block → (old new : D) → Type 0
LeavesSameOrEdited g edits blocks old new = g.known old ≡ true → (new ≡ old) ⊎ LeavesOldOrEdited (slots_of blocks) (new_comments edits blocks) (g.seen old) (g.time old) (g.time new)

-- nothing changed; or a read finds the old blocks, or those with the edited comments
abbrev pub ReadsSameOrEdited : {D : Type 0} (g : device.Ghosts D) → List Edit → List Block → (old new : D) → Type 0
ReadsSameOrEdited g edits blocks old new = g.known old ≡ true → (new ≡ old) ⊎ ReadsOldOrEdited (slots_of blocks) (new_comments edits blocks) (g.seen old) (g.seen new)

-- the file has the edited comments
abbrev pub HasEdited : {D : Type 0} (g : device.Ghosts D) → List Edit → List Block → (old new : D) → Type 0
HasEdited g edits blocks old new = g.known old ≡ true → HasComments (slots_of blocks) (new_comments edits blocks) (g.seen old) (g.seen new)
