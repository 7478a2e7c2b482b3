-- Edits of the comments of a stream, and of a file that has it.
use Rattle.std.specs.Prelude.{◌≡◌, ℕ, ◌+◌, Bool, true, false, cond, nat_eq, List, [], ◌∷◌, ◌++◌, take, drop, Result, IfOk}
use Rattle.flac_bits.specs.Bits.{bits_of}
use Rattle.flac_bits.specs.Fencing.{lifted}
use Rattle.flac_bits.specs.State.{Mark, Cursor, State}
use Rattle.flac_bits.specs.declared.source.Source as source
use Rattle.flac_bits.specs.declared.target.Target as target
use Rattle.flac_info.specs.Info.{Info}
use Rattle.flac_meta.specs.declared.comments.Comments.{Comments}
use Rattle.flac_meta.specs.declared.block.Block.{Block}
use Rattle.flac_meta.specs.declared.block.Block.TheVariants as block_of
use Rattle.flac_native.specs.Decoding.{source_start}
use Rattle.flac_native.specs.Retag.{BeginsWith}
use Rattle.flac_native.specs.Writing.{head_spelling}
use Rattle.flac_edit.specs.Calls.{AtEachMoment, InTheEnd}
use Rattle.flac_edit.specs.Device.{Timeline, LeavesOnly}
use Rattle.flac_edit.specs.Edited.{edited}
use Rattle.flac_edit.specs.Places.{IsEdited, IsOldOrEdited}
use Rattle.flac_edit.specs.declared.device.Device as device
use Rattle.flac_edit.specs.declared.edits.Edit.{Edit}
use Rattle.flac_edit.specs.declared.tagging.Tagged.{Tagged}
use Rattle.flac_edit.specs.declared.tagging.Tagged.TheVariants.{Same, Flipped}

-- ---- the comments of a stream

-- none, by a program without a name
abbrev pub no_comments : Comments
no_comments = record { vendor = []; list = [] }

-- those of the comment block, of which there is one at most (RFC 9639, section 8.6); none if there is no such block
abbrev pub comments_among : List Block → Comments
comments_among [] = no_comments
comments_among (block_of.VorbisComment found ∷ bs) = found
comments_among (b ∷ bs) = comments_among bs

-- the comments after these edits
abbrev pub new_comments : List Edit → List Block → Comments
new_comments edits list = edited edits (comments_among list)

-- the edits change none of them
abbrev pub KeepComments : List Edit → List Block → Type 0
KeepComments edits list = new_comments edits list ≡ comments_among list

-- ---- in a list of blocks

-- how many blocks come before the first comment block
abbrev pub comments_at : List Block → ℕ
comments_at [] = 0
comments_at (block_of.VorbisComment found ∷ bs) = 0
comments_at (b ∷ bs) = 1 + comments_at bs

-- the blocks with these comments in the place of the comment block; after all others if there is none
abbrev pub with_comments : Comments → List Block → List Block
with_comments new list = take (comments_at list) list ++ block_of.VorbisComment new ∷ drop (comments_at list + 1) list

-- the blocks with the edited comments in their place; all others, also padding, stay
abbrev pub retagged : List Edit → List Block → List Block
retagged edits list = with_comments (new_comments edits list) list

-- ---- in place

-- A crash at any moment leaves a file with the blocks as they were, or with the edited comments, before the same frames.
abbrev pub LeavesOldOrTagged : Mark → List Edit → (file : List ℕ) → Timeline → Timeline → Type 0
LeavesOldOrTagged m edits file old now =
    (info : Info) (list : List Block) (rest : List Bool) → BeginsWith m (bits_of file) info list rest → LeavesOnly old now (IsOldOrEdited m (new_comments edits list) info list rest)

-- The file as it is read now has the blocks as they were, or the edited comments.
abbrev pub ReadsOldOrTagged : Mark → List Edit → (file now : List ℕ) → Type 0
ReadsOldOrTagged m edits file now =
    (info : Info) (list : List Block) (rest : List Bool) → BeginsWith m (bits_of file) info list rest → IsOldOrEdited m (new_comments edits list) info list rest now

-- It has the edited comments now.
abbrev pub IsTagged : Mark → List Edit → (file now : List ℕ) → Type 0
IsTagged m edits file now =
    (info : Info) (list : List Block) (rest : List Bool) → BeginsWith m (bits_of file) info list rest → IsEdited m (new_comments edits list) info list rest now

-- The edits change none of its comments.
abbrev pub ChangesNothing : Mark → List Edit → (file : List ℕ) → Type 0
ChangesNothing m edits file =
    (info : Info) (list : List Block) (rest : List Bool) → BeginsWith m (bits_of file) info list rest → new_comments edits list ≡ comments_among list

-- ---- what an edit in place does to the file of a device, `old` before the call and `new` after it, of which `from` reads
-- the blocks, if the bytes are known

abbrev pub LeavesTagged : {S D : Type 0} (g : source.Ghosts S) (h : device.Ghosts D) → S → List Edit → (old new : D) → Type 0
LeavesTagged g h from edits old new = AtEachMoment h old new (LeavesOldOrTagged (source_start g from).mark edits)

abbrev pub ReadsTagged : {S D : Type 0} (g : source.Ghosts S) (h : device.Ghosts D) → S → List Edit → (old new : D) → Type 0
ReadsTagged g h from edits old new = InTheEnd h old new (ReadsOldOrTagged (source_start g from).mark edits)

abbrev pub HasTagged : {S D : Type 0} (g : source.Ghosts S) (h : device.Ghosts D) → S → List Edit → (old new : D) → Type 0
HasTagged g h from edits old new = InTheEnd h old new (IsTagged (source_start g from).mark edits)

abbrev pub KeepsComments : {S : Type 0} (g : source.Ghosts S) → S → List Edit → Type 0
KeepsComments g from edits = g.known from ≡ true → ChangesNothing (source_start g from).mark edits (g.coming from)

-- this holds if they change nothing
abbrev pub IfNothingChanges : {S : Type 0} (g : source.Ghosts S) → S → List Edit → Type 0 → Type 0
IfNothingChanges g from edits Says = g.known from ≡ true → ChangesNothing (source_start g from).mark edits (g.coming from) → Says

-- what is claimed of a call that edited them in place, and of one that had nothing to edit
abbrev pub IfFlipped : {E : Type 0} → Result Tagged E → Type 0 → Type 0
IfFlipped result Says = IfOk result (λ done. done ≡ Flipped → Says)

abbrev pub IfSame : {E : Type 0} → Result Tagged E → Type 0 → Type 0
IfSame result Says = IfOk result (λ done. done ≡ Same → Says)

-- ---- in a new file

-- neither padding nor comments
abbrev pub is_other : Block → Bool
is_other (block_of.Padding n) = false
is_other (block_of.VorbisComment found) = false
is_other b = true

-- such a block as a list of one, and others as the empty list
abbrev pub other_of : Block → List Block
other_of b = cond (is_other b) (b ∷ []) []

-- the other blocks, in their order
abbrev pub others_of : List Block → List Block
others_of [] = []
others_of (b ∷ bs) = other_of b ++ others_of bs

-- padding of n bytes; no block if that is none
abbrev pub padding_of : ℕ → List Block
padding_of n = cond (nat_eq n 0) [] (block_of.Padding n ∷ [])

-- the other blocks, the edited comments, and padding of n bytes
abbrev pub arranged : List Edit → ℕ → List Block → List Block
arranged edits n list = others_of list ++ block_of.VorbisComment (new_comments edits list) ∷ padding_of n

-- After the bits that were there, the input was written with its blocks arranged so, and the rest of it as it is.
pub record Rewrites (m : Mark) (text : List Bool) (edits : List Edit) (padding : ℕ) (before after : List Bool) : Type 0 where
  pub info : Info
  pub list : List Block
  pub rest : List Bool
  pub input : BeginsWith m text info list rest
  pub output : after ≡ before ++ (head_spelling info (arranged edits padding list) ++ rest)

-- the same of the bits of a cursor
abbrev pub RewritesAt : Cursor → List Edit → ℕ → (before after : List Bool) → Type 0
RewritesAt c edits padding before after = Rewrites c.mark c.left edits padding before after

-- ---- what is sent to a target, `old` before the call and `new` after it, if its bytes are known

-- the input of a source, if its bytes are known
abbrev pub SendsRewritten : {S T : Type 0} (g : source.Ghosts S) (h : target.Ghosts T) → S → List Edit → ℕ → (old new : T) → Type 0
SendsRewritten g h from edits padding old new = g.known from ≡ true → h.known old ≡ true → RewritesAt (source_start g from) edits padding (bits_of (h.sent old)) (bits_of (h.sent new))

-- what a reader has still to read, if its bytes are known
abbrev pub SendsRewrittenFrom : {T : Type 0} (h : target.Ghosts T) → State → List Edit → ℕ → (old new : T) → Type 0
SendsRewrittenFrom h from edits padding old new = from.known ≡ true → h.known old ≡ true → RewritesAt (lifted from).cursor edits padding (bits_of (h.sent old)) (bits_of (h.sent new))
