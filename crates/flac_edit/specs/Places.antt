-- Where new comments fit in place, and which blocks come of it.
use Rattle.std.specs.Prelude.{◌≡◌, ◌⊎◌, ℕ, ◌+◌, Bool, true, false, List, [], ◌∷◌, ◌++◌, map}
use Rattle.flac_bits.specs.Bits.{bits_of}
use Rattle.flac_bits.specs.State.{Mark}
use Rattle.flac_info.specs.Info.{Info}
use Rattle.flac_meta.specs.Spelling.{length_of, comments_length}
use Rattle.flac_meta.specs.declared.comments.Comments.{Comments}
use Rattle.flac_meta.specs.declared.block.Block.{Block}
use Rattle.flac_meta.specs.declared.block.Block.TheVariants as block_of
use Rattle.flac_native.specs.Retag.{BeginsWith}
use Rattle.flac_edit.specs.Device.{Timeline, LeavesOnly}
use Rattle.flac_edit.specs.declared.slots.Slot.{Slot}
use Rattle.flac_edit.specs.declared.slots.Slot.TheVariants as slot

-- ---- what each block is

-- padding, comments or another block, and the length of its content in bytes (RFC 9639, section 8.1)
abbrev pub slot_of : Block → Slot
slot_of (block_of.Padding n) = slot.Padding n
slot_of (block_of.VorbisComment found) = slot.Comments (comments_length found)
slot_of b = slot.Other (length_of b)

abbrev pub slots_of : List Block → List Slot
slots_of blocks = map slot_of blocks

abbrev pub size_of : Slot → ℕ
size_of (slot.Padding n) = n
size_of (slot.Comments n) = n
size_of (slot.Other n) = n

-- how many bytes blocks take: each has a header of 4 bytes
abbrev pub total_of : List Slot → ℕ
total_of [] = 0
total_of (s ∷ ss) = 4 + size_of s + total_of ss

abbrev pub are_paddings : List Slot → Bool
are_paddings [] = true
are_paddings (slot.Padding n ∷ ss) = are_paddings ss
are_paddings (slot.Comments n ∷ ss) = false
are_paddings (slot.Other n ∷ ss) = false

-- a run: padding, one comment block, and padding
abbrev pub is_run : List Slot → Bool
is_run [] = false
is_run (slot.Padding n ∷ ss) = is_run ss
is_run (slot.Comments n ∷ ss) = are_paddings ss
is_run (slot.Other n ∷ ss) = false

-- the comments among blocks
abbrev pub comments_of : List Block → List Comments
comments_of [] = []
comments_of (block_of.VorbisComment found ∷ bs) = found ∷ comments_of bs
comments_of (b ∷ bs) = comments_of bs

-- ---- an edit

-- In the place of a run, the comments and the padding beside them, there are other comments and padding, in as many
-- bytes. All other blocks are the same.
pub record AreEdited (new : Comments) (olds news : List Block) : Type 0 where
  pub front : List Block
  pub run : List Block
  pub mid : List Block
  pub rest : List Block
  pub olds_are : olds ≡ front ++ (run ++ rest)
  pub news_are : news ≡ front ++ (mid ++ rest)
  pub run_is : is_run (slots_of run) ≡ true
  pub mid_is : is_run (slots_of mid) ≡ true
  pub holds : comments_of mid ≡ new ∷ []
  pub long : total_of (slots_of mid) ≡ total_of (slots_of run)

-- ---- the file

-- The file begins with the marker, STREAMINFO and blocks as the slots say, STREAMINFO the first (RFC 9639, sections 6
-- and 8). The rest is not read.
pub record HasBlocks (m : Mark) (slots : List Slot) (info : Info) (list : List Block) (rest : List Bool) (file : List ℕ) : Type 0 where
  pub begins : BeginsWith m (bits_of file) info list rest
  pub slots_are : slots_of (block_of.StreamInfo info ∷ list) ≡ slots

-- The file begins with the same STREAMINFO and edited blocks, and goes on with the same bits.
pub record IsEdited (m : Mark) (new : Comments) (info : Info) (list : List Block) (rest : List Bool) (file : List ℕ) : Type 0 where
  pub news : List Block
  pub edited : AreEdited new list news
  pub begins : BeginsWith m (bits_of file) info news rest

-- it begins with the blocks as they were, or with edited ones
abbrev pub IsOldOrEdited : Mark → Comments → Info → List Block → List Bool → List ℕ → Type 0
IsOldOrEdited m new info list rest file = BeginsWith m (bits_of file) info list rest ⊎ IsEdited m new info list rest file

-- A crash at any moment leaves a file with the blocks as they were, or with the new comments.
abbrev pub LeavesOldOrEdited : List Slot → Comments → (file : List ℕ) → Timeline → Timeline → Type 0
LeavesOldOrEdited slots new file old now =
    (m : Mark) (info : Info) (list : List Block) (rest : List Bool) → HasBlocks m slots info list rest file → LeavesOnly old now (IsOldOrEdited m new info list rest)

-- The file has the new comments now.
abbrev pub HasComments : List Slot → Comments → (file now : List ℕ) → Type 0
HasComments slots new file now = (m : Mark) (info : Info) (list : List Block) (rest : List Bool) → HasBlocks m slots info list rest file → IsEdited m new info list rest now

-- The file as it is read now has the blocks as they were, or the new comments.
abbrev pub ReadsOldOrEdited : List Slot → Comments → (file now : List ℕ) → Type 0
ReadsOldOrEdited slots new file now = (m : Mark) (info : Info) (list : List Block) (rest : List Bool) → HasBlocks m slots info list rest file → IsOldOrEdited m new info list rest now
