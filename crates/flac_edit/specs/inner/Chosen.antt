-- The same edit of blocks with their marks, and what an edit in place leaves.
use Rattle.std.specs.Prelude.{◌≡◌, ◌⊎◌, ℕ, true, List, [], ◌∷◌, ◌++◌}
use Rattle.flac_meta.specs.declared.comments.Comments.{Comments}
use Rattle.flac_native.specs.BlockOrder.{MarkedBlock, without_marks}
use Rattle.flac_edit.specs.Device.{Timeline, LeavesOnly}
use Rattle.flac_edit.specs.Places.{slot_of, is_run, comments_of}
use Rattle.flac_edit.specs.inner.Reads.{Reads, AreMarked, total}
use Rattle.flac_edit.specs.declared.slots.Slot.{Slot}

abbrev pub marked_slots : List MarkedBlock → List Slot
marked_slots [] = []
marked_slots (b ∷ bs) = slot_of b.1 ∷ marked_slots bs

pub record AreChanged (new : Comments) (olds news : List MarkedBlock) : Type 0 where
  pub front : List MarkedBlock
  pub run : List MarkedBlock
  pub mid : List MarkedBlock
  pub rest : List MarkedBlock
  pub olds_are : olds ≡ front ++ (run ++ rest)
  pub news_are : news ≡ front ++ (mid ++ rest)
  pub run_is : is_run (marked_slots run) ≡ true
  pub mid_is : is_run (marked_slots mid) ≡ true
  pub holds : comments_of (without_marks mid) ≡ new ∷ []
  pub long : total mid ≡ total run
  pub marked : AreMarked news

-- the file reads as blocks that are changed so, before these frames
pub record ReadsChanged (new : Comments) (olds : List MarkedBlock) (frames file : List ℕ) : Type 0 where
  pub news : List MarkedBlock
  pub changed : AreChanged new olds news
  pub reads : Reads news frames file

-- it reads as before or as changed
abbrev pub IsOldOrChanged : Comments → List MarkedBlock → List ℕ → List ℕ → Type 0
IsOldOrChanged new olds frames file = Reads olds frames file ⊎ ReadsChanged new olds frames file

-- The file is these blocks, of which the last is marked, as the slots say, and these frames.
pub record HasSlots (slots : List Slot) (blocks : List MarkedBlock) (frames file : List ℕ) : Type 0 where
  pub slots_are : marked_slots blocks ≡ slots
  pub marked : AreMarked blocks
  pub reads : Reads blocks frames file

-- a crash at any moment leaves the blocks as they were, or changed, before the same frames
abbrev pub LeavesOldOrChanged : List Slot → Comments → (file : List ℕ) → Timeline → Timeline → Type 0
LeavesOldOrChanged slots new file old now = (blocks : List MarkedBlock) (frames : List ℕ) → HasSlots slots blocks frames file → LeavesOnly old now (IsOldOrChanged new blocks frames)

-- the blocks are changed now
abbrev pub HasChanged : List Slot → Comments → (file now : List ℕ) → Type 0
HasChanged slots new file now = (blocks : List MarkedBlock) (frames : List ℕ) → HasSlots slots blocks frames file → ReadsChanged new blocks frames now
