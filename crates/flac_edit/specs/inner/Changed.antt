-- Which blocks come of an edit in place.
use Rattle.std.specs.Prelude.{ℕ, ◌+◌, ◌-◌, Bool, false, List, [], ◌∷◌, ◌++◌}
use Rattle.flac_meta.specs.Spelling.{comments_length}
use Rattle.flac_meta.specs.declared.comments.Comments.{Comments}
use Rattle.flac_meta.specs.declared.block.Block.TheVariants as block_of
use Rattle.flac_native.specs.BlockOrder.{MarkedBlock}
use Rattle.flac_edit.specs.Device.{Timeline, LeavesOnly}
use Rattle.flac_edit.specs.inner.Reads.{HasRun, Reads, IsOldOrNew}
use Rattle.flac_edit.specs.declared.padding.PaddingBefore.{PaddingBefore}
use Rattle.flac_edit.specs.declared.padding.PaddingAfter.{PaddingAfter}

-- ---- padding before the comments

-- In place of padding of this many bytes, and of this many bytes of blocks after it: the comments, and padding.
abbrev pub news_before : (padding following : ℕ) (last : Bool) → Comments → List MarkedBlock
news_before padding following last new = (false, block_of.VorbisComment new) ∷ (last, block_of.Padding (padding + following - (comments_length new + 4))) ∷ []

-- the run: that padding, and the blocks after it
abbrev pub olds_before : (mark : Bool) (padding : ℕ) → List MarkedBlock → List MarkedBlock
olds_before mark padding more = (mark, block_of.Padding padding) ∷ more

-- a crash at any moment leaves the old blocks or the new ones, before the same frames
abbrev pub LeavesBefore : PaddingBefore → Comments → List ℕ → Timeline → Timeline → Type 0
LeavesBefore p new file old now =
    (front : List MarkedBlock) (more : List MarkedBlock) (rest : List MarkedBlock) (frames : List ℕ) (mark : Bool) → HasRun front (olds_before mark p.padding more) rest frames p.at (4 + p.padding + p.following) file
    → LeavesOnly old now (IsOldOrNew (front ++ (olds_before mark p.padding more ++ rest)) (front ++ (news_before p.padding p.following p.last new ++ rest)) frames)

-- the file has the new blocks now
abbrev pub HasNewBefore : PaddingBefore → Comments → List ℕ → List ℕ → Type 0
HasNewBefore p new file now =
    (front : List MarkedBlock) (more : List MarkedBlock) (rest : List MarkedBlock) (frames : List ℕ) (mark : Bool) → HasRun front (olds_before mark p.padding more) rest frames p.at (4 + p.padding + p.following) file
    → Reads (front ++ (news_before p.padding p.following p.last new ++ rest)) frames now

-- ---- padding after the comments

-- In place of this many bytes of blocks, and of padding after them: padding, the comments, and padding.
abbrev pub news_after : (preceding padding : ℕ) (last : Bool) → Comments → List MarkedBlock
news_after preceding padding last new = (false, block_of.Padding preceding) ∷ (false, block_of.VorbisComment new) ∷ (last, block_of.Padding (padding - (comments_length new + 8))) ∷ []

-- the run: the blocks before that padding, and it
abbrev pub olds_after : List MarkedBlock → (last : Bool) (padding : ℕ) → List MarkedBlock
olds_after heads last padding = heads ++ (last, block_of.Padding padding) ∷ []

abbrev pub LeavesAfter : PaddingAfter → Comments → List ℕ → Timeline → Timeline → Type 0
LeavesAfter p new file old now =
    (front : List MarkedBlock) (heads : List MarkedBlock) (rest : List MarkedBlock) (frames : List ℕ) → HasRun front (olds_after heads p.last p.padding) rest frames p.at (p.preceding + 4 + p.padding) file
    → LeavesOnly old now (IsOldOrNew (front ++ (olds_after heads p.last p.padding ++ rest)) (front ++ (news_after p.preceding p.padding p.last new ++ rest)) frames)

abbrev pub HasNewAfter : PaddingAfter → Comments → List ℕ → List ℕ → Type 0
HasNewAfter p new file now =
    (front : List MarkedBlock) (heads : List MarkedBlock) (rest : List MarkedBlock) (frames : List ℕ) → HasRun front (olds_after heads p.last p.padding) rest frames p.at (p.preceding + 4 + p.padding) file
    → Reads (front ++ (news_after p.preceding p.padding p.last new ++ rest)) frames now
