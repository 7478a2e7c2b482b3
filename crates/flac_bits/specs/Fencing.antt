-- What a fence does to a reader.
use Rattle.std.specs.Prelude.{ℕ, ◌+◌, ◌*◌, List, Bool, ◌++◌, drop}
use Rattle.flac_bits.specs.State.{State, with_short, without_fence, short_of}
use Rattle.flac_bits.specs.Fence.{fenced}

-- all bits to come, those past a fence too
abbrev pub all_left : State → List Bool
all_left s = s.cursor.left ++ s.after.fenced

-- with no fence: the bits past it are to come again
abbrev pub lifted : State → State
lifted s = record s { after = without_fence s.after; cursor = record { left = all_left s; mark = with_short (short_of s.after.fails) s.cursor.mark } }

-- with a fence after the byte that was begun and n more bytes: the bits past it are not read
abbrev pub fence_at : ℕ → State → State
fence_at n s = record s { after = record s.after { fenced = drop (s.cursor.mark.unread + 8 * n) (all_left s) }; cursor = fenced n (lifted s).cursor }
