-- The seek table of frames (RFC 9639, section 8.5): a point for each frame that holds a multiple of the plan's number
-- of samples.
use Rattle.std.specs.Prelude.{ℕ, ◌+◌, ◌*◌, ◌/◌, Bool, true, false, cond, ◌&&◌, ◌||◌, nat_lt, List, [], ◌∷◌, ◌++◌, length}
use Rattle.flac_meta.specs.declared.seek_table.SeekPoint.{SeekPoint}
use Rattle.flac_meta.specs.declared.block.Block.{Block}
use Rattle.flac_meta.specs.declared.block.Block.TheVariants as blocks
use Rattle.flac_native.specs.Given.{Cut, size_of, has_point}

-- the point of the frame of a number, which begins `offset` bytes after the first byte of the first frame, if it has
-- one (section 8.5.1)
abbrev pub point_at : Cut → (number offset : ℕ) → List SeekPoint
point_at p number offset =
    cond (has_point p.block_size p.total p.seek_every number) (record { sample = p.block_size * number; offset = offset; length = size_of p.block_size p.total number } ∷ []) []

-- the points of frames from a number on, by the bits of each
abbrev pub points_from : Cut → (number offset : ℕ) → List (List Bool) → List SeekPoint
points_from p number offset [] = []
points_from p number offset (t ∷ ts) = point_at p number offset ++ points_from p (number + 1) (offset + length t / 8) ts

-- the points of all frames
abbrev pub points_of : Cut → List (List Bool) → List SeekPoint
points_of p frames = points_from p 0 0 frames

-- the block of these points, if there are any
abbrev pub table_of : List SeekPoint → List Block
table_of [] = []
table_of (x ∷ xs) = blocks.SeekTable (x ∷ xs) ∷ []

abbrev pub is_table : Block → Bool
is_table (blocks.SeekTable points) = true
is_table b = false

-- a list has a seek table
abbrev pub has_table : List Block → Bool
has_table [] = false
has_table (b ∷ bs) = is_table b || has_table bs

-- a list has a seek table, and the plan asks for one
abbrev pub repeats_table : Cut → List Block → Bool
repeats_table p list = nat_lt 0 p.seek_every && has_table list
