-- The seek table of a draft (RFC 9639, section 8.5): a place for its points comes before the first frame, and the points are written last.
use Rattle.std.specs.Prelude.{◌≡◌, ℕ, ◌+◌, ◌-◌, ◌/◌, min, Bool, cond, ◌&&◌, ◌||◌, nat_eq, nat_lt, List, [], ◌∷◌, ◌++◌, length, replicate, Option, Some, None, option_map}
use Rattle.std.specs.Option.{option_or}
use Rattle.flac_meta.specs.SeekTable.{placeholder}
use Rattle.flac_meta.specs.declared.block.Block.{Block}
use Rattle.flac_meta.specs.declared.seek_table.SeekPoint.{SeekPoint}
use Rattle.flac_native.specs.Given.{Cut, blocks_in, has_point, points_before, plan_fault}
use Rattle.flac_native.specs.Seeking.{table_of, has_table}
use Rattle.flac_native.specs.declared.fault.EncodeFault.{EncodeFault}
use Rattle.flac_native.specs.declared.fault.EncodeFault.TheVariants.{RepeatedBlock, Setup}
use Rattle.flac_encoder.specs.Pushing.{Shape, setup_fault}
use Rattle.flac_encoder.specs.declared.stream_format.StreamFormat.{StreamFormat}

-- How many samples of each channel were stated; the samples from one point to the next, 0 if there is no table; the points
-- of the frames so far, and how many bytes these frames have.
pub record Table : Type 0 where
  pub total : ℕ
  pub every : ℕ
  pub points : List SeekPoint
  pub bytes : ℕ

abbrev pub no_table : Table
no_table = record { total = 0; every = 0; points = []; bytes = 0 }

-- the table of a draft without a frame: none, if there is no point
abbrev pub table_for : (total every : ℕ) → Table
table_for total every = cond (nat_eq every 0) no_table (record { total = total; every = every; points = []; bytes = 0 })

-- ---- what is refused

-- a plan for as many samples of the format as were stated
abbrev pub cut_stated : Shape → (total every : ℕ) → Cut
cut_stated s total every = record {
  profile = s.profile;
  block_size = s.block_size;
  rate = s.rate;
  bits = s.bits;
  channels = s.channels;
  total = total;
  seek_every = every;
  predictors = [];
  found = [];
}

-- why no table can be reserved, if so: there is no such plan, or the list has a seek table
unfoldable pub table_fault : Shape → List Block → Table → Option EncodeFault
table_fault s list t =
    cond (nat_eq t.every 0) None
    (option_or (option_map Setup (plan_fault (cut_stated s t.total t.every))) (cond (has_table list) (Some RepeatedBlock) None))

-- the first reason why a draft is not begun
abbrev pub begin_fault : Shape → List Block → Table → Option EncodeFault
begin_fault s list t = option_or (setup_fault s) (table_fault s list t)

-- ---- the place for it

-- a point that names no frame (section 8.5.1)
abbrev pub vacant : SeekPoint
vacant = record { sample = placeholder; offset = 0; length = 0 }

-- as many of these as the table has points
abbrev pub reserved : (block_size : ℕ) → Table → List SeekPoint
reserved block_size t = replicate (points_before block_size t.total t.every (blocks_in block_size t.total)) vacant

-- the list, and after it the place for the table, if there is one
abbrev pub with_place : (block_size : ℕ) → Table → List Block → List Block
with_place block_size t list = list ++ table_of (reserved block_size t)

-- the same for the points of so many samples
abbrev pub list_for : StreamFormat → (total every : ℕ) → List Block → List Block
list_for format total every list = with_place format.block_size (table_for total every) list

-- ---- its points

-- the point of the frame whose first sample is `start`, if it has one; a block has room for 932067 (sections 8.1 and 8.5)
abbrev pub next_point : (block_size start : ℕ) → Table → List SeekPoint
next_point block_size start t =
    cond (nat_lt start t.total && (has_point block_size t.total t.every (start / block_size) && nat_lt (length t.points) 932067))
    (record { sample = start; offset = t.bytes; length = min block_size (t.total - start) } ∷ []) []

-- with the point of the next frame, and with its bytes
abbrev pub pointed : (block_size start : ℕ) → Table → Table
pointed block_size start t = record t { points = t.points ++ next_point block_size start t }

abbrev pub lengthened : (bytes : ℕ) → Table → Table
lengthened bytes t = record t { bytes = t.bytes + bytes }

-- the table is written for this number of samples: there is none, or it was stated
abbrev pub takes : Table → (samples : ℕ) → Bool
takes t samples = nat_eq t.every 0 || nat_eq samples t.total

-- what was stated stays
pub record StaysStated (old new : Table) : Type 0 where
  pub total : new.total ≡ old.total
  pub every : new.every ≡ old.every
