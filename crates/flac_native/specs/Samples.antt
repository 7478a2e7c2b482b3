-- The samples of a stream as bytes: interleaved channel by channel, signed little-endian, each sign-extended to as many
-- bytes as are asked for. If none are, they are the bytes whose MD5 STREAMINFO states (RFC 9639, section 8.2).
use Rattle.std.specs.Prelude.{ℕ, cond, nat_eq, List, [], ◌∷◌, ◌++◌}
use Rattle.flac_meta.specs.declared.block.Block.{Block}
use Rattle.flac_meta.specs.declared.block.Block.TheVariants.{StreamInfo}
use Rattle.flac_frame.specs.Frame.{Frame}
use Rattle.flac_native.specs.Item.{Item, metadata, frame}
use Rattle.flac_native.specs.Message.{sample_width, rows_bytes}
use Rattle.flac_native.specs.Stream.{Piece, marked, block, framed}

-- how many bytes a sample has: as many as are asked for; if none are, the fewest that hold its bits
abbrev pub width_of : (asked depth : ℕ) → ℕ
width_of asked depth = cond (nat_eq asked 0) (sample_width depth) asked

-- how many bits a sample has after this block (RFC 9639, section 8.2)
abbrev pub depth_after : ℕ → Block → ℕ
depth_after depth (StreamInfo info) = info.depth
depth_after depth other = depth

-- the samples of a frame
abbrev pub frame_bytes : (asked depth : ℕ) → Frame → List ℕ
frame_bytes asked depth f = rows_bytes (width_of asked depth) f.channels f.size 0

-- the samples of all frames, after blocks that state this depth
abbrev pub samples_from : (asked depth : ℕ) → List Piece → List ℕ
samples_from asked depth [] = []
samples_from asked depth (marked ∷ xs) = samples_from asked depth xs
samples_from asked depth (block last b ∷ xs) = samples_from asked (depth_after depth b) xs
samples_from asked depth (framed f ∷ xs) = frame_bytes asked depth f ++ samples_from asked depth xs

-- the depth after one item, and its samples
abbrev pub depth_after_item : ℕ → Item → ℕ
depth_after_item depth (metadata b) = depth_after depth b
depth_after_item depth (frame f) = depth

abbrev pub samples_in : (asked depth : ℕ) → Item → List ℕ
samples_in asked depth (metadata b) = []
samples_in asked depth (frame f) = frame_bytes asked depth f
