-- A stream: the marker, metadata blocks, and frames to the end of the input (RFC 9639, section 6).
use Rattle.std.specs.Prelude.{ℕ, ◌+◌, min, Bool, true, false, not, ◌&&◌, nat_eq, cond, List, [], ◌∷◌, ◌++◌, Option, Some, None, ⊤}
use Rattle.std.specs.List.{list_all}
use Rattle.std.specs.Str.{bytes_eq}
use Rattle.flac_bits.specs.Layout.{Layout, Rule, done, judge, refuse, ◌>>=◌, bits}
use Rattle.flac_bits.specs.Items.{Grammar}
use Rattle.flac_bits.specs.declared.why.Why.TheVariants.{BadMarker, NotStreamInfoFirst, TotalMismatch, Md5Mismatch}
use Rattle.flac_header.specs.declared.subset.Profile.{Profile}
use Rattle.flac_meta.specs.Header.{nothing_seen}
use Rattle.flac_meta.specs.Block.{block as block_layout, seen_after}
use Rattle.flac_info.specs.Info.{Info}
use Rattle.flac_meta.specs.declared.block.Seen.{Seen}
use Rattle.flac_meta.specs.declared.block.Block.{Block}
use Rattle.flac_meta.specs.declared.block.Block.TheVariants as blocks
use Rattle.flac_frame.specs.Frame.{Frame, frame as frame_layout, after_frame}
use Rattle.flac_frame.specs.declared.before.Before.{Before}
use Rattle.flac_native.specs.Message.{frame_message}
use Rattle.flac_native.specs.declared.fault.Place.{Place}
use Rattle.flac_native.specs.declared.fault.Place.TheVariants as place
use Rattle.flac_native.specs.declared.track.Phase.{Phase}
use Rattle.flac_native.specs.declared.track.Phase.TheVariants.{Opening, Blocks, Frames}
use Rattle.md5.specs.Md5.{md5}

-- One part of a stream. With a block goes whether it is marked as the last.
pub data Piece : Type 0 where
  marked : Piece
  block : Bool → Block → Piece
  framed : Frame → Piece

-- The profile by which frames are checked; which part comes next: its kind and its index; which kinds of blocks came,
-- STREAMINFO, and what the next frame has to follow.
pub record Stand : Type 0 where
  pub profile : Profile
  pub phase : Phase
  pub index : ℕ
  pub seen : Seen
  pub info : Option Info
  pub before : Option Before

-- The state after the parts so far: also the number of samples of each channel, and all samples as the MD5 input.
pub record Progress : Type 0 where
  pub stand : Stand
  pub samples : ℕ
  pub message : List ℕ

-- ---- the parts

-- the four bytes fLaC (section 6)
unfoldable pub marker : Layout ⊤
marker = do
  v ← bits 32
  judge (record { broken = not (nat_eq v 0x664C6143); why = BadMarker } ∷ [])

-- a frame of the format in STREAMINFO
unfoldable pub frame_after : Profile → Option Info → Option Before → Layout Frame
frame_after profile None before = refuse NotStreamInfoFirst
frame_after profile (Some info) before = frame_layout profile info before

abbrev pub layout_in : Phase → Stand → Layout Piece
layout_in Opening s = do
  _ ← marker
  done marked
layout_in Blocks s = do
  b ← block_layout s.seen
  done (block b.0 b.1)
layout_in Frames s = do
  f ← frame_after s.profile s.info s.before
  done (framed f)

unfoldable pub layout : Stand → Layout Piece
layout s = layout_in s.phase s

-- ---- the state after a part

-- the next index, which stops at 2^64 - 1
abbrev pub raised : ℕ → ℕ
raised n = min (n + 1) 18446744073709551615

-- STREAMINFO is kept, and the frames begin after it
abbrev pub info_after : Option Info → Block → Option Info
info_after info (blocks.StreamInfo i) = Some i
info_after info other = info

abbrev pub before_after_block : Option Before → Block → Option Before
before_after_block before (blocks.StreamInfo i) = None
before_after_block before other = before

abbrev pub phase_after : Bool → Phase
phase_after true = Frames
phase_after false = Blocks

abbrev pub stand_after : Stand → Piece → Stand
stand_after s marked = record s { phase = Blocks }
stand_after s (block last b) = record s { phase = phase_after last; index = cond last 0 (raised s.index); seen = seen_after s.seen b; info = info_after s.info b; before = before_after_block s.before b }
stand_after s (framed f) = record s { index = raised s.index; before = Some (after_frame s.before f) }

-- the samples of each channel that a part adds
abbrev pub samples_in : Piece → ℕ
samples_in marked = 0
samples_in (block last b) = 0
samples_in (framed f) = f.size

-- and its samples as bytes, of the depth in STREAMINFO
abbrev pub depth_in : Option Info → ℕ
depth_in None = 0
depth_in (Some i) = i.depth

abbrev pub message_in : Option Info → Piece → List ℕ
message_in info marked = []
message_in info (block last b) = []
message_in info (framed f) = frame_message (depth_in info) f

abbrev pub next : Progress → Piece → Progress
next p x = record { stand = stand_after p.stand x; samples = p.samples + samples_in x; message = p.message ++ message_in p.stand.info x }

-- ---- the end

-- a digest of zeros is unknown
abbrev pub is_unknown : List ℕ → Bool
is_unknown digest = list_all (λ b. nat_eq b 0) digest

-- STREAMINFO has the number of samples, 0 if it is unknown, and the digest of all of them (section 8.2).
unfoldable pub end_rules : Option Info → ℕ → List ℕ → List Rule
end_rules None samples message = []
end_rules (Some i) samples message =
    record { broken = not (nat_eq i.total 0) && not (nat_eq i.total samples); why = TotalMismatch } ∷
    record { broken = not (is_unknown i.digest) && not (bytes_eq i.digest (md5 message)); why = Md5Mismatch } ∷ []

-- ---- the grammar

-- the input may end after the blocks, of which STREAMINFO is the first
abbrev pub may_end_in : Phase → Option Info → Bool
may_end_in Opening info = false
may_end_in Blocks info = false
may_end_in Frames None = false
may_end_in Frames (Some i) = true

abbrev pub place_in : Phase → ℕ → Place
place_in Opening index = place.Marker
place_in Blocks index = place.Block index
place_in Frames index = place.Frame index

-- a frame has at most 16777215 bytes: STREAMINFO has the sizes of frames in 24 bits (section 8.2)
abbrev pub room_in : Phase → Option ℕ
room_in Opening = None
room_in Blocks = None
room_in Frames = Some 16777215

abbrev pub grammar : Grammar Progress Piece Place
grammar = record {
  layout = λ p. layout p.stand;
  room = λ p. room_in p.stand.phase;
  next = next;
  may_end = λ p. may_end_in p.stand.phase p.stand.info;
  at_end = λ p. end_rules p.stand.info p.samples p.message;
  place = λ p. place_in p.stand.phase p.stand.index;
  end_place = place.End;
}

-- before the first part of a stream that is read by a profile
abbrev pub opening : Profile → Progress
opening profile = record { stand = record { profile = profile; phase = Opening; index = 0; seen = nothing_seen; info = None; before = None }; samples = 0; message = [] }
