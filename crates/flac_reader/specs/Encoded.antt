-- The frames of an encoded stream by their offsets, and which frames a reader finds that seeks a sample in it
-- (RFC 9639, sections 8.5 and 9.1.5).
use Rattle.std.specs.Prelude.{◌≡◌, ◌≢◌, ◌≤◌, ◌<◌, ◌^◌, ℕ, ◌+◌, ◌-◌, ◌*◌, ◌/◌, true, false, nat_lt, cond, List, [], ◌∷◌, ◌++◌, length, take, None, Result, Ok, Err}
use Rattle.flac_bits.specs.Bits.{bits_of}
use Rattle.flac_bits.specs.Forms.{joined}
use Rattle.flac_bits.specs.Handing.{by_grammar}
use Rattle.flac_bits.specs.declared.why.Why.TheVariants.{Memory, Truncated}
use Rattle.flac_info.specs.Info.{Info}
use Rattle.flac_meta.specs.Valid.{AllAre}
use Rattle.flac_meta.specs.declared.seek_table.SeekPoint.{SeekPoint}
use Rattle.flac_meta.specs.declared.block.Block.{Block}
use Rattle.flac_meta.specs.declared.block.Block.TheVariants as blocks
use Rattle.flac_frame.specs.Audio.{Sound}
use Rattle.flac_frame.specs.Frame.{Frame}
use Rattle.flac_native.specs.Decoding.{beginning}
use Rattle.flac_native.specs.Stream.{grammar, opening}
use Rattle.flac_native.specs.Given.{Cut, fits_plan, plan_fault, info_of, frames_from}
use Rattle.flac_native.specs.Seeking.{points_of, table_of, has_table}
use Rattle.flac_native.specs.Writing.{Encodes}
use Rattle.flac_native.specs.Giving.{stage_of}
use Rattle.flac_native.specs.declared.fault.Fault.{Fault}
use Rattle.flac_native.specs.declared.container.Container as container
use Rattle.flac_reader.specs.Kept.{first_points}
use Rattle.flac_reader.specs.Starting.{frames_start}
use Rattle.flac_reader.specs.Coming.{FramesCome}
use Rattle.flac_reader.specs.Opening.{Opens}
use Rattle.flac_reader.specs.Seeking.{offset_before, search_start, Cuts, SeeksFrames}
use Rattle.flac_reader.specs.declared.keep.Keep.{Keep}
use Rattle.flac_reader.specs.declared.reader.Reader.{Reader}

-- ---- an encoded stream

-- These bytes are what encoding writes of these blocks and samples, by a plan that was made for the samples; they are
-- counted in 64 bits.
pub record IsEncoded (p : Cut) (list : List Block) (a : Sound) (stream : List ℕ) : Type 0 where
  pub planned : plan_fault p ≡ None
  pub fits : fits_plan p a ≡ true
  pub written : Encodes p list a [] (bits_of stream)
  pub few : length stream < 2 ^ 64

abbrev pub stream_info : {p : Cut} {list : List Block} {a : Sound} {stream : List ℕ} → IsEncoded p list a stream → Info
stream_info {p = p} {a = a} e = info_of p a e.written.least e.written.greatest

-- its metadata blocks: STREAMINFO, the given ones, and the seek table of the frames, if one has a point
abbrev pub all_blocks : {p : Cut} {list : List Block} {a : Sound} {stream : List ℕ} → IsEncoded p list a stream → List Block
all_blocks {p = p} {list = list} e = blocks.StreamInfo (stream_info e) ∷ (list ++ table_of (points_of p e.written.frames))

-- how many frames it has
abbrev pub frame_count : {p : Cut} {list : List Block} {a : Sound} {stream : List ℕ} → IsEncoded p list a stream → ℕ
frame_count e = length e.written.frames

-- its frames from the one of a number on
abbrev pub frames_at : {p : Cut} {list : List Block} {a : Sound} {stream : List ℕ} → IsEncoded p list a stream → ℕ → List Frame
frames_at {p = p} {a = a} e number = frames_from p.block_size a (frame_count e - number) number

-- how many bytes the frames before that one have
abbrev pub bytes_before : {p : Cut} {list : List Block} {a : Sound} {stream : List ℕ} → IsEncoded p list a stream → ℕ → ℕ
bytes_before e number = length (joined (take number e.written.frames)) / 8

-- ---- its cuts

-- It is cut at each of its frames, and after the last.
abbrev pub FramesAreCut : Type 0
FramesAreCut = (p : Cut) (list : List Block) (a : Sound) (stream : List ℕ) (e : IsEncoded p list a stream) (number : ℕ) → number ≤ frame_count e
    → Cuts p.profile stream (stream_info e) (frames_start (all_blocks e) + bytes_before e number) (frames_at e number)

-- It is cut at the offset of a point: there the frame comes whose first sample the point names.
pub record IsCutAt {p : Cut} {list : List Block} {a : Sound} {stream : List ℕ} (e : IsEncoded p list a stream) (x : SeekPoint) : Type 0 where
  pub number : ℕ
  pub among : number < frame_count e
  pub sample : x.sample ≡ p.block_size * number
  pub cuts : Cuts p.profile stream (stream_info e) (frames_start (all_blocks e) + x.offset) (frames_at e number)

-- This holds at each point of its seek table.
abbrev pub PointsAreCut : Type 0
PointsAreCut = (p : Cut) (list : List Block) (a : Sound) (stream : List ℕ) (e : IsEncoded p list a stream) → AllAre (IsCutAt e) (points_of p e.written.frames)

-- ---- what a reader of it finds

-- If a sample is sought by these points, the stream is cut at a frame that begins at or before the sample: that of the
-- point, or the first.
pub record IsSoughtFrom {p : Cut} {list : List Block} {a : Sound} {stream : List ℕ} (e : IsEncoded p list a stream) (info : Info) (start sample : ℕ) (points : List SeekPoint) : Type 0 where
  pub number : ℕ
  pub among : number ≤ frame_count e
  pub offset : offset_before sample points ≡ bytes_before e number
  pub first : p.block_size * number ≤ sample
  pub cuts : Cuts p.profile stream info (search_start start sample points) (frames_at e number)

-- This holds for each reader that opened the stream in the plan's profile, whichever blocks it keeps, if no seek table
-- was among the given blocks.
abbrev pub SearchesAreCut : {C : Type 0} → container.Ghosts C → Type 0
SearchesAreCut {C = C} g = (p : Cut) (list : List Block) (a : Sound) (stream : List ℕ) (e : IsEncoded p list a stream) (keep : Keep) (reader : Reader C g) (sample : ℕ) → has_table list ≡ false
    → Opens (by_grammar grammar (opening p.profile) (beginning Truncated) (bits_of stream)) keep reader → IsSoughtFrom e reader.info reader.start sample (first_points reader.blocks.items)

-- the frames from the one on that holds a sample; none if the stream has fewer samples
abbrev pub frames_holding : {p : Cut} {list : List Block} {a : Sound} {stream : List ℕ} → IsEncoded p list a stream → ℕ → List Frame
frames_holding {p = p} e sample = cond (nat_lt sample p.total) (frames_at e (sample / p.block_size)) []

-- A reader returns exactly these frames, and then the end of the stream; or memory ran out.
abbrev pub GivesFrames : {D : Type 0} {h : container.Ghosts D} → List Frame → Result (Reader D h) Fault → Type 0
GivesFrames {h = h} frames (Ok reader) = FramesCome h reader.ahead (stage_of reader.decoder) frames None
GivesFrames frames (Err f) = f.why ≢ Memory → ⊥

-- What such a reader seeks in the bytes of the stream in that profile, as the clause `whole` of `Reader::seek_in` says
-- it, is found: the frame that holds the sample comes next, and then all later frames.
abbrev pub SamplesAreFound : {C D : Type 0} → container.Ghosts C → container.Ghosts D → Type 0
SamplesAreFound {C = C} {D = D} g h = (p : Cut) (list : List Block) (a : Sound) (stream : List ℕ) (e : IsEncoded p list a stream) (keep : Keep) (reader : Reader C g) (sample : ℕ) (result : Result (Reader D h) Fault) → has_table list ≡ false
    → Opens (by_grammar grammar (opening p.profile) (beginning Truncated) (bits_of stream)) keep reader
    → ((frames : List Frame) → Cuts p.profile stream reader.info (search_start reader.start sample (first_points reader.blocks.items)) frames → SeeksFrames reader.info sample frames result)
    → GivesFrames (frames_holding e sample) result
