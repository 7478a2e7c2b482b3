-- What encoding writes, and that it is a stream of what was given.
use Rattle.std.specs.Prelude.{◌≡◌, ℕ, ◌*◌, ◌<◌, ◌≤◌, Bool, true, List, [], ◌∷◌, ◌++◌, length, slice_index_or, None, Result, IfErr}
use Rattle.flac_bits.specs.Bits.{unsigned, is_nil, bits_of}
use Rattle.flac_bits.specs.Forms.{joined}
use Rattle.flac_bits.specs.Items.{Stream}
use Rattle.flac_bits.specs.declared.target.Target as target
use Rattle.flac_bits.specs.declared.why.Why.TheVariants.{Truncated}
use Rattle.flac_info.specs.Info.{Info}
use Rattle.flac_meta.specs.Listed.{list_fault, info_seen}
use Rattle.flac_meta.specs.Spelling.{block_spelling}
use Rattle.flac_meta.specs.Valid.{AllAre, FitsFields}
use Rattle.flac_meta.specs.declared.seek_table.SeekPoint.{SeekPoint}
use Rattle.flac_meta.specs.declared.block.Block.{Block}
use Rattle.flac_meta.specs.declared.block.Block.TheVariants as blocks
use Rattle.flac_frame.specs.Audio.{Sound, samples_each}
use Rattle.flac_subframe.specs.declared.format.linear.LinearPredictor.{LinearPredictor}
use Rattle.flac_frame.specs.Chosen.{IsChoiceByPlane}
use Rattle.flac_frame.specs.Encoding.{IsEncoding, IsLeastByPlane}
use Rattle.flac_frame.specs.declared.frame_choice.FrameChoice.{FrameChoice}
use Rattle.flac_frame.specs.Frame.{Frame}
use Rattle.flac_frame.specs.PlaneLists.{Lists, same_list}
use Rattle.flac_frame.specs.Spelling.{FrameForm, frame_spelling}
use Rattle.flac_native.specs.Decoding.{beginning}
use Rattle.flac_native.specs.Stream.{grammar, opening}
use Rattle.flac_native.specs.Given.{Cut, tried, fits_plan, blocks_in, plan_fault, info_of, sound_message, frame_of, given}
use Rattle.flac_native.specs.Seeking.{points_of, table_of}
use Rattle.flac_native.specs.declared.fault.EncodeFault.{EncodeFault}
use Rattle.flac_native.specs.declared.fault.EncodeFault.TheVariants as encode
use Rattle.md5.specs.Md5.{md5}

-- ---- frames

-- The bits spell a frame of a block of samples in at most 16777215 bytes, the largest size that STREAMINFO can have
-- (RFC 9639, section 8.2).
pub record SpellsFrame (a : Sound) (f : Frame) (text : List Bool) : Type 0 where
  pub form : FrameForm
  pub encoding : IsEncoding a f.size f.number f.channels form
  pub spelling : text ≡ frame_spelling a.bits form
  pub short : length text ≤ 8 * 16777215

-- a frame for each block of the samples
pub record AreFrames (p : Cut) (a : Sound) (frames : List (List Bool)) : Type 0 where
  pub many : length frames ≡ blocks_in p.block_size (samples_each a.channels)
  pub each : (i : ℕ) → i < length frames → SpellsFrame a (frame_of p.block_size a i) (slice_index_or frames i [])

-- the bits spell the shortest frame of a block of samples, if beside the fixed predictors the linear ones of a plane's
-- list are tried for the plane
pub record SpellsLeastByPlane (lists : Lists) (a : Sound) (f : Frame) (text : List Bool) : Type 0 where
  pub form : FrameForm
  pub least : IsLeastByPlane lists a f.size f.number f.channels form
  pub spelling : text ≡ frame_spelling a.bits form

-- the same with one list for all planes
abbrev pub SpellsLeast : List LinearPredictor → Sound → Frame → (text : List Bool) → Type 0
SpellsLeast ps = SpellsLeastByPlane (same_list ps)

-- each frame is the shortest of its block, with the plan's predictors for each of its planes
abbrev pub AreLeastFrames : Cut → Sound → List (List Bool) → Type 0
AreLeastFrames p a frames = (i : ℕ) → i < length frames → SpellsLeastByPlane (tried p i) a (frame_of p.block_size a i) (slice_index_or frames i [])

-- the smallest and the largest size of the frames in bytes, 0 if there is no frame
pub record AreSizes (frames : List (List Bool)) (least greatest : ℕ) : Type 0 where
  pub none : length frames ≡ 0 → (least ≡ 0) × (greatest ≡ 0)
  pub least_is : 0 < length frames → (i : ℕ) × (i < length frames) × (length (slice_index_or frames i []) ≡ 8 * least)
  pub greatest_is : 0 < length frames → (i : ℕ) × (i < length frames) × (length (slice_index_or frames i []) ≡ 8 * greatest)
  pub within : (i : ℕ) → i < length frames → (8 * least ≤ length (slice_index_or frames i [])) × (length (slice_index_or frames i []) ≤ 8 * greatest)

-- ---- the whole

-- blocks, of which the last is marked
abbrev pub blocks_spelling : List Block → List Bool
blocks_spelling [] = []
blocks_spelling (b ∷ bs) = block_spelling (is_nil bs) b ++ blocks_spelling bs

-- before the frames: the marker fLaC (section 6), STREAMINFO and the blocks
abbrev pub head_spelling : Info → List Block → List Bool
head_spelling info list = unsigned 32 0x664C6143 ++ blocks_spelling (blocks.StreamInfo info ∷ list)

-- all of it, and the frames
abbrev pub stream_spelling : Cut → List Block → Sound → (least greatest : ℕ) → List (List Bool) → List Bool
stream_spelling p list a least greatest frames =
    unsigned 32 0x664C6143 ++ (blocks_spelling (blocks.StreamInfo (info_of p a least greatest) ∷ list) ++ joined frames)

-- What is written is a stream of what was given, and of the plan's profile, for samples that a plan was made for and
-- blocks that may follow STREAMINFO.
abbrev pub EncodedAreStreams : Type 0
EncodedAreStreams =
    (p : Cut) (list : List Block) (a : Sound) (least greatest : ℕ) (frames : List (List Bool)) → plan_fault p ≡ None → fits_plan p a ≡ true → list_fault info_seen list ≡ None → AllAre FitsFields list
    → AreFrames p a frames → AreSizes frames least greatest
    → Stream grammar (opening p.profile) (beginning Truncated) (given p list a least greatest) (stream_spelling p list a least greatest frames)

-- what is known of the frames of the samples before they are written: each is the shortest of its block, these are the
-- smallest and the largest size in bytes, and these are their points
pub record AreCounted (p : Cut) (a : Sound) (least greatest : ℕ) (points : List SeekPoint) : Type 0 where
  pub frames : List (List Bool)
  pub are : AreFrames p a frames
  pub are_least : AreLeastFrames p a frames
  pub sizes : AreSizes frames least greatest
  pub pointed : points ≡ points_of p frames

-- these bytes are the digest of all samples (RFC 9639, section 8.2)
abbrev pub IsDigest : Sound → List ℕ → Type 0
IsDigest a digest = digest ≡ md5 (sound_message a)

-- the bits are those of the shortest frame of a number, of at most 16777215 bytes
pub record IsSpelled (p : Cut) (a : Sound) (number : ℕ) (text : List Bool) : Type 0 where
  pub frame : SpellsFrame a (frame_of p.block_size a number) text
  pub least : SpellsLeastByPlane (tried p number) a (frame_of p.block_size a number) text

-- it was chosen how the frame of a number is written
pub record IsChoiceOf (p : Cut) (a : Sound) (number : ℕ) (c : FrameChoice) : Type 0 where
  pub chosen : IsChoiceByPlane (tried p number) a (frame_of p.block_size a number).size number (frame_of p.block_size a number).channels c
  pub places : length a.channels ≤ length c.subframes.items

-- these are the choices of the first frames
abbrev pub AreChoices : Cut → Sound → List FrameChoice → Type 0
AreChoices p a choices = (i : ℕ) (c : FrameChoice) → i < length choices → c ≡ slice_index_or choices i c → IsChoiceOf p a i c

-- `places` bytes hold any frame: the shortest frames are no longer than that
pub record HasRoom (p : Cut) (a : Sound) (places : ℕ) : Type 0 where
  pub frames : List (List Bool)
  pub are : AreFrames p a frames
  pub are_least : AreLeastFrames p a frames
  pub within : (i : ℕ) → i < length frames → length (slice_index_or frames i []) ≤ 8 * places

-- After the bits that were there, a stream of what was given was written: all frames of the samples, each the shortest
-- of its block, whose smallest and largest sizes are in STREAMINFO. The last block is the seek table of the frames, if
-- one has a point.
pub record Encodes (p : Cut) (list : List Block) (a : Sound) (before after : List Bool) : Type 0 where
  pub least : ℕ
  pub greatest : ℕ
  pub frames : List (List Bool)
  pub are : AreFrames p a frames
  pub are_least : AreLeastFrames p a frames
  pub sizes : AreSizes frames least greatest
  pub written : after ≡ before ++ stream_spelling p (list ++ table_of (points_of p frames)) a least greatest frames
  pub stream : Stream grammar (opening p.profile) (beginning Truncated) (given p (list ++ table_of (points_of p frames)) a least greatest)
      (stream_spelling p (list ++ table_of (points_of p frames)) a least greatest frames)

-- What was written is a prefix of such a stream, after the bits that were there.
pub record BeginsEncoding (p : Cut) (list : List Block) (a : Sound) (before after : List Bool) : Type 0 where
  pub front : List Bool
  pub rest : List Bool
  pub written : after ≡ before ++ front
  pub encodes : Encodes p list a before (before ++ (front ++ rest))

-- ---- a target, `old` before a call and `new` after it, if its bytes are known

-- it was sent such a stream
abbrev pub SendsEncoded : {T : Type 0} → target.Ghosts T → Cut → List Block → Sound → T → T → Type 0
SendsEncoded h p list a old new = h.known old ≡ true → Encodes p list a (bits_of (h.sent old)) (bits_of (h.sent new))

-- it was sent a prefix of one
abbrev pub SendsEncodedPrefix : {T : Type 0} → target.Ghosts T → Cut → List Block → Sound → T → T → Type 0
SendsEncodedPrefix h p list a old new = h.known old ≡ true → BeginsEncoding p list a (bits_of (h.sent old)) (bits_of (h.sent new))

-- this holds if the target failed
abbrev pub IfUnwritten : {X : Type 0} → Result X EncodeFault → Type 0 → Type 0
IfUnwritten result Says = IfErr result (λ e. e ≡ encode.Write → Says)
