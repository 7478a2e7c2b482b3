-- An encoder that samples are pushed to, a block at a time, and the stream that it has written.
use Rattle.std.specs.Prelude.{◌≡◌, ◌⊎◌, ◌<◌, ◌≤◌, ℕ, suc, ◌+◌, ◌^◌, ℤ, Bool, true, false, not, cond, ◌||◌, nat_eq, nat_lt, nat_le, List, [], ◌∷◌, ◌++◌, length, map, Option, Some, None, option_map, Result, IfErr, ⊤}
use Rattle.std.specs.Borrow.{Bor}
use Rattle.std.specs.Option.{option_or}
use Rattle.flac_bits.specs.Bits.{bits_of}
use Rattle.flac_bits.specs.State.{Rises}
use Rattle.flac_bits.specs.Items.{Stream, state_after}
use Rattle.flac_bits.specs.declared.target.Target as target
use Rattle.flac_bits.specs.declared.why.Why.TheVariants.{Truncated}
use Rattle.flac_header.specs.declared.subset.Profile.{Profile}
use Rattle.flac_header.specs.declared.subset.Profile.TheVariants.{Subset}
use Rattle.flac_info.specs.Info.{Info, info_of_format}
use Rattle.flac_header.specs.Header.{allows_block}
use Rattle.flac_subframe.specs.declared.format.linear.LinearPredictor.{LinearPredictor}
use Rattle.flac_frame.specs.Audio.{Sound, samples_each, samples_fault}
use Rattle.flac_frame.specs.PlaneLists.{Lists}
use Rattle.flac_frame.specs.Frame.{Frame}
use Rattle.flac_frame.specs.declared.before.Before.{Before}
use Rattle.flac_frame.specs.Setup.{format_fault}
use Rattle.flac_frame.specs.declared.setup.SetupFault.{SetupFault}
use Rattle.flac_frame.specs.declared.setup.SetupFault.TheVariants.{BadChannels, TooLong, BadBlockSize}
use Rattle.flac_meta.specs.declared.block.Block.{Block}
use Rattle.flac_native.specs.Decoding.{beginning}
use Rattle.flac_native.specs.Given.{predictors_fault}
use Rattle.flac_native.specs.Stream.{Piece, framed, grammar, opening}
use Rattle.flac_native.specs.Stream as stream
use Rattle.flac_native.specs.Whole.{head_parts}
use Rattle.flac_native.specs.Writing.{SpellsFrame, SpellsLeast, SpellsLeastByPlane, head_spelling}
use Rattle.flac_native.specs.declared.fault.EncodeFault.{EncodeFault}
use Rattle.flac_predict.specs.Found.{IsFoundAfter}
use Rattle.flac_predict.specs.declared.search.Search.{Search}
use Rattle.flac_encoder.specs.declared.stream_format.StreamFormat.{StreamFormat}
use Rattle.flac_native.specs.declared.fault.EncodeFault.TheVariants.{Memory, BlockSize, Spent, Write, Setup}

-- ---- the format

-- the profile, the sample rate in Hz, the bits per sample, the channels, and the samples of each channel in a block
pub record Shape : Type 0 where
  pub profile : Profile
  pub rate : ℕ
  pub bits : ℕ
  pub channels : ℕ
  pub block_size : ℕ

-- Why nothing of a format can be encoded, if so: no samples of the rate, the depth and the channels can; or a block has
-- fewer than 16 samples (RFC 9639, section 8.2), or more than the profile allows at the rate (section 7).
unfoldable pub shape_fault : Shape → Option SetupFault
shape_fault s =
    option_or (format_fault s.profile s.rate s.bits s.channels)
    (cond (not (allows_block s.profile s.block_size s.rate)) (Some BadBlockSize) None)

abbrev pub shape_of : StreamFormat → Shape
shape_of f = record { profile = f.profile; rate = f.rate; bits = f.bits; channels = f.channels; block_size = f.block_size }

-- one of the streamable subset
abbrev pub subset_shape : (rate bits channels block_size : ℕ) → Shape
subset_shape rate bits channels block_size = record { profile = Subset; rate = rate; bits = bits; channels = channels; block_size = block_size }

-- that of a stream with this STREAMINFO: its blocks have the largest size that STREAMINFO states
abbrev pub shape_in : Profile → Info → Shape
shape_in profile info = record { profile = profile; rate = info.rate; bits = info.depth; channels = info.channels; block_size = info.greatest_block }

-- the error that says why
abbrev pub setup_fault : Shape → Option EncodeFault
setup_fault s = option_map Setup (shape_fault s)

-- STREAMINFO of a format; the sizes of the frames, the number of samples and the digest are unknown (section 8.2)
abbrev pub open_info : Shape → Info
open_info s = info_of_format s.block_size s.rate s.channels s.bits

-- ---- the encoder

-- The format; the linear predictors that are tried for the next frame beside the fixed ones; how far others are sought
-- for it, if they are; how many frames were pushed, which is the number of the next, and how many samples of each channel
-- they have; whether the last of them is shorter than the block size; whether the target has failed; and the target.
pub record Pushed (S : Type 0) : Type 0 where
  pub shape : Shape
  pub predictors : List LinearPredictor
  pub search : Option Search
  pub number : ℕ
  pub samples : ℕ
  pub ended : Bool
  pub spent : Bool
  pub target : S

-- nothing was pushed
abbrev pub unpushed : {S : Type 0} → Shape → S → Pushed S
unpushed shape t = record { shape = shape; predictors = []; search = None; number = 0; samples = 0; ended = false; spent = false; target = t }

abbrev pub IsUnpushed : {S : Type 0} → Shape → Pushed S → Type 0
IsUnpushed shape e = e ≡ unpushed shape e.target

-- one more block, of n samples, was pushed
abbrev pub after_block : {S : Type 0} → Pushed S → ℕ → S → Pushed S
after_block e n t = record e { number = e.number + 1; samples = e.samples + n; ended = nat_lt n e.shape.block_size; target = t }

abbrev pub IsAfterBlock : {S : Type 0} → (old : Pushed S) → List (List ℤ) → (new : Pushed S) → Type 0
IsAfterBlock old block new = new ≡ after_block old (samples_each block) new.target

-- the target has failed
abbrev pub spent_with : {S : Type 0} → Pushed S → S → Pushed S
spent_with e t = record e { spent = true; target = t }

abbrev pub IsSpent : {S : Type 0} → (old new : Pushed S) → Type 0
IsSpent old new = new ≡ spent_with old new.target

-- these predictors are tried from now on
abbrev pub trying : {S : Type 0} → Pushed S → List LinearPredictor → Pushed S
trying e ps = record e { predictors = ps }

-- predictors are sought for each block from now on, or no longer
abbrev pub searching : {S : Type 0} → Pushed S → Option Search → Pushed S
searching e search = record e { search = search }

-- why these predictors cannot be tried, if so
abbrev pub trying_fault : {S : Type 0} → Pushed S → List LinearPredictor → Option SetupFault
trying_fault e ps = predictors_fault e.shape.profile e.shape.rate ps

-- the same encoder with this target
abbrev pub with_target : {R S : Type 0} → Pushed R → S → Pushed S
with_target e t = record { shape = e.shape; predictors = e.predictors; search = e.search; number = e.number; samples = e.samples; ended = e.ended; spent = e.spent; target = t }

-- the samples of a block, channel by channel
abbrev pub block_channels : List (Bor (List ℤ)) → List (List ℤ)
block_channels block = map (λ c. c.now) block

-- Why a block does not have the format, if so: there is not one list of samples for each channel, or the samples cannot
-- be encoded.
unfoldable pub block_fault : (channels bits : ℕ) → List (List ℤ) → Option SetupFault
block_fault channels bits block =
    cond (not (nat_eq (length block) channels)) (Some BadChannels) (samples_fault bits block)

-- Why a block of n samples cannot be the next frame, if so: the number of samples has 36 bits (section 8.2) and a frame
-- number 31 (section 9.1.5); the block has a sample, and no more than the block size; and all blocks but the last have
-- the block size (section 9.1).
unfoldable pub size_fault : {S : Type 0} → Pushed S → ℕ → Option EncodeFault
size_fault e n =
    cond (nat_le (2 ^ 36) (e.samples + n) || nat_le (2 ^ 31) e.number) (Some (Setup TooLong))
    (cond (nat_eq n 0 || nat_lt e.shape.block_size n) (Some (Setup BadBlockSize))
    (cond e.ended (Some BlockSize) None))

-- The first reason why a block is refused, if there is one.
unfoldable pub push_fault : {S : Type 0} → Pushed S → List (List ℤ) → Option EncodeFault
push_fault e block =
    cond e.spent (Some Spent)
    (option_or (option_map Setup (block_fault e.shape.channels e.shape.bits block)) (size_fault e (samples_each block)))

-- The fault that is reported: the first reason, or if there is none, that memory ran out or that the target failed.
abbrev pub IsFirst : Option EncodeFault → EncodeFault → Type 0
IsFirst reason e = (reason ≡ Some e) ⊎ ((reason ≡ None) × ((e ≡ Memory) ⊎ (e ≡ Write)))

-- A target returned an error, and this is what is left of it: the error is counted, if the target was known or if the
-- count can rise, and it goes through the same references.
pub record Fails {S : Type 0} (g : target.Ghosts S) (old left : S) : Type 0 where
  pub failed : g.known old ≡ true → g.errors old < g.errors left
  pub risen : Rises (g.errors old) (g.errors left)
  pub names : g.names left ≡ g.names old

-- the same of a target that was to be sent these bits: it was sent a prefix of them
pub record FailsIn {S : Type 0} (g : target.Ghosts S) (text : List Bool) (old left : S) : Type 0 where
  pub fails : Fails g old left
  pub begun : g.known old ≡ true → (front : List Bool) × (rest : List Bool) × (text ≡ front ++ rest) × (bits_of (g.sent left) ≡ bits_of (g.sent old) ++ front)

-- it stays known
abbrev pub StaysKnown : {S : Type 0} → target.Ghosts S → (old new : Pushed S) → Type 0
StaysKnown g old new = g.known old.target ≡ true → g.known new.target ≡ true

-- ---- the stream

-- how many frames there are among items
abbrev pub frames_in : List Piece → ℕ
frames_in [] = 0
frames_in (stream.marked ∷ xs) = frames_in xs
frames_in (stream.block last b ∷ xs) = frames_in xs
frames_in (framed f ∷ xs) = suc (frames_in xs)

-- what the next frame has to follow: nothing, or frames of fixed blocking that are counted from 0, each of the block
-- size
abbrev pub due : (block_size number : ℕ) → Option Before
due block_size number = cond (nat_eq number 0) None (Some (record { first_size = block_size; variable = false; next = number; size = block_size }))

-- The stream of the encoder, which may end here: its STREAMINFO is that of the format, it has the frames and the
-- samples that were pushed, and as long as no block was short the next frame is still due.
pub record StandsFor {S : Type 0} (e : Pushed S) (items : List Piece) (text : List Bool) : Type 0 where
  pub stream : Stream grammar (opening e.shape.profile) (beginning Truncated) items text
  pub info : (state_after grammar (opening e.shape.profile) items).stand.info ≡ Some (open_info e.shape)
  pub frames : frames_in items ≡ e.number
  pub samples : (state_after grammar (opening e.shape.profile) items).samples ≡ e.samples
  pub before : e.ended ≡ false → (state_after grammar (opening e.shape.profile) items).stand.before ≡ due e.shape.block_size e.number

-- the stream is the same
abbrev pub KeepsStream : {S : Type 0} → (old new : Pushed S) → Type 0
KeepsStream old new = (items : List Piece) (text : List Bool) → StandsFor old items text → StandsFor new items text

-- the bytes are the marker, STREAMINFO of a format, and these blocks
abbrev pub IsNativeHead : Shape → List Block → List ℕ → Type 0
IsNativeHead shape list bytes = bits_of bytes ≡ head_spelling (open_info shape) list

-- the stream of an encoder that was just made: the marker, STREAMINFO of the format, and these blocks
abbrev pub StandsForHead : {S : Type 0} → Pushed S → List Block → Type 0
StandsForHead e list = StandsFor e (head_parts (open_info e.shape) list) (head_spelling (open_info e.shape) list)

-- the target was sent this stream, if it is known
abbrev pub SentHead : {S : Type 0} → target.Ghosts S → List Block → (old : S) → Pushed S → Type 0
SentHead g list old e = g.known old ≡ true → bits_of (g.sent e.target) ≡ bits_of (g.sent old) ++ head_spelling (open_info e.shape) list

-- with Write the target, of which this is left, was sent a prefix of that of the format, and returned an error
abbrev pub FailsHead : {S X : Type 0} → target.Ghosts S → Shape → List Block → (old : S) → Result X EncodeFault → Type 0
FailsHead {S} g shape list old result = IfErr result (λ e. e ≡ Write → (left : S) × FailsIn g (head_spelling (open_info shape) list) old left)

-- ---- a block

-- samples of the format
abbrev pub sound_of : Shape → List (List ℤ) → Sound
sound_of s block = record { profile = s.profile; rate = s.rate; bits = s.bits; channels = block }

-- the frame of a number that has exactly these samples
abbrev pub frame_with : (number : ℕ) → List (List ℤ) → Frame
frame_with number block = record { variable = false; number = number; size = samples_each block; channels = block }

-- the samples of a block, in a format
abbrev pub sound_in : StreamFormat → List (Bor (List ℤ)) → Sound
sound_in f block = sound_of (shape_of f) (block_channels block)

-- the bytes are the frame of a number that has all these samples
abbrev pub IsFrameAt : Sound → (number : ℕ) → List ℕ → Type 0
IsFrameAt a number bytes = SpellsFrame a (frame_with number a.channels) (bits_of bytes)

-- and no frame of its family, with these predictors, is shorter
abbrev pub IsLeastFrameAt : List LinearPredictor → Sound → (number : ℕ) → List ℕ → Type 0
IsLeastFrameAt ps a number bytes = SpellsLeast ps a (frame_with number a.channels) (bits_of bytes)

-- the same with the predictors of a list for each plane
abbrev pub IsLeastOfPlanesAt : Lists → Sound → (number : ℕ) → List ℕ → Type 0
IsLeastOfPlanesAt lists a number bytes = SpellsLeastByPlane lists a (frame_with number a.channels) (bits_of bytes)

-- The bits spell the shortest frame of a block of samples, if beside the fixed predictors these linear ones are tried,
-- and if there is a search, after them those that it found for each plane of the block.
abbrev pub SpellsLeastFound : Option Search → List LinearPredictor → Sound → Frame → (text : List Bool) → Type 0
SpellsLeastFound None ps a f text = SpellsLeast ps a f text
SpellsLeastFound (Some search) ps a f text = (lists : Lists) × ((plane : ℕ) → IsFoundAfter ps (lists plane)) × SpellsLeastByPlane lists a f text

-- the bytes are the shortest frame of a number that has all these samples, with what a search found
abbrev pub IsLeastFoundAt : Option Search → List LinearPredictor → Sound → (number : ℕ) → List ℕ → Type 0
IsLeastFoundAt search ps a number bytes = SpellsLeastFound search ps a (frame_with number a.channels) (bits_of bytes)

-- A search makes no frame longer.
abbrev pub FoundShorten : Type 0
FoundShorten = (search : Option Search) (ps : List LinearPredictor) (a : Sound) (f : Frame) (without after : List Bool) → SpellsLeast ps a f without
    → SpellsLeastFound search ps a f after → length after ≤ length without

-- The bits are the next frame: it has exactly the samples of the block, no frame of its family, with the predictors of
-- the encoder and those that its search found, is shorter, and the stream of the encoder is then the one before with the
-- frame as one more item.
pub record IsNext {S : Type 0} (old new : Pushed S) (block : List (List ℤ)) (text : List Bool) : Type 0 where
  pub spells : SpellsFrame (sound_of old.shape block) (frame_with old.number block) text
  pub least : SpellsLeastFound old.search old.predictors (sound_of old.shape block) (frame_with old.number block) text
  pub stands : (items : List Piece) (before : List Bool) → StandsFor old items before → StandsFor new (items ++ framed (frame_with old.number block) ∷ []) (before ++ text)

-- the bits are the next frame, which is then counted
abbrev pub IsNextFrame : Pushed ⊤ → List (List ℤ) → List Bool → Type 0
IsNextFrame e block text = IsNext e (after_block e (samples_each block) tt) block text

-- the target was sent the next frame, after what it had
pub record Pushes {S : Type 0} (g : target.Ghosts S) (block : List (List ℤ)) (old new : Pushed S) : Type 0 where
  pub text : List Bool
  pub next : IsNext old new block text
  pub sent : bits_of (g.sent new.target) ≡ bits_of (g.sent old.target) ++ text

-- the target was sent a prefix of the next frame
pub record BeginsPush {S : Type 0} (g : target.Ghosts S) (block : List (List ℤ)) (old new : Pushed S) : Type 0 where
  pub front : List Bool
  pub rest : List Bool
  pub next : IsNext old (after_block old (samples_each block) new.target) block (front ++ rest)
  pub sent : bits_of (g.sent new.target) ≡ bits_of (g.sent old.target) ++ front

-- if the target is known, it was sent the next frame
abbrev pub SentFrame : {S : Type 0} → target.Ghosts S → List (List ℤ) → (old new : Pushed S) → Type 0
SentFrame g block old new = g.known old.target ≡ true → Pushes g block old new

-- with Write it was sent a prefix of the next frame, if it is known
abbrev pub BegunFrame : {S : Type 0} → target.Ghosts S → List (List ℤ) → (old new : Pushed S) → EncodeFault → Type 0
BegunFrame g block old new e = e ≡ Write → g.known old.target ≡ true → BeginsPush g block old new
