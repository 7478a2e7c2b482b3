-- WAV files: which stream keeps one, and which file a stream becomes.
use Rattle.std.specs.Prelude.{◌≡◌, ℕ, ◌+◌, ◌*◌, ◌/◌, ◌-◌, Bool, true, not, ◌&&◌, cond, nat_lt, nat_eq, List, [], ◌∷◌, ◌++◌, ◌⊎◌, length, map, bit_xor, Vec, Option, Some, None}
use Rattle.std.specs.Global.{Global}
use Rattle.byteorder.specs.Endian.{little_number}
use Rattle.flac_bits.specs.Bits.{bits_of}
use Rattle.flac_bits.specs.Forms.{AreBytes}
use Rattle.flac_meta.specs.declared.block.Block.{Block}
use Rattle.flac_meta.specs.declared.block.Block.TheVariants as block_of
use Rattle.flac_frame.specs.Audio.{Sound}
use Rattle.flac_subframe.specs.declared.format.linear.LinearPredictor.{LinearPredictor}
use Rattle.flac_native.specs.Message.{sample_width}
use Rattle.flac_native.specs.Samples.{depth_after}
use Rattle.flac_native.specs.Stream.{Piece, marked, block, framed}
use Rattle.flac_ogg.specs.Verifying.{bytes_reading}
use Rattle.flac_wave.specs.Kept.{bits_in, are_file}
use Rattle.flac_wave.specs.Plain.{plain_format, plain_pieces, other_mask}
use Rattle.flac_wave.specs.Shift.{raised, lowered, wave_width_of, depth_in, AreBytes as AreSmall}
use Rattle.flac_wave.specs.Wave.{Parts, IsWave, ArePiecesAfter, restored}
use Rattle.flac_wave.specs.declared.format.WaveFormat.{WaveFormat}
use Rattle.flac_cli.specs.Asked.{Asked}
use Rattle.flac_cli.specs.Encoded.{EncodesIn, BeginsIn, AreFound, comment_list, cut_found, parts_in}
use Rattle.flac_cli.specs.Predictors.{AreListed}
use Rattle.flac_raw.specs.Raw.{IsRaw}
use Rattle.flac_cli.specs.Samples.{all_samples}
use Rattle.flac_cli.specs.Speakers.{mask_in, words_with}
use Rattle.flac_cli.specs.Streams.{profile_of}
use Rattle.flac_cli.specs.declared.dispatch.Task.{Task}
use Rattle.flac_cli.specs.declared.held_wave.KeptFault.{KeptFault}
use Rattle.flac_cli.specs.declared.held_wave.KeptFault.TheVariants as kept
use Rattle.flac_jobs.specs.declared.formats.RawFormat.{RawFormat}
use Rattle.flac_jobs.specs.declared.jobs.Job.{Job}
use Rattle.flac_jobs.specs.declared.jobs.Job.TheVariants as job

-- ---- samples

-- the other form of a byte: as unsigned number, or in two's complement, which differ in the highest bit
abbrev pub turned : ℕ → ℕ
turned byte = bit_xor byte 128

-- The samples of a WAV file as raw samples of this depth, or raw samples as those of a file: samples of up to 8 bits
-- are unsigned in a WAV file, and the others the same.
abbrev pub wave_samples : (depth : ℕ) → List ℕ → List ℕ
wave_samples depth samples = cond (nat_lt depth 9) (map turned samples) samples

-- Samples of `depth` bits as the highest bits of `wide` bytes each, where these have more bits: the bits below are
-- zeros.
abbrev pub high_samples : (wide depth : ℕ) → List ℕ → List ℕ
high_samples wide depth samples =
    cond (nat_eq depth (8 * wide)) samples (raised (sample_width depth) wide (8 * wide - depth) (length samples / sample_width depth) samples)

-- the samples of a stream as those of a WAV file, of `wide` bytes each
abbrev pub file_samples : (wide depth : ℕ) → List ℕ → List ℕ
file_samples wide depth samples = wave_samples (8 * wide) (high_samples wide depth samples)

-- and back: the highest `depth` bits of `wide` bytes each, without the bits below
abbrev pub low_samples : (wide depth : ℕ) → List ℕ → List ℕ
low_samples wide depth samples =
    cond (nat_eq depth (8 * wide)) samples (lowered wide (sample_width depth) (8 * wide - depth) (length samples / wide) samples)

-- the samples of a WAV file, of `wide` bytes each, as those of a stream
abbrev pub stream_samples : (wide depth : ℕ) → List ℕ → List ℕ
stream_samples wide depth samples = low_samples wide depth (wave_samples (8 * wide) samples)

-- How many bits a stream's samples have that are those of a file: the bits that count, if a frame header states their
-- number (RFC 9639, section 9.1.4) and all bits below them are zeros; else all bits of their bytes.
abbrev pub depth_for : Parts → ℕ
depth_for file = depth_in file.format file.samples

-- the samples of a file as those of a stream of this depth
abbrev pub samples_for : Parts → List ℕ
samples_for file = stream_samples (wave_width_of file.format) (depth_for file) file.samples

-- ---- the file that a stream keeps

-- the identifier `riff` of an APPLICATION block (RFC 9639, section 8.4)
abbrev pub riff : List ℕ
riff = 114 ∷ 105 ∷ 102 ∷ 102 ∷ []

abbrev pub is_riff : List ℕ → Bool
is_riff id = nat_eq (little_number 4 id) 1717987698

-- the piece of a WAV file that a block keeps, if it keeps one
abbrev pub piece_of : Block → List (List ℕ)
piece_of (block_of.Application id bytes) = cond (is_riff id) (bytes ∷ []) []
piece_of other = []

-- those of all blocks
abbrev pub pieces_in : List Piece → List (List ℕ)
pieces_in [] = []
pieces_in (marked ∷ xs) = pieces_in xs
pieces_in (block last b ∷ xs) = piece_of b ++ pieces_in xs
pieces_in (framed f ∷ xs) = pieces_in xs

-- the depth after all blocks
abbrev pub depth_of : ℕ → List Piece → ℕ
depth_of depth [] = depth
depth_of depth (marked ∷ xs) = depth_of depth xs
depth_of depth (block last b ∷ xs) = depth_of (depth_after depth b) xs
depth_of depth (framed f ∷ xs) = depth_of depth xs

-- a plain WAV file: its format, how many samples of each channel it has, and its pieces
pub record Plain : Type 0 where
  pub form : WaveFormat
  pub total : ℕ
  pub made : List (List ℕ)

abbrev pub plain_with : WaveFormat → (total : ℕ) → Plain
plain_with f total = record { form = f; total = total; made = plain_pieces f total }

-- before STREAMINFO came there is none; no stream has another block before it
abbrev pub no_plain : Plain
no_plain = record { form = plain_format 1 1 8; total = 0; made = [] }

-- the same for these speakers, if there are some
abbrev pub plain_for : Plain → (mask : Option ℕ) → Plain
plain_for p None = p
plain_for p (Some m) = plain_with (record p.form { mask = Some m }) p.total

-- the plain file after this block: STREAMINFO states its format and how many samples it has, a comment its speakers
abbrev pub plain_after : Plain → Block → Plain
plain_after p (block_of.StreamInfo info) = plain_with (plain_format info.rate info.channels info.depth) info.total
plain_after p (block_of.VorbisComment comments) = plain_for p (mask_in comments.list)
plain_after p other = p

-- that after all blocks
abbrev pub plain_of : Plain → List Piece → Plain
plain_of p [] = p
plain_of p (marked ∷ xs) = plain_of p xs
plain_of p (block last b ∷ xs) = plain_of (plain_after p b) xs
plain_of p (framed f ∷ xs) = plain_of p xs

-- a sample of this depth, of 1 bit at least, has room in n bytes, of which there are 4 at most
abbrev pub has_room : (wide depth : ℕ) → Bool
has_room wide depth = nat_lt wide 5 && (nat_lt 0 depth && not (nat_lt (8 * wide) depth))

-- Why there is no WAV file of samples of this depth: a file is kept, and the bytes of its samples have no room for
-- them.
abbrev pub piece_fault : (whole : Bool) (bits depth : ℕ) → Option KeptFault
piece_fault whole bits depth = cond whole (cond (has_room ((bits + 7) / 8) depth) None (Some kept.OtherBits)) None

-- how many bytes a sample of the file has: those of the kept file's bits, or in a plain file those of the stream's
-- depth
abbrev pub wave_width_by : (whole : Bool) (bits depth : ℕ) → ℕ
wave_width_by whole bits depth = cond whole ((bits + 7) / 8) (sample_width depth)

-- why a stream becomes no WAV file of its samples
abbrev pub kept_fault : List Piece → Option KeptFault
kept_fault parts = piece_fault (are_file (pieces_in parts)) (bits_in 0 (pieces_in parts)) (depth_of 0 parts)

-- The pieces of a file: those that are kept, if they make one, else those of a plain file. They do not if another
-- program removed the block of the file's header, of its format or of the header of its samples.
abbrev pub file_pieces : (kept plain : List (List ℕ)) → List (List ℕ)
file_pieces kept plain = cond (are_file kept) kept plain

-- how many bytes a sample of the WAV file of a stream has
abbrev pub wave_width_in : List Piece → ℕ
wave_width_in parts = wave_width_by (are_file (pieces_in parts)) (bits_in 0 (pieces_in parts)) (depth_of 0 parts)

-- the WAV file of a stream: these pieces, and its samples
abbrev pub wave_in : List Piece → List ℕ
wave_in parts = restored (file_pieces (pieces_in parts) (plain_of no_plain parts).made) (file_samples (wave_width_in parts) (depth_of 0 parts) (all_samples 0 parts))

-- ---- encoding

-- the block that keeps a piece
abbrev pub riff_block : List ℕ → Block
riff_block piece = block_of.Application riff piece

-- the bytes of pieces
abbrev pub contents : List (Vec ℕ Global) → List (List ℕ)
contents pieces = map (λ p. p.items) pieces

-- the blocks after STREAMINFO: the words as comments, and the pieces
abbrev pub kept_list : (words pieces : List (List ℕ)) → List Block
kept_list words pieces = comment_list words ++ map riff_block pieces

-- the same with these speakers, and of the pieces before and after the samples
abbrev pub kept_with : (words : List (List ℕ)) (mask : Option ℕ) (before after : List (Vec ℕ Global)) → List Block
kept_with words mask before after = kept_list (words_with words mask) (contents before ++ contents after)

-- the pieces that are kept: all, or none
abbrev pub kept_pieces : (keep : Bool) → List (List ℕ) → List (List ℕ)
kept_pieces keep pieces = cond keep pieces []

-- the blocks after STREAMINFO that are asked for of a file: the words as comments, and these pieces, if they are kept
abbrev pub blocks_for : Asked → WaveFormat → (pieces : List (List ℕ)) → List Block
blocks_for asked format pieces = kept_list (words_with asked.words (other_mask format)) (kept_pieces asked.keep pieces)

-- what is asked for of samples of this format, in this depth
abbrev pub format_with : RawFormat → WaveFormat → (depth : ℕ) → RawFormat
format_with asked format depth = record { rate = format.rate; channels = format.channels; bits = depth; block = asked.block; seek_every = asked.seek_every }

-- of the samples of a file: their own format
abbrev pub format_as : RawFormat → Parts → RawFormat
format_as asked file = format_with asked file.format (depth_for file)

abbrev pub asked_of_wave : Asked → Parts → Asked
asked_of_wave asked file = record asked { format = format_as asked.format file }

-- This is a WAV file of these samples, which may go on to its end if that is asked for, and these are the blocks that
-- keep it, if that is asked for.
pub record Keeps (asked : Asked) (bytes : List ℕ) (format : RawFormat) (a : Sound) (list : List Block) : Type 0 where
  pub file : Parts
  pub pieces : List (List ℕ)
  pub wave : IsWave asked.to_end bytes file
  pub cut : ArePiecesAfter file.samples file.back pieces
  pub small : AreSmall file.samples
  pub form : format ≡ format_as asked.format file
  pub raw : IsRaw asked.profile (format_as asked.format file) (samples_for file) a
  pub blocks : list ≡ blocks_for asked file.format (file.pieces ++ pieces)

-- After the bits that were there, a stream was written of the samples of the WAV file that these bytes are, with the
-- words and unusual speakers as comments, the pieces of the file in blocks `riff`, if it is kept, and the seek table.
-- Each frame is a shortest one over constant and verbatim subframes, the fixed predictors, those of the list, and those
-- that were found for its block, if any were sought. If it is kept, the WAV file of its blocks and frames is these
-- bytes, byte for byte.
pub record EncodesWave (asked : Asked) (bytes : List ℕ) (before after : List Bool) : Type 0 where
  pub format : RawFormat
  pub audio : Sound
  pub list : List Block
  pub predictors : List LinearPredictor
  pub keeps : Keeps asked bytes format audio list
  pub listed : AreListed asked.list predictors
  pub found : List (List (List LinearPredictor))
  pub sought : AreFound asked.effort predictors found
  pub encodes : EncodesIn asked.container (cut_found (record asked { format = format }) audio predictors found) list audio before after
  pub back : asked.keep ≡ true → wave_in (parts_in asked.container (cut_found (record asked { format = format }) audio predictors found) list audio before after encodes) ≡ bytes

-- After the bits that were there, a prefix of such a stream was written.
pub record BeginsWave (asked : Asked) (bytes : List ℕ) (before after : List Bool) : Type 0 where
  pub format : RawFormat
  pub audio : Sound
  pub list : List Block
  pub predictors : List LinearPredictor
  pub keeps : Keeps asked bytes format audio list
  pub listed : AreListed asked.list predictors
  pub found : List (List (List LinearPredictor))
  pub sought : AreFound asked.effort predictors found
  pub begins : BeginsIn asked.container (cut_found (record asked { format = format }) audio predictors found) list audio before after

-- nothing was written, or such a prefix
abbrev pub MayBeginWave : Asked → (bytes : List ℕ) → (before after : List Bool) → Type 0
MayBeginWave asked bytes before after = (after ≡ before) ⊎ BeginsWave asked bytes before after

-- what a job asks for whose list has this text, if it is an encoding of a WAV file; the format is the file's own
abbrev pub asked_for_wave : Job → (list : List ℕ) → Option Asked
asked_for_wave (job.EncodeWave input output size seek_every c comments lax predictors effort keep to_end) list =
    Some (record { profile = profile_of lax; format = record { rate = 0; channels = 0; bits = 0; block = size; seek_every = seek_every }; container = c; words = map (λ w. w.now) comments.items; list = list; effort = effort; any = true; keep = keep; to_end = to_end })
asked_for_wave other list = None

abbrev pub wave_asked_by : Task → Option Asked
wave_asked_by task = asked_for_wave task.job.now task.list.now

-- this holds if the job is such an encoding
abbrev pub HasEncodedWave : Option Asked → (bytes : List ℕ) → (before after : List Bool) → Type 0
HasEncodedWave (Some asked) bytes before after = EncodesWave asked bytes before after
HasEncodedWave None bytes before after = Unit {0}

-- nothing was written, or such a prefix, if the job is such an encoding
abbrev pub HasBegunWave : Option Asked → (bytes : List ℕ) → (before after : List Bool) → Type 0
HasBegunWave (Some asked) bytes before after = MayBeginWave asked bytes before after
HasBegunWave None bytes before after = Unit {0}

-- The bytes of a stream that keeps a WAV file are a stream of blocks and frames whose file is that file, and of no
-- other.
abbrev pub KeptFilesComeBack : Type 0
KeptFilesComeBack =
    (asked : Asked) (bytes stream : List ℕ) → asked.keep ≡ true → AreBytes stream → EncodesWave asked bytes [] (bits_of stream) → (parts : List Piece) → (bytes_reading asked.profile stream).whole parts → wave_in parts ≡ bytes
