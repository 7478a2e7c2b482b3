-- What an encoding of raw samples has written.
use Rattle.std.specs.Prelude.{◌≡◌, ℕ, Bool, true, List, [], ◌∷◌, ◌++◌, ◌⊎◌, map, codes, false, Option, Some, None}
use Rattle.flac_bits.specs.Bits.{bits_of}
use Rattle.flac_bits.specs.declared.target.Target as target
use Rattle.flac_meta.specs.declared.comments.Comments.{Comments}
use Rattle.flac_meta.specs.declared.block.Block.{Block}
use Rattle.flac_meta.specs.declared.block.Block.TheVariants.{StreamInfo, VorbisComment}
use Rattle.flac_frame.specs.Audio.{Sound}
use Rattle.flac_subframe.specs.declared.format.linear.LinearPredictor.{LinearPredictor}
use Rattle.flac_native.specs.Given.{Cut, cut_of, with_predictors, with_found, info_of, frames_of, closing, given}
use Rattle.flac_native.specs.Stream.{Piece, framed}
use Rattle.flac_native.specs.Seeking.{points_of, table_of}
use Rattle.flac_native.specs.Writing.{Encodes, BeginsEncoding}
use Rattle.flac_ogg.specs.Writing.{EncodesOgg, BeginsOgg}
use Rattle.flac_predict.specs.Found.{AllBegin}
use Rattle.flac_cli.specs.Asked.{Asked}
use Rattle.flac_cli.specs.Predictors.{AreListed}
use Rattle.flac_raw.specs.Raw.{IsRaw}
use Rattle.flac_cli.specs.Samples.{all_samples}
use Rattle.flac_cli.specs.Streams.{profile_of}
use Rattle.flac_cli.specs.declared.dispatch.Task.{Task}
use Rattle.flac_jobs.specs.declared.formats.ContainerKind.{ContainerKind}
use Rattle.flac_jobs.specs.declared.formats.ContainerKind.TheVariants as container
use Rattle.flac_jobs.specs.declared.jobs.Job.{Job}
use Rattle.flac_jobs.specs.declared.jobs.Job.TheVariants as job
use Rattle.flac_jobs.specs.declared.search_effort.SearchEffort.{SearchEffort}
use Rattle.flac_jobs.specs.declared.search_effort.SearchEffort.TheVariants as efforts

-- the program's name, and the words as comments (RFC 9639, section 8.6)
abbrev pub comments_of : List (List ℕ) → Comments
comments_of words = record { vendor = codes "flac profile 1"; list = words }

-- the one block after STREAMINFO
abbrev pub comment_list : List (List ℕ) → List Block
comment_list words = VorbisComment (comments_of words) ∷ []

-- after the bits that were there, a stream of what was given was written
abbrev pub EncodesIn : ContainerKind → Cut → List Block → Sound → (before after : List Bool) → Type 0
EncodesIn container.Native p list a before after = Encodes p list a before after
EncodesIn (container.Ogg serial) p list a before after = EncodesOgg serial p list a before after

-- the blocks and frames of this stream
abbrev pub parts_in : (c : ContainerKind) (p : Cut) (list : List Block) (a : Sound) (before after : List Bool) → EncodesIn c p list a before after → List Piece
parts_in container.Native p list a before after e = given p (list ++ table_of (points_of p e.frames)) a e.least e.greatest
parts_in (container.Ogg serial) p list a before after e = closing (StreamInfo (info_of p a e.are.least e.are.greatest) ∷ list) ++ map framed (frames_of p.block_size a)

-- the samples are cut as the format asks, and these predictors are tried
abbrev pub cut_as : Asked → Sound → List LinearPredictor → Cut
cut_as asked a ps = with_predictors (cut_of asked.format.block a asked.format.seek_every) ps

-- the same, and for each plane of the frame of each block those of its list
abbrev pub cut_found : Asked → Sound → List LinearPredictor → (found : List (List (List LinearPredictor))) → Cut
cut_found asked a ps found = with_found (cut_as asked a ps) found

-- The lists of linear predictors that are tried for the planes of the blocks: none without a search; else each begins
-- with these predictors. Nothing is said of the others, which were found for its plane of its block.
pub record AreFound (effort : SearchEffort) (ps : List LinearPredictor) (found : List (List (List LinearPredictor))) : Type 0 where
  pub none : effort ≡ efforts.None → found ≡ []
  pub begins : AllBegin ps found

-- After the bits that were there, a stream was written as it is asked for, native or Ogg: of the samples that these
-- bytes are, with the words as comments, and in a native one after them the seek table. Each frame is a shortest one
-- over constant and verbatim subframes, the fixed predictors, those of the list, and for each plane (left, right, side,
-- middle, or a channel) those that were found for it in this block, if any were sought. The samples of its frames are
-- these bytes again, so decoding it gives them back.
pub record EncodesRaw (asked : Asked) (bytes : List ℕ) (before after : List Bool) : Type 0 where
  pub audio : Sound
  pub predictors : List LinearPredictor
  pub raw : IsRaw asked.profile asked.format bytes audio
  pub listed : AreListed asked.list predictors
  pub found : List (List (List LinearPredictor))
  pub sought : AreFound asked.effort predictors found
  pub encodes : EncodesIn asked.container (cut_found asked audio predictors found) (comment_list asked.words) audio before after
  pub back : all_samples 0 (parts_in asked.container (cut_found asked audio predictors found) (comment_list asked.words) audio before after encodes) ≡ bytes

-- what a job asks for whose list has this text, if it is an encoding
abbrev pub asked_for : Job → (list : List ℕ) → Option Asked
asked_for (job.Encode input output format c comments lax predictors effort raw) list =
    Some (record { profile = profile_of lax; format = format; container = c; words = map (λ w. w.now) comments.items; list = list; effort = effort; any = raw; keep = false; to_end = false })
asked_for other list = None

abbrev pub asked_by : Task → Option Asked
asked_by task = asked_for task.job.now task.list.now

-- this holds if the job is an encoding
abbrev pub HasEncoded : Option Asked → (bytes : List ℕ) → (before after : List Bool) → Type 0
HasEncoded (Some asked) bytes before after = EncodesRaw asked bytes before after
HasEncoded None bytes before after = Unit {0}

-- what was written is a prefix of such a stream
abbrev pub BeginsIn : ContainerKind → Cut → List Block → Sound → (before after : List Bool) → Type 0
BeginsIn container.Native p list a before after = BeginsEncoding p list a before after
BeginsIn (container.Ogg serial) p list a before after = BeginsOgg serial p list a before after

-- After the bits that were there, a prefix of such a stream was written.
pub record BeginsRaw (asked : Asked) (bytes : List ℕ) (before after : List Bool) : Type 0 where
  pub audio : Sound
  pub predictors : List LinearPredictor
  pub raw : IsRaw asked.profile asked.format bytes audio
  pub listed : AreListed asked.list predictors
  pub found : List (List (List LinearPredictor))
  pub sought : AreFound asked.effort predictors found
  pub begins : BeginsIn asked.container (cut_found asked audio predictors found) (comment_list asked.words) audio before after

-- nothing was written, or such a prefix, if the job is an encoding
abbrev pub HasBegun : Option Asked → (bytes : List ℕ) → (before after : List Bool) → Type 0
HasBegun (Some asked) bytes before after = (after ≡ before) ⊎ BeginsRaw asked bytes before after
HasBegun None bytes before after = Unit {0}

-- the same of an encoding that may be refused
abbrev pub HasBegunRaw : Asked → (bytes : List ℕ) → (before after : List Bool) → Type 0
HasBegunRaw asked bytes before after = (after ≡ before) ⊎ BeginsRaw asked bytes before after

-- ---- a target, `old` before a call and `new` after it, if its bytes are known

-- it was sent a stream of what was given
abbrev pub SendsEncodedIn : {T : Type 0} (h : target.Ghosts T) → ContainerKind → Cut → List Block → Sound → (old new : T) → Type 0
SendsEncodedIn h c p list a old new = h.known old ≡ true → EncodesIn c p list a (bits_of (h.sent old)) (bits_of (h.sent new))

-- nothing changed, or it was sent a prefix of one
abbrev pub SendsPrefixIn : {T : Type 0} (h : target.Ghosts T) → ContainerKind → Cut → List Block → Sound → (old new : T) → Type 0
SendsPrefixIn h c p list a old new = h.known old ≡ true → (new ≡ old) ⊎ BeginsIn c p list a (bits_of (h.sent old)) (bits_of (h.sent new))
