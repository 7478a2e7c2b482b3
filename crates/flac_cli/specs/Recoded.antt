-- What `flac recode` writes of a stream: its samples, and its metadata blocks without STREAMINFO and the seek table.
use Rattle.std.specs.Prelude.{◌≡◌, ◌⊎◌, ℕ, ℤ, Bool, true, false, not, List, [], ◌∷◌, ◌++◌, map, replicate}
use Rattle.std.specs.List.{filter}
use Rattle.flac_bits.specs.declared.source.Source as source
use Rattle.flac_bits.specs.declared.target.Target as target
use Rattle.flac_bits.specs.State.{After}
use Rattle.flac_info.specs.Info.{Info}
use Rattle.flac_meta.specs.declared.block.Block.{Block}
use Rattle.flac_meta.specs.declared.block.Block.TheVariants as block_of
use Rattle.flac_header.specs.declared.subset.Profile.{Profile}
use Rattle.flac_header.specs.declared.subset.Profile.TheVariants.{Lax}
use Rattle.flac_frame.specs.Audio.{Sound}
use Rattle.flac_frame.specs.Frame.{Frame}
use Rattle.flac_subframe.specs.declared.format.linear.LinearPredictor.{LinearPredictor}
use Rattle.flac_native.specs.Given.{closing}
use Rattle.flac_native.specs.Stream.{Piece, framed}
use Rattle.flac_native.specs.Whole.{head_parts}
use Rattle.flac_ogg.specs.Either.{begins_page}
pub use Rattle.flac_rescue.specs.Channels.{extended}
use Rattle.flac_cli.specs.Asked.{Asked}
use Rattle.flac_cli.specs.Calls.{HasWritten}
use Rattle.flac_cli.specs.Encoded.{EncodesIn, BeginsIn, AreFound, cut_found}
use Rattle.flac_cli.specs.Outcomes.{input_reading}
use Rattle.flac_cli.specs.Predictors.{AreListed}
use Rattle.flac_jobs.specs.declared.formats.ContainerKind.{ContainerKind}
use Rattle.flac_jobs.specs.declared.formats.ContainerKind.TheVariants as container

-- ---- samples

-- each channel's samples, and after them those that it has in each frame
abbrev pub extended_by : (channels : List (List ℤ)) → List Frame → List (List ℤ)
extended_by channels [] = channels
extended_by channels (f ∷ fs) = extended_by (extended channels f.channels) fs

-- those of a stream with this STREAMINFO and these frames (RFC 9639, sections 8.2 and 9)
abbrev pub heard_in : Info → List Frame → List (List ℤ)
heard_in info frames = extended_by (replicate info.channels []) frames

-- channels with the rate and the depth of this STREAMINFO, for a stream of this profile
abbrev pub sound_of : Profile → Info → (channels : List (List ℤ)) → Sound
sound_of profile info channels = record { profile = profile; rate = info.rate; bits = info.depth; channels = channels }

abbrev pub sound_in : Profile → Info → List Frame → Sound
sound_in profile info frames = sound_of profile info (heard_in info frames)

-- ---- blocks

-- STREAMINFO, which is written anew, and a seek table, whose offsets are those of the old frames (section 8.5)
abbrev pub is_of_frames : Block → Bool
is_of_frames (block_of.StreamInfo info) = true
is_of_frames (block_of.SeekTable points) = true
is_of_frames other = false

abbrev pub is_comment : Block → Bool
is_comment (block_of.VorbisComment comments) = true
is_comment other = false

-- comments without a vendor and without a comment (section 8.6)
abbrev pub no_comments : Block
no_comments = block_of.VorbisComment (record { vendor = []; list = [] })

-- these comment blocks; such a one if there is none
abbrev pub or_none : List Block → List Block
or_none [] = no_comments ∷ []
or_none (b ∷ bs) = b ∷ bs

-- the comments come first, as an Ogg stream has them (section 10.1), and then the other blocks in their order
abbrev pub comments_first : List Block → List Block
comments_first list = or_none (filter is_comment list) ++ filter (λ b. not (is_comment b)) list

-- the blocks that are kept of those after STREAMINFO, in their order
abbrev pub carried : List Block → List Block
carried list = filter (λ b. not (is_of_frames b)) list

-- in the order in which a stream has them
abbrev pub in_order : ContainerKind → List Block → List Block
in_order container.Native list = list
in_order (container.Ogg serial) list = comments_first list

-- those that the new stream has after STREAMINFO
abbrev pub blocks_in : ContainerKind → List Block → List Block
blocks_in c list = in_order c (carried list)

-- ---- streams

-- its parts: the marker, STREAMINFO, these blocks and these frames; in Ogg the marker is no part of its own (section
-- 10.1)
abbrev pub stream_parts : (is_ogg : Bool) → Info → List Block → List Frame → List Piece
stream_parts false info list frames = head_parts info list ++ map framed frames
stream_parts true info list frames = closing (block_of.StreamInfo info ∷ list) ++ map framed frames

-- these bytes are a stream, native or Ogg, also outside the streamable subset, with this STREAMINFO, these blocks after
-- it, and these frames
abbrev pub IsStreamOf : (bytes : List ℕ) → After → Info → List Block → List Frame → Type 0
IsStreamOf bytes follows info list frames = (input_reading Lax bytes follows).whole (stream_parts (begins_page bytes) info list frames)

-- After the bits that were there, a stream was written as it is asked for, native or Ogg: of the samples of the stream
-- that these bytes are, with its blocks, and in a native one the seek table that is asked for. Each frame is a shortest
-- one over constant and verbatim subframes, the fixed predictors, those of the list, and those that were found for its
-- block, if any were sought.
pub record Recodes (asked : Asked) (bytes : List ℕ) (follows : After) (before after : List Bool) : Type 0 where
  pub info : Info
  pub list : List Block
  pub frames : List Frame
  pub read : IsStreamOf bytes follows info list frames
  pub predictors : List LinearPredictor
  pub listed : AreListed asked.list predictors
  pub found : List (List (List LinearPredictor))
  pub sought : AreFound asked.effort predictors found
  pub encodes : EncodesIn asked.container (cut_found asked (sound_in asked.profile info frames) predictors found) (blocks_in asked.container list) (sound_in asked.profile info frames) before after

-- After the bits that were there, a prefix of such a stream was written.
pub record BeginsRecoded (asked : Asked) (bytes : List ℕ) (follows : After) (before after : List Bool) : Type 0 where
  pub info : Info
  pub list : List Block
  pub frames : List Frame
  pub read : IsStreamOf bytes follows info list frames
  pub predictors : List LinearPredictor
  pub listed : AreListed asked.list predictors
  pub found : List (List (List LinearPredictor))
  pub sought : AreFound asked.effort predictors found
  pub begins : BeginsIn asked.container (cut_found asked (sound_in asked.profile info frames) predictors found) (blocks_in asked.container list) (sound_in asked.profile info frames) before after

-- nothing was written, or such a prefix
abbrev pub HasBegunRecoded : Asked → (bytes : List ℕ) → After → (before after : List Bool) → Type 0
HasBegunRecoded asked bytes follows before after = (after ≡ before) ⊎ BeginsRecoded asked bytes follows before after

-- ---- a source and a target, whose bytes are known

-- a stream of those of the source was written as it is asked for
abbrev pub WritesAnew : {S T : Type 0} (g : source.Ghosts S) (h : target.Ghosts T) → Asked → (from : S) (old new : T) → Type 0
WritesAnew g h asked from old new = HasWritten g h from old new (λ bytes. Recodes asked bytes (g.after from))

-- nothing was written, or a prefix of such a stream
abbrev pub BeginsAnew : {S T : Type 0} (g : source.Ghosts S) (h : target.Ghosts T) → Asked → (from : S) (old new : T) → Type 0
BeginsAnew g h asked from old new = HasWritten g h from old new (λ bytes. HasBegunRecoded asked bytes (g.after from))
