-- What is encoded, and read again.
use Rattle.std.specs.Prelude.{◌≡◌, ℕ, Bool, true, false, not, List, [], ◌∷◌, ◌++◌, map, Option, Some, None}
use Rattle.flac_bits.specs.Bits.{bits_of}
use Rattle.flac_bits.specs.Handing.{InputReading}
use Rattle.flac_bits.specs.declared.why.Why.{Why}
use Rattle.flac_bits.specs.declared.why.Why.TheVariants.{Truncated}
use Rattle.flac_meta.specs.declared.block.Block.{Block}
use Rattle.flac_meta.specs.declared.block.Block.TheVariants as blocks
use Rattle.flac_frame.specs.Audio.{Sound}
use Rattle.flac_native.specs.Decoding.{beginning}
use Rattle.flac_native.specs.Stream.{Piece, framed}
use Rattle.flac_native.specs.Given.{Cut, info_of, frames_of, closing, given}
use Rattle.flac_native.specs.Seeking.{points_of, table_of, repeats_table}
use Rattle.flac_native.specs.Writing.{Encodes}
use Rattle.flac_native.specs.declared.fault.Place.{Place}
use Rattle.flac_pages.specs.Placed.{stream_spelling}
use Rattle.flac_ogg.specs.Decoding.{ogg_reading}
use Rattle.flac_ogg.specs.Either.{begins_page}
use Rattle.flac_ogg.specs.Verifying.{bytes_reading}
use Rattle.flac_ogg.specs.Writing.{EncodesOgg, may_be_ogg}

-- An input is a stream of exactly these items: of these, and of no others; and it is not refused.
pub record IsJust (r : InputReading Piece Place) (items : List Piece) : Type 0 where
  pub whole : r.whole items
  pub only : (others : List Piece) → r.whole others → others ≡ items
  pub accepted : (before : List Piece) (at : Place) (why : Why) → r.refused before at why → ⊥

-- the items of an Ogg stream of what was given: STREAMINFO with the smallest and the largest frame size in bytes, the
-- blocks and the frames
abbrev pub ogg_items : Cut → List Block → Sound → (least greatest : ℕ) → List Piece
ogg_items p list a least greatest = closing (blocks.StreamInfo (info_of p a least greatest) ∷ list) ++ map framed (frames_of p.block_size a)

-- What is encoded as an Ogg stream is one of exactly what was given, in the plan's profile.
abbrev pub EncodedOggIsRead : Type 0
EncodedOggIsRead =
    (serial : ℕ) (p : Cut) (list : List Block) (a : Sound) (before after : List Bool) (e : EncodesOgg serial p list a before after)
    → IsJust (ogg_reading p.profile (beginning Truncated) (stream_spelling serial e.packets)) (ogg_items p list a e.are.least e.are.greatest)

-- ---- in memory

-- the bytes are what is encoded as a native stream, and are read in the plan's profile as one of exactly what was given
pub record NativeBytes (p : Cut) (list : List Block) (a : Sound) (bytes : List ℕ) : Type 0 where
  pub encodes : Encodes p list a [] (bits_of bytes)
  pub container : begins_page bytes ≡ false
  pub read : IsJust (bytes_reading p.profile bytes) (given p (list ++ table_of (points_of p encodes.frames)) a encodes.least encodes.greatest)

-- the bytes are what is encoded as the Ogg stream of a number, and are read in the plan's profile as one of exactly
-- what was given
pub record OggBytes (serial : ℕ) (p : Cut) (list : List Block) (a : Sound) (bytes : List ℕ) : Type 0 where
  pub encodes : EncodesOgg serial p list a [] (bits_of bytes)
  pub container : begins_page bytes ≡ true
  pub read : IsJust (bytes_reading p.profile bytes) (ogg_items p list a encodes.are.least encodes.are.greatest)

-- an Ogg stream if its number is given, otherwise a native one
abbrev pub EncodedBytes : Option ℕ → Cut → List Block → Sound → List ℕ → Type 0
EncodedBytes None p list a bytes = NativeBytes p list a bytes
EncodedBytes (Some serial) p list a bytes = OggBytes serial p list a bytes

-- why an encoding is refused: for Ogg, that these cannot be in an Ogg stream; for a native stream, that there would be
-- two seek tables
abbrev pub is_no_ogg : Option ℕ → Cut → List Block → Bool
is_no_ogg None p list = false
is_no_ogg (Some serial) p list = not (may_be_ogg p list)

abbrev pub is_repeated : Option ℕ → Cut → List Block → Bool
is_repeated None p list = repeats_table p list
is_repeated (Some serial) p list = false
