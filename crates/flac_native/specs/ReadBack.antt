-- What encoding wrote is read as exactly what was given.
use Rattle.std.specs.Prelude.{◌≡◌, ◌<◌, ℕ, ℤ, Bool, List, [], ◌∷◌, ◌++◌, length, slice_index_or, None}
use Rattle.flac_bits.specs.State.{Mark}
use Rattle.flac_bits.specs.Items.{Stream, Refused}
use Rattle.flac_bits.specs.declared.why.Why.{Why}
use Rattle.flac_header.specs.declared.subset.Profile.{Profile}
use Rattle.flac_meta.specs.declared.block.Block.{Block}
use Rattle.flac_frame.specs.Audio.{Sound, IsSound}
use Rattle.flac_native.specs.Stream.{Piece, marked, block, framed, grammar, opening}
use Rattle.flac_native.specs.Given.{Cut, plan_fault, given}
use Rattle.flac_native.specs.Seeking.{points_of, table_of}
use Rattle.flac_native.specs.Writing.{Encodes}
use Rattle.flac_native.specs.declared.fault.Place.{Place}

-- In a profile the bits are a stream of these parts and of no others, and nothing in them is refused.
pub record IsOnly (profile : Profile) (m : Mark) (parts : List Piece) (text : List Bool) : Type 0 where
  pub stream : Stream grammar (opening profile) m parts text
  pub only : (items : List Piece) → Stream grammar (opening profile) m items text → items ≡ parts
  pub accepted : (items : List Piece) (at : Place) (why : Why) → Refused grammar (opening profile) m items text at why → ⊥

-- the samples of one channel in all frames, in order
abbrev pub channel_in : ℕ → List Piece → List ℤ
channel_in c [] = []
channel_in c (marked ∷ xs) = channel_in c xs
channel_in c (block last b ∷ xs) = channel_in c xs
channel_in c (framed f ∷ xs) = slice_index_or f.channels c [] ++ channel_in c xs

-- the frames together have the samples of each channel
abbrev pub HaveSamples : Sound → List Piece → Type 0
HaveSamples a parts = (c : ℕ) → c < length a.channels → channel_in c parts ≡ slice_index_or a.channels c []

-- the parts of an encoded stream: the marker, STREAMINFO, the blocks, the seek table of the frames, if one has a point,
-- and the frames
abbrev pub parts_of : (p : Cut) (list : List Block) (a : Sound) (before after : List Bool) → Encodes p list a before after → List Piece
parts_of p list a before after e = given p (list ++ table_of (points_of p e.frames)) a e.least e.greatest

-- The bits that were added are a stream of these parts alone, of which the frames have the samples.
pub record IsReadBack (m : Mark) (p : Cut) (a : Sound) (parts : List Piece) (before after : List Bool) : Type 0 where
  pub text : List Bool
  pub added : after ≡ before ++ text
  pub only : IsOnly p.profile m parts text
  pub samples : plan_fault p ≡ None → IsSound a → HaveSamples a parts

-- This holds of all that encoding writes, read from a whole byte on.
abbrev pub EncodedAreReadBack : Type 0
EncodedAreReadBack = (m : Mark) (p : Cut) (list : List Block) (a : Sound) (before after : List Bool) → m.unread ≡ 0
    → (e : Encodes p list a before after) → IsReadBack m p a (parts_of p list a before after e) before after
