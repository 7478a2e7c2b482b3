-- For proofs of encoding: the pages that were sent so far.
use Rattle.std.specs.Prelude.{◌≡◌, ℕ, Bool, false, nat_eq, List, [], ◌∷◌, ◌++◌, Result}
use Rattle.std.specs.List.{All, flat_map}
use Rattle.flac_bits.specs.Bits.{unsigned, bits_of}
use Rattle.flac_bits.specs.Forms.{joined}
use Rattle.flac_bits.specs.declared.target.Target as target
use Rattle.flac_info.specs.Info.{Info}
use Rattle.flac_meta.specs.Spelling.{block_spelling}
use Rattle.flac_meta.specs.declared.block.Block.TheVariants as blocks
use Rattle.flac_frame.specs.Audio.{Sound, samples_each}
use Rattle.flac_native.specs.Given.{Cut, blocks_in, info_of}
use Rattle.flac_native.specs.Writing.{AreFrames, AreLeastFrames, AreCounted}
use Rattle.flac_native.specs.declared.chosen_frames.ChosenFrames.{ChosenFrames}
use Rattle.flac_pages.specs.Page.{page_spelling}
use Rattle.flac_pages.specs.Placed.{Placed, IsPlaced, pages_from, stream_spelling}
use Rattle.flac_ogg.specs.Listed.{texts_of, kinds_in}
use Rattle.flac_ogg.specs.Headers.{AreHeaders}
use Rattle.flac_ogg.specs.Native.{mapping_spelling}
use Rattle.flac_ogg.specs.Writing.{frames_to, header_count}
use Rattle.flac_ogg.specs.declared.headers.Headers.{Headers}
use Rattle.flac_native.specs.Sent.{SendsBits}

-- ---- the first packet

-- the mapping's fields but for the marker, and then these bytes
abbrev pub mapped_spelling : (count : ℕ) → (head : List ℕ) → List Bool
mapped_spelling count head = joined (unsigned 40 0x7F464C4143 ∷ unsigned 16 0x0100 ∷ unsigned 16 count ∷ bits_of head ∷ [])

-- the mapping, and STREAMINFO, after which there are n blocks
abbrev pub first_spelling : (n : ℕ) → Info → List Bool
first_spelling n info = mapping_spelling (header_count n) ++ block_spelling (nat_eq n 0) (blocks.StreamInfo info)

-- ---- the frames that were chosen

-- their sizes and places are those of the frames
abbrev pub CountsFrames : Cut → Sound → ChosenFrames → Type 0
CountsFrames p a f = AreCounted p a f.least f.greatest f.points.items

-- STREAMINFO with their sizes
abbrev pub info_with : Cut → Sound → ChosenFrames → Info
info_with p a f = info_of p a f.least f.greatest

-- ---- what was sent

-- Pages from the one of a number on were sent, or else a prefix of them: all frames of the samples, each the shortest
-- of its block with the plan's predictors, in a packet each.
pub record SendsPackets {S X E : Type 0} (g : target.Ghosts S) (serial from : ℕ) (p : Cut) (a : Sound) (old new : S) (result : Result X E) : Type 0 where
  pub frames : List (List Bool)
  pub are : AreFrames p a frames
  pub are_least : AreLeastFrames p a frames
  pub packets : List Placed
  pub texts : texts_of packets ≡ frames
  pub kinds : kinds_in packets ≡ frames_to p.block_size (samples_each a.channels) (blocks_in p.block_size (samples_each a.channels))
  pub good : All IsPlaced packets
  pub sends : SendsBits g (flat_map page_spelling (pages_from serial from false packets)) old new result

-- the same for a whole stream, after header packets
pub record SendsOgg {S X E : Type 0} (g : target.Ghosts S) (serial : ℕ) (p : Cut) (a : Sound) (headers : List Placed) (old new : S) (result : Result X E) : Type 0 where
  pub frames : List (List Bool)
  pub are : AreFrames p a frames
  pub are_least : AreLeastFrames p a frames
  pub packets : List Placed
  pub texts : texts_of packets ≡ frames
  pub kinds : kinds_in packets ≡ frames_to p.block_size (samples_each a.channels) (blocks_in p.block_size (samples_each a.channels))
  pub good : All IsPlaced packets
  pub sends : SendsBits g (stream_spelling serial (headers ++ packets)) old new result

-- the frames after these header packets
abbrev pub SendsFrames : {S X E : Type 0} → target.Ghosts S → Headers → Cut → Sound → (old new : S) → Result X E → Type 0
SendsFrames g h p a old new result = SendsPackets g h.serial h.held.next p a old new result

-- and the whole stream, whichever the header packets are
abbrev pub SendsWhole : {S X E : Type 0} → target.Ghosts S → Headers → Cut → Sound → (old new : S) → Result X E → Type 0
SendsWhole g h p a old new result = (first : List Bool) (texts : List (List Bool)) (are : AreHeaders (first ∷ texts) h) → SendsOgg g h.serial p a are.packets old new result
