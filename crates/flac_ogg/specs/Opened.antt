-- A decoder of an Ogg stream that was just made of a source: what its pages still have.
use Rattle.std.specs.Prelude.{◌≡◌, true, List, Some, None}
use Rattle.flac_bits.specs.Bits.{bits_of}
use Rattle.flac_bits.specs.declared.source.Source as source
use Rattle.flac_bits.specs.declared.why.Why.{Why}
use Rattle.flac_header.specs.declared.subset.Profile.{Profile}
use Rattle.flac_native.specs.Decoding.{start_mark}
use Rattle.flac_native.specs.Giving.{stage_of}
use Rattle.flac_native.specs.Stream.{Piece}
use Rattle.flac_native.specs.declared.container.Container as container
use Rattle.flac_native.specs.declared.decoder.Decoder.{Decoder}
use Rattle.flac_native.specs.declared.fault.Place.{Place}
use Rattle.flac_pages.specs.Packets.{Place as Stands, ahead}
use Rattle.flac_ogg.specs.Coming.{ItemsCome}
use Rattle.flac_ogg.specs.Decoding.{IsFront}
use Rattle.flac_ogg.specs.Stream.{start, OggStream, OggRefused}
use Rattle.flac_ogg.specs.declared.packets.OggPackets.{OggPackets}

-- the pages of its packets
abbrev pub its_pages : {R : Type 0} {g : container.Ghosts (OggPackets R)} → Decoder (OggPackets R) g → Stands
its_pages d = (stage_of d).container.pages

-- they are before all that this source has to come, if its bytes are known
abbrev pub IsFrontOf : {R : Type 0} → source.Ghosts R → R → Stands → Type 0
IsFrontOf g s p = g.known s ≡ true → IsFront (start_mark (g.after s)) (bits_of (g.coming s)) p

-- if this source has an Ogg stream to come, its items are what the pages still have
abbrev pub StreamComes : {R : Type 0} → source.Ghosts R → Profile → R → Stands → Type 0
StreamComes g profile s p = (items : List Piece) → OggStream profile (start_mark (g.after s)) items (bits_of (g.coming s)) → ItemsCome (start profile) (ahead p) items None

-- and if what it has to come is refused, so is what the pages still have
abbrev pub RefusalComes : {R : Type 0} → source.Ghosts R → Profile → R → Stands → Type 0
RefusalComes g profile s p =
    (items : List Piece) (at : Place) (why : Why) → OggRefused profile (start_mark (g.after s)) items (bits_of (g.coming s)) at why
    → ItemsCome (start profile) (ahead p) items (Some (at, why))
