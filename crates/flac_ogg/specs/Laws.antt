-- What holds of every input, apart from any reading.
use Rattle.std.specs.Prelude.{◌≡◌, List, Bool, Err}
use Rattle.flac_bits.specs.State.{Mark}
use Rattle.flac_bits.specs.Handing.{ReadsOnce, IsRead, IsOutside}
use Rattle.flac_native.specs.Stream.{Piece}
use Rattle.flac_native.specs.Track.{IsAt}
use Rattle.flac_native.specs.Item.{Item}
use Rattle.flac_native.specs.Giving.{items_of, Stage}
use Rattle.flac_native.specs.Calls.{Answers, GivesAll}
use Rattle.flac_native.specs.declared.fault.Fault.{Fault}
use Rattle.flac_native.specs.declared.container.Container as container
use Rattle.flac_ogg.specs.Stream.{start}
use Rattle.flac_ogg.specs.Decoding.{BeginsWith, BreaksAtPage, IsFront, ogg_reading}
use Rattle.flac_ogg.specs.declared.packets.OggPackets.{OggPackets}
use Rattle.flac_header.specs.declared.subset.Profile.{Profile}

-- no input has two readings
abbrev pub OggIsReadOnce : Type 0
OggIsReadOnce = (profile : Profile) (mark : Mark) (text : List Bool) → ReadsOnce (ogg_reading profile mark text)

-- and each input has one
abbrev pub OggIsRead : Type 0
OggIsRead = (profile : Profile) (mark : Mark) (text : List Bool) → IsRead (ogg_reading profile mark text)

-- Calls of a decoder of this input gave these items, and then one ended early, by an error of the device or because
-- memory ran out. The items are those of the input's first packets, and the place is that of the pages of these
-- packets.
abbrev pub CallsBreakAtPages : {R : Type 0} → container.Ghosts (OggPackets R) → Type 0
CallsBreakAtPages {R} g = (profile : Profile) (mark : Mark) (text : List Bool) (first now last : Stage (OggPackets R)) (items : List Item) (f : Fault)
    → IsAt first.track (start profile) → IsFront mark text first.container.pages → GivesAll g first items now → Answers g now (Err f) last → IsOutside f.why
    → (parts : List Piece) × (items ≡ items_of parts) × BeginsWith profile mark parts text × BreaksAtPage profile mark parts text f.at f.why
