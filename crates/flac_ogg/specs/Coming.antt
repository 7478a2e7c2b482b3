-- What good pages still have of a stream.
use Rattle.std.specs.Prelude.{◌≡◌, ℕ, List, Option, Some, None, ◌⊎◌}
use Rattle.flac_bits.specs.declared.why.Why.{Why}
use Rattle.flac_bits.specs.declared.why.Why.TheVariants.{Read}
use Rattle.flac_native.specs.Stream.{Piece, Progress}
use Rattle.flac_native.specs.Track.{IsAt}
use Rattle.flac_native.specs.declared.fault.Place.{Place}
use Rattle.flac_native.specs.declared.track.Track.{Track}
use Rattle.flac_pages.specs.Packets.{Ahead, Place as Stands, ahead}
use Rattle.flac_pages.specs.Given.{PacketsAhead}
use Rattle.flac_ogg.specs.Steps.{PacketStep, over, refused, packet_step, Goes}
use Rattle.flac_ogg.specs.Telling.{IsUnderWay}

-- the step after all items
abbrev pub final : Option (Place × Why) → PacketStep
final None = over
final (Some f) = refused f.0 f.1

-- the packets ahead are these items, and then the end of the stream, or its refusal
pub record ItemsCome (p : Progress) (a : Ahead) (items : List Piece) (end : Option (Place × Why)) : Type 0 where
  pub way : IsUnderWay p.stand
  pub packets : List (List ℕ)
  pub begun : List ℕ
  pub given : PacketsAhead a packets begun
  pub state : Progress
  pub after : Ahead
  pub goes : Goes p a items state after
  pub ends : packet_step state after ≡ final end

-- this fault is one of reading
abbrev pub TellsRead : Option (ℕ × Why) → Type 0
TellsRead o = (n : ℕ) × (o ≡ Some (n, Read))

-- an error follows what good pages have
abbrev pub Foretells : Ahead → Type 0
Foretells a = TellsRead a.fault ⊎ TellsRead a.stop

-- of the stream of a track, no error of the device follows the packets ahead
pub record IsClear (s : Stands) (t : Track) : Type 0 where
  pub progress : Progress
  pub at : IsAt t progress
  pub items : List Piece
  pub end : Option (Place × Why)
  pub come : ItemsCome progress (ahead s) items end
  pub none : Foretells (ahead s) → ⊥
