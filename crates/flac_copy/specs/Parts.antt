-- Blocks and frames that are read from bytes (RFC 9639, sections 8, 9 and 10.1).
use Rattle.std.specs.Prelude.{◌≡◌, ℕ, ◌*◌, Bool, true, List, [], ◌∷◌, ◌++◌, length, None, Result, IfOk}
use Rattle.flac_bits.specs.Bits.{bits_of}
use Rattle.flac_bits.specs.State.{State, Cursor, Consumes, the_end}
use Rattle.flac_bits.specs.Layout.{Layout}
use Rattle.flac_bits.specs.Meaning.{Spells}
use Rattle.flac_bits.specs.declared.why.Why.{Why}
use Rattle.flac_bits.specs.declared.why.Why.TheVariants.{Truncated}
use Rattle.flac_meta.specs.declared.block.Block.{Block}
use Rattle.flac_native.specs.Decoding.{beginning}
use Rattle.flac_native.specs.Stream.{Piece, Stand, block, layout, room_in}
use Rattle.flac_native.specs.Track.{ReadsPart, stand_of}
use Rattle.flac_native.specs.declared.track.Phase.TheVariants.{Blocks}
use Rattle.flac_native.specs.declared.track.Track.{Track}
use Rattle.flac_pages.specs.Items.{IsItem}
use Rattle.flac_ogg.specs.Mapping.{packet_layout}
use Rattle.flac_ogg.specs.Stream.{packet_start, closed_packet}

-- a block, and whether it is marked as the last
pub record Marked : Type 0 where
  pub last : Bool
  pub block : Block

abbrev pub piece : Marked → Piece
piece b = block b.last b.block

-- a reader at the first of these bytes, after which the input ends
abbrev pub before_bytes : List ℕ → State
before_bytes bytes = record { known = true; errors = 0; raised = 0; after = the_end; most = 8 * length bytes; held = 0; names = []; cursor = record { left = bits_of bytes; mark = beginning Truncated } }

-- the bits that were read spell this value
abbrev pub SpellsNext : {A : Type 0} → Layout A → (old new : Cursor) → A → Type 0
SpellsNext l old new x = (text : List Bool) × Consumes text old new × Spells l old.mark text x

-- if they are known: they spell a part that follows a state
abbrev pub SpellsPart : Stand → (old new : State) → Piece → Type 0
SpellsPart s old new x = old.known ≡ true → (new.known ≡ true) × SpellsNext (layout s) old.cursor new.cursor x

-- the same in a packet
abbrev pub SpellsPacket : Stand → (old new : State) → Piece → Type 0
SpellsPacket s old new x = old.known ≡ true → (new.known ≡ true) × SpellsNext (packet_layout s) old.cursor new.cursor x

-- a block was read that follows the state of a track
abbrev pub SpellsBlock : Track → (old new : State) → Result (Bool × Block) Why → Type 0
SpellsBlock t old new result = (stand_of t).phase ≡ Blocks → IfOk result (λ b. SpellsPart (stand_of t) old new (block b.0 b.1))

-- the same in a packet
abbrev pub SpellsHeader : Track → (old new : State) → Result (Bool × Block) Why → Type 0
SpellsHeader t old new result = (stand_of t).phase ≡ Blocks → IfOk result (λ b. SpellsPacket (stand_of t) old new (block b.0 b.1))

-- all of a packet is this part, which follows a state
abbrev pub IsPart : Stand → List ℕ → Piece → Type 0
IsPart s packet x = IsItem (room_in s.phase) (packet_layout s) (packet_start None) (closed_packet packet) x

-- the block that is all of a packet was read into the track, and added to a list
pub record AddsBlock (old new : Track) (packet : List ℕ) (from to : List Block) : Type 0 where
  pub part : Marked
  pub read : ReadsPart old (piece part) new
  pub added : to ≡ from ++ part.block ∷ []
  pub is : (stand_of old).phase ≡ Blocks → IsPart (stand_of old) packet (piece part)
