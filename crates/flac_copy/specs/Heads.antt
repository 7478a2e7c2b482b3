-- What comes before the frames of a stream (RFC 9639, sections 6, 8 and 10.1).
use Rattle.std.specs.Bool.{⊤}
use Rattle.std.specs.Prelude.{◌≡◌, ◌≢◌, ℕ, ◌-◌, ◌^◌, ◌<◌, ◌≤◌, Bool, true, List, [], ◌∷◌, ◌++◌, length, take, map, Some, None, Ok}
use Rattle.flac_bits.specs.Bits.{bits_of}
use Rattle.flac_bits.specs.State.{State, Mark, Consumes, past}
use Rattle.flac_bits.specs.Reading.{Counts}
use Rattle.flac_bits.specs.Items.{Joined, state_after}
use Rattle.flac_bits.specs.declared.source.Source as source
use Rattle.flac_header.specs.declared.subset.Profile.{Profile}
use Rattle.flac_info.specs.Info.{Info, KeepsRules}
use Rattle.flac_meta.specs.declared.block.Block.{Block}
use Rattle.flac_native.specs.Stream.{Piece, Progress, Stand, marked, grammar, opening}
use Rattle.flac_native.specs.Track.{IsAt, ReadsPart, is_after_blocks, stand_of}
use Rattle.flac_native.specs.declared.track.Phase.TheVariants.{Opening, Blocks}
use Rattle.flac_native.specs.declared.track.Track.{Track}
use Rattle.flac_pages.specs.Packets.{Place}
use Rattle.flac_pages.specs.Given.{Takes}
use Rattle.flac_ogg.specs.Stream.{start, AreItems}
use Rattle.flac_copy.specs.Again.{all_of, Holds}
use Rattle.flac_copy.specs.Packets.{HoldsNext}
use Rattle.flac_copy.specs.Parts.{Marked, piece, SpellsPart, AddsBlock}
use Rattle.flac_copy.specs.declared.again.Again.{Again}

abbrev pub pieces : List Marked → List Piece
pieces parts = map piece parts

abbrev pub blocks_in : List Marked → List Block
blocks_in parts = map (λ b. b.block) parts

-- after the marker; and the STREAMINFO that came, if one did, keeps its rules
pub record IsBegun (s : Stand) : Type 0 where
  pub opened : s.phase ≢ Opening
  pub rules : (i : Info) → s.info ≡ Some i → KeepsRules i

-- these bits are these parts, which follow a state, and parts and bits may come after them
abbrev pub Leads : Progress → List Piece → List Bool → Type 0
Leads p items text =
    (m : Mark) → m.unread ≡ 0 → (more : List Piece) (rest : List Bool) → ((k : Mark) → k.unread ≡ 0 → Joined grammar (state_after grammar p items) k more rest)
    → Joined grammar p m (items ++ more) (text ++ rest)

-- ---- of a native stream

-- a block was read into the track, and added to a list
pub record TakesBlock (old new : Track) (s0 s1 : State) (from to : List Block) : Type 0 where
  pub part : Marked
  pub read : ReadsPart old (piece part) new
  pub added : to ≡ from ++ part.block ∷ []
  pub text : (stand_of old).phase ≡ Blocks → SpellsPart (stand_of old) s0 s1 (piece part)

-- blocks were read, up to the last
pub record HasBlocks (p : Progress) (new : Track) (s0 s1 : State) (from to : List Block) : Type 0 where
  pub parts : List Marked
  pub at : IsAt new (state_after grammar p (pieces parts))
  pub added : to ≡ from ++ blocks_in parts
  pub phase : is_after_blocks (stand_of new).phase ≡ true
  pub begun : IsBegun (state_after grammar p (pieces parts)).stand
  pub text : List Bool
  pub consumed : Consumes text s0.cursor s1.cursor
  pub leads : Leads p (pieces parts) text

-- the same if the bits are known, in each state that the track is in
abbrev pub TakesBlocks : (old new : Track) → (s0 s1 : State) → (from to : List Block) → Type 0
TakesBlocks old new s0 s1 from to = s0.known ≡ true → (p : Progress) → IsAt old p → IsBegun p.stand → HasBlocks p new s0 s1 from to

-- so many bytes were read, all of them whole
pub record CountsBytes (s : State) (n : ℕ) : Type 0 where
  pub count : n ≡ s.cursor.mark.bytes
  pub whole : s.cursor.mark.unread ≡ 0
  pub few : n < 2 ^ 64 - 1

-- the marker and these blocks were read, which have n bytes
pub record HasHead (profile : Profile) (new : Track) (s0 s1 : State) (from to : List Block) (n : ℕ) : Type 0 where
  pub parts : List Marked
  pub at : IsAt new (state_after grammar (start profile) (pieces parts))
  pub added : to ≡ from ++ blocks_in parts
  pub phase : is_after_blocks (stand_of new).phase ≡ true
  pub begun : IsBegun (state_after grammar (start profile) (pieces parts)).stand
  pub text : List Bool
  pub split : s0.cursor.left ≡ text ++ s1.cursor.left
  pub leads : Leads (opening profile) (marked ∷ pieces parts) text
  pub count : n ≡ (past text s0.cursor.mark).bytes
  pub whole : (past text s0.cursor.mark).unread ≡ 0
  pub few : n < 2 ^ 64 - 1

pub record TakesHead (old new : Track) (s0 s1 : State) (from to : List Block) (n : ℕ) : Type 0 where
  pub counts : Counts {X = ⊤} s0 s1 (Ok tt)
  pub head : s0.known ≡ true → (profile : Profile) → IsAt old (start profile) → HasHead profile new s0 s1 from to n

-- No error was met. The first n bytes that come are the marker and these blocks; they are those that came before.
pub record FirstIsHead {S : Type 0} (g : source.Ghosts S) (profile : Profile) (t : Track) (old new : Again S) (from to : List Block) (n : ℕ) : Type 0 where
  pub holds : Holds g old new
  pub few : n ≤ length (all_of g.coming old)
  pub parts : List Marked
  pub at : IsAt t (state_after grammar (start profile) (pieces parts))
  pub added : to ≡ from ++ blocks_in parts
  pub phase : is_after_blocks (stand_of t).phase ≡ true
  pub begun : IsBegun (state_after grammar (start profile) (pieces parts)).stand
  pub leads : Leads (opening profile) (marked ∷ pieces parts) (bits_of (take n (all_of g.coming old)))

-- the same if the bytes are known and there was no fault
abbrev pub PassesHead : {S : Type 0} → source.Ghosts S → (t0 t1 : Track) → (old new : Again S) → (from to : List Block) → ℕ → Type 0
PassesHead g t0 t1 old new from to n = old.fault ≡ None → g.known old.source ≡ true → (profile : Profile) → IsAt t0 (start profile) → FirstIsHead g profile t1 old new from to n

-- The bytes that came first are the marker and these blocks; the others are still to come.
pub record DropsHead {S : Type 0} (g : source.Ghosts S) (profile : Profile) (t : Track) (old new : Again S) (list : List Block) : Type 0 where
  pub parts : List Marked
  pub list_is : list ≡ blocks_in parts
  pub at : IsAt t (state_after grammar (start profile) (pieces parts))
  pub phase : is_after_blocks (stand_of t).phase ≡ true
  pub begun : IsBegun (state_after grammar (start profile) (pieces parts)).stand
  pub head : List ℕ
  pub split : all_of g.coming old ≡ head ++ all_of g.coming new
  pub leads : Leads (opening profile) (marked ∷ pieces parts) (bits_of head)
  pub known : g.known new.source ≡ true
  pub fault : new.fault ≡ None

abbrev pub ReadsHead : {S : Type 0} → source.Ghosts S → (t0 t1 : Track) → (old new : Again S) → List Block → Type 0
ReadsHead g t0 t1 old new list = old.fault ≡ None → g.known old.source ≡ true → (profile : Profile) → IsAt t0 (start profile) → DropsHead g profile t1 old new list

-- ---- of an Ogg stream

-- the next packet is a block, which was read into the track and added to a list
pub record TakesHeader (t0 t1 : Track) (old new : Place) (from to : List Block) : Type 0 where
  pub packet : List ℕ
  pub adds : AddsBlock t0 t1 packet from to
  pub next : HoldsNext old new packet true

-- the next packets are these blocks, up to the last
pub record HasHeaders (p : Progress) (t : Track) (old new : Place) (from to : List Block) : Type 0 where
  pub packets : List (List ℕ)
  pub parts : List Marked
  pub are : AreItems p packets (pieces parts)
  pub taken : Takes old packets new
  pub known : new.known ≡ true
  pub at : IsAt t (state_after grammar p (pieces parts))
  pub added : to ≡ from ++ blocks_in parts
  pub phase : is_after_blocks (stand_of t).phase ≡ true

-- the same if the bytes are known, in each state that the track is in
abbrev pub TakesHeaders : (t0 t1 : Track) → (old new : Place) → (from to : List Block) → Type 0
TakesHeaders t0 t1 old new from to = old.known ≡ true → (p : Progress) → IsAt t0 p → p.stand.phase ≢ Opening → HasHeaders p t1 old new from to
