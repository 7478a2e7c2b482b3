-- An Ogg stream of FLAC: good pages, whose packets are the mapping with STREAMINFO, one block each, and one frame each
-- (RFC 9639, section 10.1).
use Rattle.std.specs.Prelude.{◌≡◌, ◌≢◌, ℕ, length, Bool, true, false, cond, List, [], ◌∷◌, ◌++◌, Option, Some, None, ⊤}
use Rattle.flac_bits.specs.Bits.{bits_of}
use Rattle.flac_bits.specs.State.{Mark, short_of}
use Rattle.flac_bits.specs.Meaning.{AllKept, BreaksFirst}
use Rattle.flac_bits.specs.Items.{state_after}
use Rattle.flac_bits.specs.declared.why.Why.{Why}
use Rattle.flac_bits.specs.declared.why.Why.TheVariants.{PacketLength}
use Rattle.flac_native.specs.Stream.{Piece, marked, Progress, opening, grammar, next, room_in}
use Rattle.flac_native.specs.declared.fault.Place.{Place}
use Rattle.flac_native.specs.declared.fault.Place.TheVariants as place
use Rattle.flac_pages.specs.Pages.{Run}
use Rattle.flac_pages.specs.Packets.{Packets, fault_of, stop_of}
use Rattle.flac_pages.specs.Items.{Packet, whole, end_in, IsItem, IsNoItem}
use Rattle.flac_pages.specs.Runs.{IsRun}
use Rattle.flac_ogg.specs.Mapping.{packet_layout, packet_place, page_place}
use Rattle.flac_header.specs.declared.subset.Profile.{Profile}

-- before the first packet: the marker is in the mapping
abbrev pub start : Profile → Progress
start profile = next (opening profile) marked

-- at a packet's first bit; this fault follows the packet's bytes, if there is one
abbrev pub packet_start : Option (ℕ × Why) → Mark
packet_start fault = record { unread = 0; bytes = 0; check8 = 0; check16 = 0; short = short_of fault }

-- a packet that ends
abbrev pub closed_packet : List ℕ → Packet
closed_packet bytes = record { bits = bits_of bytes; ends = whole }

-- a packet that goes on after all good pages, of which these bytes came: a fault cuts it off, or the page marked last
-- leaves it open
abbrev pub open_packet : List ℕ → Option (ℕ × Why) → Packet
open_packet bytes fault = record { bits = bits_of bytes; ends = end_in fault true }

-- each packet is one item, in the state after the items before it
abbrev pub AreItems : Progress → List (List ℕ) → List Piece → Type 0
AreItems p [] [] = ⊤
AreItems p [] (x ∷ xs) = ⊥
AreItems p (packet ∷ packets) [] = ⊥
AreItems p (packet ∷ packets) (x ∷ xs) = IsItem (room_in p.stand.phase) (packet_layout p.stand) (packet_start None) (closed_packet packet) x × AreItems (next p x) packets xs

-- What an input has: good pages up to the one marked last or to a refused one, the packets that end in them, and the
-- bytes of one that goes on after them.
pub record Contents (mark : Mark) (text : List Bool) : Type 0 where
  pub run : Run
  pub is_run : IsRun None (record { left = text; mark = mark }) run
  pub packets : List (List ℕ)
  pub begun : List ℕ
  pub packed : Packets run.pages packets begun

-- the fault that cuts off a packet which goes on, and the one if no packet is left
abbrev pub fault_in : {mark : Mark} {text : List Bool} → Contents mark text → Option (ℕ × Why)
fault_in c = fault_of (length c.run.pages) c.run.stop

abbrev pub stop_in : {mark : Mark} {text : List Bool} → Contents mark text → Option (ℕ × Why)
stop_in c = stop_of (length c.run.pages) c.run.stop

-- The input is good pages, the final one marked last and no packet open after it, and nothing more; their packets are
-- these items; the stream may end after them, and its samples have the number and the digest in STREAMINFO.
pub record OggStream (profile : Profile) (mark : Mark) (items : List Piece) (text : List Bool) : Type 0 where
  pub contents : Contents mark text
  pub no_fault : stop_in contents ≡ None
  pub no_part : contents.begun ≡ []
  pub spelled : AreItems (start profile) contents.packets items
  pub ends : grammar.may_end (state_after grammar (start profile) items) ≡ true
  pub kept : AllKept (grammar.at_end (state_after grammar (start profile) items))

-- The fault if no packet is left. After the page marked last a byte is one only if the stream may end; else a block is
-- missing.
abbrev pub last_fault : Progress → (fault stop : Option (ℕ × Why)) → Option (ℕ × Why)
last_fault p fault stop = cond (grammar.may_end p) stop fault

-- Why there is no further item in this state, and at which place that is reported. `left` are the packets that are left
-- and end; `begun` are the bytes of one that goes on after all good pages; `fault` is the fault that cuts that one off,
-- and `stop` the fault if no packet is left.
pub data StopsAtPacket (p : Progress) (left : List (List ℕ)) (begun : List ℕ) (fault stop : Option (ℕ × Why)) (at : Place) (why : Why) : Type 0 where
  -- The next packet ends, and is no item (RFC 9639, section 10.1: each packet is one block or one frame).
  packet_refused : (packet : List ℕ) (others : List (List ℕ)) (page : Option ℕ) → left ≡ packet ∷ others
      → IsNoItem (room_in p.stand.phase) (packet_layout p.stand) (packet_start None) (closed_packet packet) (page, why) → at ≡ packet_place p.stand (page, why)
      → StopsAtPacket p left begun fault stop at why
  -- No packet is left but the one that goes on, and this is no item (RFC 3533, section 6: only a lacing value below 255
  -- ends a packet).
  part_refused : (page : Option ℕ) → left ≡ [] → begun ≢ []
      → IsNoItem (room_in p.stand.phase) (packet_layout p.stand) (packet_start fault) (open_packet begun fault) (page, why) → at ≡ packet_place p.stand (page, why)
      → StopsAtPacket p left begun fault stop at why
  -- No packet is left: the next page is refused, or the stream may end and a byte follows the page marked last
  -- (RFC 3533, section 6).
  pages_refused : (n : ℕ) → left ≡ [] → begun ≡ [] → last_fault p fault stop ≡ Some (n, why) → at ≡ page_place n why → StopsAtPacket p left begun fault stop at why
  -- No packet is left, the page marked last was read, and a metadata block is missing (RFC 9639, section 10.1: all
  -- blocks come before the frames, the last one marked).
  block_missing : left ≡ [] → begun ≡ [] → fault ≡ None → grammar.may_end p ≡ false → at ≡ grammar.place p → why ≡ PacketLength → StopsAtPacket p left begun fault stop at why
  -- The stream ends, and its samples have not the number or the MD5 digest that STREAMINFO states (RFC 9639,
  -- section 8.2).
  end_refused : left ≡ [] → begun ≡ [] → stop ≡ None → grammar.may_end p ≡ true → at ≡ place.End → BreaksFirst (grammar.at_end p) why → StopsAtPacket p left begun fault stop at why

-- after these valid items the input is refused, at this place and for this reason
pub record OggRefused (profile : Profile) (mark : Mark) (items : List Piece) (text : List Bool) (at : Place) (why : Why) : Type 0 where
  pub contents : Contents mark text
  pub taken : List (List ℕ)
  pub left : List (List ℕ)
  pub split : contents.packets ≡ taken ++ left
  pub spelled : AreItems (start profile) taken items
  pub stops : StopsAtPacket (state_after grammar (start profile) items) left contents.begun (fault_in contents) (stop_in contents) at why
