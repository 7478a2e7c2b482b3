-- One item in one packet: the bytes of a packet are one item, a metadata block or a frame, and nothing else (RFC 9639,
-- section 10.1).
use Rattle.std.specs.Prelude.{◌≡◌, ◌≢◌, ◌↔◌, ◌<◌, ◌+◌, ◌*◌, ℕ, length, Bool, true, false, List, [], ◌∷◌, ◌++◌, Option, Some, None, Result, Ok, Err, IfSome}
use Rattle.std.specs.List.{flat_map}
use Rattle.std.specs.Borrow.{GName}
use Rattle.flac_bits.specs.Bits.{bits_of, bit_value, is_nil}
use Rattle.flac_bits.specs.State.{Mark, Cursor, State, After, short_of, without_fence}
use Rattle.flac_bits.specs.Layout.{Layout, bits, Reason}
use Rattle.flac_bits.specs.Lists.{list_of}
use Rattle.flac_bits.specs.Meaning.{Spells, Shows, IsCut}
use Rattle.flac_bits.specs.Fence.{InRoom, LeavesRoom, FillsRoom, read_in}
use Rattle.flac_bits.specs.Reasons.{of_output}
use Rattle.flac_bits.specs.declared.why.Why.{Why}
use Rattle.flac_bits.specs.declared.why.Why.TheVariants.{Read, Memory, Truncated, FrameTooLong, PacketLength}
use Rattle.flac_pages.specs.Packets.{Place, Met, ahead, rest_of, after_of, OnPage, on_page, PassesPacket, BreaksAt}

-- How a packet ends after the bytes that good pages have of it (RFC 3533, section 6).
pub data PacketEnd : Type 0 where
  -- a lacing value below 255 ends it there
  whole : PacketEnd
  -- no lacing value ends it, and the page marked last is over
  unended : PacketEnd
  -- no lacing value ends it, and the next page is refused: how many pages came before that page, and why it is refused
  cut_at : ℕ → Why → PacketEnd

-- what good pages have of a packet
pub record Packet : Type 0 where
  pub bits : List Bool
  pub ends : PacketEnd

abbrev pub end_in : Option (ℕ × Why) → Bool → PacketEnd
end_in (Some f) cut = cut_at f.0 f.1
end_in None true = unended
end_in None false = whole

abbrev pub end_of : After → PacketEnd
end_of b = end_in b.fails b.cut

-- the packet that a reader of packets has begun
abbrev pub packet_of : Place → Packet
packet_of p = record { bits = bits_of (rest_of p); ends = end_of (after_of p) }

-- the mark at a packet's first bit
abbrev pub packet_mark : Place → Mark
packet_mark p = record { unread = 0; bytes = 0; check8 = 0; check16 = 0; short = short_of (after_of p).fails }

-- ---- what an item's packet is, apart from any reading

-- Why a packet that does not end where it should is refused: by the fault of the page that cuts it off, with the number
-- of pages before that page; or else by its length.
abbrev pub cut_off : PacketEnd → Option ℕ × Why
cut_off (cut_at n why) = (Some n, why)
cut_off other = (None, PacketLength)

-- A reason of the item's own stays. No field of FLAC is refused by `Truncated` or `Read`; they mean that the packet's
-- bits end.
abbrev pub in_packet : PacketEnd → Why → Option ℕ × Why
in_packet e Truncated = (None, PacketLength)
in_packet e Read = cut_off e
in_packet e why = (None, why)

-- all of the packet is a spelling of the item, and the packet ends there
pub record IsItem {A : Type 0} (room : Option ℕ) (l : Layout A) (m : Mark) (p : Packet) (x : A) : Type 0 where
  pub spelled : Spells l m p.bits x
  pub fits : InRoom room m p.bits
  pub ended : p.ends ≡ whole

-- The packet is not one item. `told` is why: the number of pages before the page that is at fault, if one is, and the
-- reason.
pub data IsNoItem {A : Type 0} (room : Option ℕ) (l : Layout A) (m : Mark) (p : Packet) (told : Option ℕ × Why) : Type 0 where
  -- The item breaks a rule: the packet begins with valid fields, and at their end the first broken rule has this reason
  -- (RFC 9639, section 8 for a block, section 9 for a frame, section 10.1 for the mapping).
  breaks_rule : (own : Why) (front rest : List Bool) → p.bits ≡ front ++ rest → Shows l m front own → InRoom room m front → told ≡ in_packet p.ends own → IsNoItem room l m p told
  -- The packet's bits end inside the item: the packet is too short (RFC 9639, section 10.1), or good pages do not have
  -- all of it (RFC 3533, section 6).
  bits_missing : IsCut l m p.bits → LeavesRoom room m p.bits → told ≡ cut_off p.ends → IsNoItem room l m p told
  -- The packet has as many bytes as the item may have, and the item does not end in them (RFC 9639, section 8.2:
  -- STREAMINFO has 24 bits for the size of a frame).
  too_many_bytes : FillsRoom room l m p.bits → told ≡ (None, FrameTooLong) → IsNoItem room l m p told
  -- The packet begins with the item, and has more bits after it (RFC 9639, section 10.1: a packet has one item).
  bits_left : (x : A) (text rest : List Bool) → p.bits ≡ text ++ rest → rest ≢ [] → Spells l m text x → InRoom room m text → told ≡ (None, PacketLength) → IsNoItem room l m p told
  -- The packet's bits are the item, but the packet does not end with them: no lacing value below 255 ends it (RFC 3533,
  -- section 6).
  not_ended : (x : A) → Spells l m p.bits x → InRoom room m p.bits → p.ends ≢ whole → told ≡ cut_off p.ends → IsNoItem room l m p told

-- a call returns the packet's item, seen by view, or why it is none
abbrev pub TellsItem : {X A : Type 0} → (X → A) → Option ℕ → Layout A → Mark → Packet → Result X (Option ℕ × Why) → Type 0
TellsItem view room l m p (Ok x) = IsItem room l m p (view x)
TellsItem view room l m p (Err why) = IsNoItem room l m p why

-- the same of the packet that a reader of packets has begun, if the bytes of the source are known and it returned no
-- error in the call
abbrev pub TellsPacket : {X A : Type 0} → (X → A) → Option ℕ → Layout A → (old new : Place) → Result X (Option ℕ × Why) → Type 0
TellsPacket view room l old new result = old.known ≡ true → new.errors ≡ old.errors → TellsItem view room l (packet_mark old) (packet_of old) result

-- ---- how it is read

-- after the item's last bit, which is the packet's last
abbrev pub at_last_bit : {A : Type 0} → PacketEnd → A → Result A (Option ℕ × Why)
at_last_bit whole x = Ok x
at_last_bit other x = Err (cut_off other)

-- after the item's last bit, if a bit may be left
abbrev pub after_item : {A : Type 0} → PacketEnd → Bool → A → Result A (Option ℕ × Why)
after_item e true x = at_last_bit e x
after_item e false x = Err (None, PacketLength)

abbrev pub judged : {A : Type 0} → PacketEnd → Result (A × Cursor) Reason → Result A (Option ℕ × Why)
judged e (Ok x) = after_item e (is_nil x.1.left) x.0
judged e (Err reason) = Err (in_packet e reason.why)

-- what reading one item in one packet gives
unfoldable pub item_in : {A : Type 0} → Option ℕ → Layout A → Mark → Packet → Result A (Option ℕ × Why)
item_in room l m p = judged p.ends (read_in room l (record { left = p.bits; mark = m }))

-- Each packet is one item or is none, for one reason; and this is what reading it gives. Here for an item of n bytes.
abbrev pub PacketsTellOne : Type 0
PacketsTellOne = (n : ℕ) (p : Place) (result : Result (List ℕ) (Option ℕ × Why))
    → TellsItem (λ x. x) None (list_of n (bits 8)) (packet_mark p) (packet_of p) result ↔ (item_in None (list_of n (bits 8)) (packet_mark p) (packet_of p) ≡ result)

-- The page of an error, once `count` pages were read: one of the device has the page after them, and one of memory has
-- none.
abbrev pub HasItsPage : ℕ → Option ℕ × Why → Type 0
HasItsPage count told = (told.1 ≡ Read → told.0 ≡ Some count) × (told.1 ≡ Memory → told.0 ≡ None)

-- ---- what the calls do that check a packet's end

-- a list after its length
abbrev pub counted : List ℕ → List ℕ
counted xs = length xs ∷ xs

-- The page that a reader of packets is on as numbers, which a list of names can hold.
unfoldable pub numbers_of : OnPage → List ℕ
numbers_of p = bit_value p.known ∷ bit_value p.more ∷ p.count ∷ (counted p.lacing ++ length p.after ∷ flat_map counted p.after)

-- What stays of pages that were lent, as names: the name under which they were lent, how many errors of the device they
-- had met then, the page that they were on, and the references that they go through.
abbrev pub lent_names : GName → Place → List GName → List GName
lent_names name lent names = name ∷ lent.raised ∷ (numbers_of (on_page lent) ++ names)

-- A reader of bits is at the first bit of the packet that was begun, by pages that are lent under this name and were on
-- this page when they were lent. What stays of them, whatever it meets: the name, how many errors of the device they
-- had met, that page, and the references that they go through.
pub record IsAtPacket (name : GName) (lent : OnPage) (p : Place) (s : State) : Type 0 where
  pub known : s.known ≡ p.known
  pub errors : s.errors ≡ p.errors
  pub raised : s.raised ≡ 0
  pub after : s.after ≡ without_fence (after_of p)
  pub most : s.most ≡ 8 * (p.most + length p.body)
  pub names : s.names ≡ name ∷ p.raised ∷ (numbers_of lent ++ p.names)
  pub cursor : s.cursor ≡ record { left = (packet_of p).bits; mark = packet_mark p }

-- The result says which errors of the device were met: none, or one if it is Read.
abbrev pub Meets : {X : Type 0} → ℕ → ℕ → Result X (Option ℕ × Why) → Type 0
Meets old new (Ok x) = new ≡ old
Meets old new (Err e) = Met e.1 old new

-- the count of a reader of bits that met no error before
abbrev pub CountsSo : {X : Type 0} → Result X Why → ℕ → Type 0
CountsSo (Ok x) raised = raised ≡ 0
CountsSo (Err why) raised = (why ≡ Read → 0 < raised) × (of_output why ≡ false)

-- The result for the packet that was begun says which pages were read: those up to the start of the next packet, or, if
-- a page is refused, those before it, in none of which the packet ends.
abbrev pub TellsPages : {X : Type 0} → OnPage → Place → Result X (Option ℕ × Why) → Type 0
TellsPages old new (Ok x) = old.known ≡ true → old.more ≡ true → PassesPacket old (on_page new)
TellsPages old new (Err e) = old.known ≡ true → IfSome e.0 (λ n. BreaksAt old n)

-- Pages that were lent to a reader of a packet's bits, whose result this is, are given back under their name; when they
-- were lent, they had met `lent` errors and were on this page.
pub record GivesBack {X : Type 0} (s : State) (name : GName) (new : Place) (read : Result X Why) (result : Result X (Option ℕ × Why)) : Type 0 where
  pub lent : ℕ
  pub page : OnPage
  pub names : s.names ≡ name ∷ lent ∷ (numbers_of page ++ new.names)
  pub meets : CountsSo read s.raised → Meets lent new.raised result
  pub pages : CountsSo read s.raised → TellsPages page new result

-- The result of an item's reader over a packet's bits, after which it is at `s`, and what follows those bits, as one
-- result.
abbrev pub JudgesPacket : {X : Type 0} → State → Place → Result X Why → Result X (Option ℕ × Why) → Type 0
JudgesPacket s new (Ok x) result = s.known ≡ true → new.errors ≡ s.errors → s.cursor.mark.short ≡ short_of s.after.fails → result ≡ after_item (end_of s.after) (is_nil s.cursor.left) x
JudgesPacket s new (Err why) result = (why ≡ Read → 0 < s.raised) → result ≡ Err (in_packet (end_of s.after) why)

-- After a packet that is one item: the next packet is to be begun, and what good pages have stays.
pub record GoesAfter (s : State) (new : Place) : Type 0 where
  pub stands : (new.rest ≡ 0) × (new.more ≡ false)
  pub known : s.known ≡ true → new.known ≡ true
  pub errors : new.errors ≡ s.errors
  pub lacing : s.known ≡ true → s.cursor.mark.short ≡ short_of s.after.fails → (ahead new).lacing ≡ s.after.pieces
  pub bytes : s.known ≡ true → s.cursor.mark.short ≡ short_of s.after.fails → (ahead new).bytes ≡ s.after.bytes
  pub fault : s.known ≡ true → s.cursor.mark.short ≡ short_of s.after.fails → (ahead new).fault ≡ s.after.fault
  pub stop : s.known ≡ true → s.cursor.mark.short ≡ short_of s.after.fails → (ahead new).stop ≡ s.after.stop

-- The next packet is to be begun, and good pages still have what was after the packet that was begun.
pub record HasAfter (old new : Place) : Type 0 where
  pub known : new.known ≡ true
  pub errors : new.errors ≡ old.errors
  pub lacing : (ahead new).lacing ≡ (after_of old).pieces
  pub bytes : (ahead new).bytes ≡ (after_of old).bytes
  pub fault : (ahead new).fault ≡ (after_of old).fault
  pub stop : (ahead new).stop ≡ (after_of old).stop
