-- For proofs of reading packets: how a call ends one, and why.
use Rattle.std.specs.Prelude.{◌≡◌, ◌≢◌, ◌≤◌, ◌+◌, ℕ, [], length, true, false, Option, Some, None, Result, Ok, Err, IfSome}
use Rattle.flac_bits.specs.State.{State}
use Rattle.flac_bits.specs.declared.why.Why.{Why}
use Rattle.flac_bits.specs.declared.why.Why.TheVariants.{Read, Truncated, PacketLength}
use Rattle.flac_pages.specs.Packets.{Place, Met, after_of, on_page, ReadsPages, BreaksAt}
use Rattle.flac_pages.specs.Items.{PacketEnd, whole, cut_at, end_of, cut_off}

-- the reason if a field needs more bits than the packet has
abbrev pub short_at : PacketEnd → Why
short_at (cut_at n why) = Read
short_at other = Truncated

-- ---- how it is read

-- the reason of an item's reader as one of the packet; `fault` is the page's fault that the reader met, if any
abbrev pub why_in : Option (ℕ × Why) → Why → Option ℕ × Why
why_in fault Truncated = (None, PacketLength)
why_in None Read = (None, Read)
why_in (Some f) Read = (Some f.0, f.1)
why_in fault why = (None, why)

-- ---- what the calls do that check a packet's end

-- the reason is Read, and an announced error comes in place of the end of the bits
abbrev pub FailsAtEnd : State → State → Why → Type 0
FailsAtEnd old new e = (e ≡ Read) × (old.known ≡ true → new.errors ≡ old.errors → (old.cursor.left ≡ []) × (old.cursor.mark.short ≡ Read))

-- A reader of packets passed the packet that it had begun, to the start of the next one. Or the packet does not end
-- there, and this is why.
abbrev pub EndsPacket : {X : Type 0} → Place → Place → Result X (Option ℕ × Why) → Type 0
EndsPacket old new (Ok x) = record {
  known : old.known ≡ true → new.known ≡ true;
  errors : new.errors ≡ old.errors;
  raised : new.raised ≡ old.raised;
  names : new.names ≡ old.names;
  stands : (new.rest ≡ 0) × (new.more ≡ false);
  room : new.most + length new.body ≤ old.most + length old.body;
  ended : old.known ≡ true → end_of (after_of old) ≡ whole;
  after : old.known ≡ true → after_of new ≡ after_of old;
  pages : old.known ≡ true → ReadsPages (on_page old) (on_page new);
}
EndsPacket old new (Err why) = record {
  errors : old.errors ≤ new.errors;
  met : Met why.1 old.raised new.raised;
  names : new.names ≡ old.names;
  fault : old.known ≡ true → new.errors ≡ old.errors → (end_of (after_of old) ≢ whole) × (why ≡ cut_off (end_of (after_of old)));
  breaks : old.known ≡ true → IfSome why.0 (λ n. (old.more ≡ true) × BreaksAt (on_page old) n);
}
