-- For proofs of reading packets: what the steps of a reader do.
use Rattle.std.specs.Prelude.{◌≡◌, ℕ, ◌+◌, ◌*◌, ◌<◌, Bool, true, false, List, [], ◌∷◌, ◌++◌, length, take, Option, Some, None, nat_eq, Result, Ok, Err, ◌≤◌}
use Rattle.flac_bits.specs.declared.why.Why.{Why}
use Rattle.flac_pages.specs.Packets.{Place, Ahead, ahead, rest_of, after_of, broken_off, on_page, ReadsPages, BreaksAt, Met}

-- ---- the state of a reader of packets

-- a page's fault, and nothing before it
abbrev pub only_fault : ℕ × Why → Ahead
only_fault f = record { lacing = []; bytes = []; fault = Some f; stop = Some f }

-- ---- what the calls of a reader do

-- the next segment of the page
abbrev pub next_segment : Place → List ℕ → Place
next_segment p [] = p
next_segment p (v ∷ vs) = record p { rest = v; more = nat_eq v 255; lacing = vs }

-- Within a packet further pages were read, and what cuts the packet off there does so from the start too.
pub record Follows (old new : Place) : Type 0 where
  pub known : old.known ≡ true → new.known ≡ true
  pub more : new.more ≡ true → old.more ≡ true
  pub pages : old.known ≡ true → ReadsPages (on_page old) (on_page new)
  pub breaks : old.known ≡ true → new.more ≡ true → (n : ℕ) → BreaksAt (on_page new) n → BreaksAt (on_page old) n

-- the next page, or its fault: what good pages have stays
abbrev pub Turns : {X : Type 0} → Place → Place → Result X Why → Type 0
Turns old new (Ok x) = record {
  known : old.known ≡ true → new.known ≡ true;
  errors : new.errors ≡ old.errors;
  raised : new.raised ≡ old.raised;
  names : new.names ≡ old.names;
  rest : new.rest ≡ 0;
  more : new.more ≡ old.more;
  room : new.most + length new.body ≤ old.most;
  spends : 256 * new.most + length new.lacing < 256 * old.most;
  ahead : old.known ≡ true → ahead new ≡ ahead old;
  pages : old.known ≡ true → ReadsPages (on_page old) (on_page new);
  breaks : old.known ≡ true → (n : ℕ) → BreaksAt (on_page new) n → BreaksAt (on_page old) n;
}
Turns old new (Err why) = record {
  errors : old.errors ≤ new.errors;
  met : Met why old.raised new.raised;
  names : new.names ≡ old.names;
  count : new.count ≡ old.count;
  last : new.last ≡ false;
  ahead : old.known ≡ true → new.errors ≡ old.errors → ahead old ≡ only_fault (old.count, why);
  breaks : BreaksAt (on_page old) new.count;
}

-- A step towards the packet's next bytes: the same bytes are still to come, and the same after them. There is none to
-- make at the packet's end; and what is refused is the fault after the packet's last good byte.
abbrev pub Steps : Place → Place → Result Bool Why → Type 0
Steps old new (Ok true) = record {
  known : old.known ≡ true → new.known ≡ true;
  errors : new.errors ≡ old.errors;
  raised : new.raised ≡ old.raised;
  names : new.names ≡ old.names;
  bytes : old.known ≡ true → rest_of new ≡ rest_of old;
  after : old.known ≡ true → after_of new ≡ after_of old;
  room : new.most + length new.body ≤ old.most + length old.body;
  spends : 256 * new.most + length new.lacing < 256 * old.most + length old.lacing;
  follows : Follows old new;
}
Steps old new (Ok false) = record { same : new ≡ old; bytes : rest_of old ≡ []; fault : (after_of old).fails ≡ None; none : old.more ≡ true → (ahead old).lacing ≡ [] }
Steps old new (Err why) = record {
  errors : old.errors ≤ new.errors;
  met : Met why old.raised new.raised;
  names : new.names ≡ old.names;
  count : new.count ≡ old.count;
  bytes : old.known ≡ true → new.errors ≡ old.errors → rest_of old ≡ [];
  after : old.known ≡ true → new.errors ≡ old.errors → after_of old ≡ broken_off (old.count, why);
  breaks : (old.more ≡ true) × BreaksAt (on_page old) new.count;
}

-- the next byte of the packet is found, or the packet's end, or the fault after its last good byte
abbrev pub Finds : Place → Place → Result Bool Why → Type 0
Finds old new (Ok found) = record {
  known : old.known ≡ true → new.known ≡ true;
  errors : new.errors ≡ old.errors;
  raised : new.raised ≡ old.raised;
  names : new.names ≡ old.names;
  room : new.most + length new.body ≤ old.most + length old.body;
  bytes : old.known ≡ true → rest_of new ≡ rest_of old;
  after : old.known ≡ true → after_of new ≡ after_of old;
  byte : found ≡ true → 0 < new.rest;
  over : found ≡ false → old.known ≡ true → (rest_of old ≡ []) × ((after_of old).fails ≡ None);
  stands : found ≡ false → (new.rest ≡ 0) × (new.more ≡ true → (ahead new).lacing ≡ []);
  follows : Follows old new;
}
Finds old new (Err why) = record {
  errors : old.errors ≤ new.errors;
  met : Met why old.raised new.raised;
  names : new.names ≡ old.names;
  bytes : old.known ≡ true → new.errors ≡ old.errors → rest_of old ≡ [];
  after : old.known ≡ true → new.errors ≡ old.errors → after_of old ≡ broken_off (new.count, why);
  breaks : old.known ≡ true → (old.more ≡ true) × BreaksAt (on_page old) new.count;
}

-- n bytes of the packet are copied to the front of the buffer
pub record Copies (old new : Place) (out : List ℕ) (n : ℕ) : Type 0 where
  pub known : new.known ≡ old.known
  pub errors : new.errors ≡ old.errors
  pub raised : new.raised ≡ old.raised
  pub names : new.names ≡ old.names
  pub room : new.most + length new.body + n ≤ old.most + length old.body
  pub bytes : rest_of old ≡ take n out ++ rest_of new
  pub after : after_of new ≡ after_of old
  pub follows : Follows old new

-- after the last page: no packet, or the fault there
abbrev pub ended : ℕ → Option Why → Result Bool (ℕ × Why)
ended n None = Ok false
ended n (Some why) = Err (n, why)
