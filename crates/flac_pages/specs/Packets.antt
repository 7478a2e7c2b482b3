-- Packets of pages (RFC 3533, sections 5 and 6).
use Rattle.std.specs.Prelude.{◌≡◌, ℕ, suc, ◌+◌, ◌-◌, ◌*◌, ◌/◌, ◌%◌, ◌<◌, Bool, true, false, cond, List, [], ◌∷◌, ◌++◌, length, take, drop, map, replicate, Option, Some, None, nat_eq, ◌&&◌, not, min, Result, Ok, Err, ◌≤◌}
use Rattle.std.specs.Borrow.{GName}
use Rattle.std.specs.List.{flat_map}
use Rattle.flac_bits.specs.Bits.{bits_of}
use Rattle.flac_bits.specs.State.{Cursor, After, Rises, short_of}
use Rattle.flac_bits.specs.declared.source.Source as source
use Rattle.flac_bits.specs.declared.why.Why.{Why}
use Rattle.flac_bits.specs.Reasons.{of_output}
use Rattle.flac_bits.specs.declared.why.Why.TheVariants.{Read}
use Rattle.flac_pages.specs.declared.page.Before.{Before}
use Rattle.flac_pages.specs.Page.{Page}
use Rattle.flac_pages.specs.Pages.{Run, Stop, closed, broken, pages_after, end_fault}

-- ---- packets, apart from any reading

-- the lacing values of a packet: one of 255 for each 255 bytes, and one for the rest, which may be 0
unfoldable pub lacing_of : List ℕ → List ℕ
lacing_of packet = replicate (length packet / 255) 255 ++ (length packet % 255) ∷ []

-- the lacing values of all pages are those of the packets one after another, and of a packet that goes on after them;
-- and so are the pages' bytes
pub record Packets (pages : List Page) (packets : List (List ℕ)) (begun : List ℕ) : Type 0 where
  pub full : ℕ
  pub lacing : flat_map (λ p. p.lacing) pages ≡ flat_map lacing_of packets ++ replicate full 255
  pub bytes : flat_map (λ p. p.body) pages ≡ flat_map (λ packet. packet) packets ++ begun
  pub part : length begun ≡ 255 * full

-- ---- the state of a reader of packets

-- how many bytes the packet still has whose next lacing values these are
abbrev pub size : List ℕ → ℕ
size [] = 0
size (v ∷ vs) = v + cond (nat_eq v 255) (size vs) 0

-- whether it ends among them
abbrev pub ends : List ℕ → Bool
ends [] = false
ends (v ∷ vs) = cond (nat_eq v 255) (ends vs) true

-- the lacing values after it
abbrev pub past_packet : List ℕ → List ℕ
past_packet [] = []
past_packet (v ∷ vs) = cond (nat_eq v 255) (past_packet vs) vs

-- Inside a segment, of which `rest` bytes are to come, and after which the packet goes on or ends; then what the page
-- has still to come, and what the source has.
pub record Place : Type 0 where
  pub known : Bool
  pub errors : ℕ
  pub raised : ℕ
  pub most : ℕ
  pub names : List GName
  pub rest : ℕ
  pub more : Bool
  pub lacing : List ℕ
  pub body : List ℕ
  pub last : Bool
  pub before : Option Before
  pub count : ℕ
  pub cursor : Cursor

-- before the first byte of a source, of which these bits are to come; they run short for this reason
abbrev pub at_front : Bool → (errors raised most : ℕ) → List GName → List Bool → Why → Place
at_front known errors raised most names text short = record {
  known = known;
  errors = errors;
  raised = raised;
  most = most;
  names = names;
  rest = 0;
  more = false;
  lacing = [];
  body = [];
  last = false;
  before = None;
  count = 0;
  cursor = record { left = text; mark = record { unread = 0; bytes = 0; check8 = 0; check16 = 0; short = short } };
}

-- the same of this source: before its first byte
abbrev pub at_front_of : {R : Type 0} → source.Ghosts R → R → Place
at_front_of g s = at_front (g.known s) (g.errors s) (g.raised s) (8 * g.most s) (g.names s) (bits_of (g.coming s)) (short_of ((g.after s).fails))

-- What good pages still have: lacing values and bytes; then the page, counted from 0, and its fault, if one ends them
-- early; and the fault if no packet is left, such as a byte after the last page.
pub record Ahead : Type 0 where
  pub lacing : List ℕ
  pub bytes : List ℕ
  pub fault : Option (ℕ × Why)
  pub stop : Option (ℕ × Why)

-- an index of a page, which stops at 2^64 - 1
abbrev pub page_index : ℕ → ℕ
page_index n = min n 18446744073709551615

abbrev pub at_page : ℕ → Option Why → Option (ℕ × Why)
at_page n None = None
at_page n (Some why) = Some (page_index n, why)

abbrev pub fault_of : ℕ → Stop → Option (ℕ × Why)
fault_of n (closed c) = None
fault_of n (broken why) = Some (page_index n, why)

abbrev pub stop_of : ℕ → Stop → Option (ℕ × Why)
stop_of n (closed c) = at_page n (end_fault c)
stop_of n (broken why) = Some (page_index n, why)

abbrev pub to_come : Place → Run
to_come p = pages_after p.last p.before p.cursor

unfoldable pub ahead : Place → Ahead
ahead p = record {
  lacing = p.lacing ++ flat_map (λ q. q.lacing) (to_come p).pages;
  bytes = p.body ++ flat_map (λ q. q.body) (to_come p).pages;
  fault = fault_of (p.count + length (to_come p).pages) (to_come p).stop;
  stop = stop_of (p.count + length (to_come p).pages) (to_come p).stop;
}

-- how many bytes of the packet are still to come
abbrev pub left_in : ℕ → Bool → List ℕ → ℕ
left_in rest more lacing = rest + cond more (size lacing) 0

-- the bytes of the packet still to come that good pages have
abbrev pub rest_in : ℕ → Bool → Ahead → List ℕ
rest_in rest more a = take (left_in rest more a.lacing) a.bytes

-- after them: the page, and its fault, that cuts the packet off; whether no lacing value ends it; and all that good
-- pages have after it
abbrev pub after_in : ℕ → Bool → Ahead → After
after_in rest more a = record {
  fails = cond (more && not (ends a.lacing)) a.fault None;
  cut = more && not (ends a.lacing);
  pieces = cond more (past_packet a.lacing) a.lacing;
  bytes = drop (left_in rest more a.lacing) a.bytes;
  fault = a.fault;
  stop = a.stop;
  fenced = [];
}

unfoldable pub rest_of : Place → List ℕ
rest_of p = rest_in p.rest p.more (ahead p)

unfoldable pub after_of : Place → After
after_of p = after_in p.rest p.more (ahead p)

-- if a page's fault cuts the packet off
abbrev pub broken_off : ℕ × Why → After
broken_off f = record { fails = Some f; cut = true; pieces = []; bytes = []; fault = Some f; stop = Some f; fenced = [] }

-- ---- the page that a reader of packets is on

-- How many pages were read, and the lacing values still to come, page by page: those that are left of this page, and
-- those of each good page after it.
pub record OnPage : Type 0 where
  pub known : Bool
  pub more : Bool
  pub count : ℕ
  pub lacing : List ℕ
  pub after : List (List ℕ)

unfoldable pub on_page : Place → OnPage
on_page p = record { known = p.known; more = p.more; count = p.count; lacing = p.lacing; after = map (λ q. q.lacing) (to_come p).pages }

-- how many pages were read between
abbrev pub read_since : (old new : OnPage) → ℕ
read_since old new = length old.after - length new.after

-- further pages were read, which are counted up to the largest index
pub record ReadsPages (old new : OnPage) : Type 0 where
  pub fewer : length new.after ≤ length old.after
  pub after : new.after ≡ drop (read_since old new) old.after
  pub count : page_index new.count ≡ page_index (old.count + read_since old new)

-- all lacing values still to come
abbrev pub coming : OnPage → List ℕ
coming p = p.lacing ++ flat_map (λ lacing. lacing) p.after

-- the packet that was begun was passed, which ends among the lacing values to come
pub record PassesPacket (old new : OnPage) : Type 0 where
  pub pages : ReadsPages old new
  pub ended : ends (coming old) ≡ true
  pub passed : coming new ≡ past_packet (coming old)

-- how many of these pages one after another have no packet's end among their lacing values
abbrev pub open_in : List (List ℕ) → ℕ
open_in [] = 0
open_in (page ∷ pages) = cond (ends page) 0 (suc (open_in pages))

-- Further pages were read, n in all, and the packet that comes next or was begun ends in none of them.
pub record BreaksAt (p : OnPage) (n : ℕ) : Type 0 where
  pub index : page_index n ≡ n
  pub from : p.count ≤ n
  pub below : n < p.count + open_in (p.lacing ∷ p.after)

-- ---- what the calls of a reader do

-- A call that failed for this reason: with Read it met an error of the device, whose count rose, if it could; and no
-- reader returns an error of the output.
abbrev pub Met : Why → ℕ → ℕ → Type 0
Met why old new = (why ≡ Read → Rises old new) × (of_output why ≡ false)

-- The next packet is begun, of which good pages have a lacing value. Or they have none: if there is no fault, all
-- packets were read; or this is the fault, of the next page or after the page marked last.
abbrev pub Begins : Place → Place → Result Bool (ℕ × Why) → Type 0
Begins old new (Ok true) = record {
  known : old.known ≡ true → new.known ≡ true;
  errors : new.errors ≡ old.errors;
  raised : new.raised ≡ old.raised;
  names : new.names ≡ old.names;
  stands : (new.rest ≡ 0) × (new.more ≡ true);
  some : 0 < length new.lacing;
  room : new.most + length new.body ≤ old.most + length old.body;
  ahead : old.known ≡ true → ahead new ≡ ahead old;
  pages : old.known ≡ true → ReadsPages (on_page old) (on_page new);
  breaks : old.known ≡ true → (n : ℕ) → BreaksAt (on_page new) n → BreaksAt (on_page old) n;
}
Begins old new (Ok false) = record {
  known : old.known ≡ true → new.known ≡ true;
  errors : new.errors ≡ old.errors;
  raised : new.raised ≡ old.raised;
  names : new.names ≡ old.names;
  over : old.known ≡ true → ((ahead old).lacing ≡ []) × ((ahead old).stop ≡ None);
}
Begins old new (Err f) = record {
  errors : old.errors ≤ new.errors;
  met : Met f.1 old.raised new.raised;
  names : new.names ≡ old.names;
  fault : old.known ≡ true → new.errors ≡ old.errors → ((ahead old).lacing ≡ []) × ((ahead old).stop ≡ Some f);
  breaks : old.known ≡ true → new.errors ≡ old.errors → (ahead old).fault ≡ cond new.last None (Some f);
  pages : old.known ≡ true → BreaksAt (on_page old) f.0;
}

-- ---- one packet as a source

-- what is left of a packet's bytes, and the fault after them, once a fault was met or before
abbrev pub left_of : Option (ℕ × Why) → Place → List ℕ
left_of None p = rest_of p
left_of (Some f) p = []

abbrev pub after_left : Option (ℕ × Why) → Place → After
after_left None p = after_of p
after_left (Some f) p = broken_off f
