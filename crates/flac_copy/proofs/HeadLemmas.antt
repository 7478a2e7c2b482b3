-- Blocks that are read one after another.
use Rattle.std.proofs.Common.{◌≡◌, ◌≢◌, ℕ, ◌+◌, ◌-◌, ◌*◌, ◌/◌, ◌%◌, ◌^◌, ◌<◌, ◌≤◌, min, Bool, true, false, not, List, [], ◌∷◌, ◌++◌, length, length-append, take, drop, None, is_some, Ok, refl, sym, ap, subst, ◌∙◌, append_assoc, arith}
use Rattle.std.specs.Bool.{⊤}
use Rattle.std.specs.Borrow.{GName}
use Rattle.std.proofs.lemmas.Bool.{and_from}
use Rattle.std.proofs.lemmas.List.{append-nil, take_at, drop-append-le, take-append-drop}
use Rattle.flac_bits.specs.Bits.{bits_of}
use Rattle.flac_bits.specs.State.{State, Mark, past, fresh}
use Rattle.flac_bits.specs.Meaning.{Spells}
use Rattle.flac_bits.specs.Fence.{InRoom}
use Rattle.flac_bits.specs.Reading.{Counts, CallInPlace, Reads}
use Rattle.flac_bits.specs.declared.source.Source as source
use Rattle.flac_bits.proofs.Fencing.{take_bits}
use Rattle.flac_bits.proofs.Holding.{length-bits_of}
use Rattle.flac_bits.proofs.ItemSpellings.{fresh_unread, after_whole}
use Rattle.flac_bits.proofs.Marks.{past-unread, past-bytes}
use Rattle.flac_bits.proofs.Meaning.{takes}
use Rattle.flac_bits.proofs.Readings.{past-append}
use Rattle.flac_meta.specs.declared.block.Block.{Block}
use Rattle.flac_header.specs.declared.subset.Profile.{Profile}
use Rattle.flac_native.specs.Stream.{Piece, Stand, Progress, marked, opening, next, layout, marker, phase_after, room_in, stand_after}
use Rattle.flac_native.specs.Track.{is_after_blocks, stand_of}
use Rattle.flac_native.specs.declared.track.Phase.{Phase}
use Rattle.flac_native.specs.declared.track.Phase.TheVariants.{Opening, Blocks, Frames}
use Rattle.flac_native.specs.declared.track.Track.{Track}
use Rattle.flac_native.proofs.Onwards.{step_of, nothing_told}
use Rattle.flac_pages.specs.Packets.{Place}
use Rattle.flac_pages.specs.Items.{whole, IsItem}
use Rattle.flac_ogg.specs.Mapping.{packet_layout}
use Rattle.flac_ogg.specs.Stream.{start, packet_start}
use Rattle.flac_ogg.proofs.NativeItems.{Begun, moved}
use Rattle.flac_copy.specs.Again.{all_of, known_of, HoldsFirst}
use Rattle.flac_copy.specs.Parts.{piece, IsPart}
use Rattle.flac_copy.specs.Heads.{pieces, blocks_in, IsBegun, Leads, TakesBlock, TakesBlocks, TakesHead, PassesHead, ReadsHead, TakesHeader, TakesHeaders}
use Rattle.flac_copy.specs.declared.again.Again.{Again}
use Rattle.flac_copy.proofs.InputLemmas.{takes_then}
use Rattle.flac_copy.proofs.FramesKept.{reader_over, GotBack, holds_of, calm_is}

-- ---- one part

pub blocks_next : (phase : Phase) → phase ≢ Opening → is_after_blocks phase ≡ false → phase ≡ Blocks
blocks_next Opening begun before = absurd (begun refl)
blocks_next Blocks begun before = refl
blocks_next Frames begun before = absurd cc

not_opening : (last : Bool) → phase_after last ≢ Opening
not_opening true e = absurd cc
not_opening false e = absurd cc

no_frames : {X : Type 0} (phase : Phase) → phase ≡ Blocks → phase ≡ Frames → X
no_frames Blocks e f = absurd cc
no_frames Opening e f = absurd cc
no_frames Frames e f = absurd cc

no_bound : (phase : Phase) (m : Mark) (text : List Bool) → phase ≡ Blocks → InRoom (room_in phase) m text
no_bound Blocks m text e = tt
no_bound Opening m text e = tt
no_bound Frames m text e = absurd cc

pub at_start : (profile : Profile) → IsBegun (start profile).stand
at_start profile = record { opened = λ e. absurd cc; rules = λ i e. absurd cc }

-- a block is the same wherever whole bytes end, and so is what follows it
block_leads : (p : Progress) (x : Piece) (m : Mark) (text : List Bool) (xs : List Piece) (others : List Bool) → p.stand.phase ≡ Blocks → IsBegun p.stand → Spells (layout p.stand) m text x → Leads (next p x) xs others → Leads p (x ∷ xs) (text ++ others)
block_leads p x m text xs others phase begun spelled later k z more rest there =
    let b : Begun p.stand = record { opened = begun.opened; rules = begun.rules } in
    let here = moved p.stand m (fresh k) text x b (no_frames p.stand.phase phase) (no_frames p.stand.phase phase) spelled in
    let step = step_of p.stand k text x begun.rules z here.spelled in (
      text,
      others ++ rest,
      append_assoc text others rest,
      here.spelled,
      no_bound p.stand.phase (fresh k) text phase,
      later (past text (fresh k)) (after_whole text (fresh k) (fresh_unread k z) step.whole) more rest there,
    )

block_begins : (s : Stand) (x : Piece) (m : Mark) (text : List Bool) → s.phase ≡ Blocks → IsBegun s → Spells (layout s) m text x → IsBegun (stand_after s x)
block_begins s x m text phase begun spelled =
    let b : Begun s = record { opened = begun.opened; rules = begun.rules } in
    let here = moved s m m text x b (no_frames s.phase phase) (no_frames s.phase phase) spelled in
    record { opened = here.begun.opened; rules = here.begun.rules }

-- ---- blocks

pub more_blocks : (t0 t1 end : Track) (s0 s1 s2 : State) (bs0 bs1 bs : List Block) → is_after_blocks (stand_of t0).phase ≡ false → TakesBlock t0 t1 s0 s1 bs0 bs1 → TakesBlocks t1 end s1 s2 bs1 bs → TakesBlocks t0 end s0 s2 bs0 bs
more_blocks t0 t1 end s0 s1 s2 bs0 bs1 bs before one later known p at begun =
    let x = piece one.part in
    let stands : stand_of t0 ≡ p.stand = at.stand in
    let phase : p.stand.phase ≡ Blocks = blocks_next p.stand.phase begun.opened (ap (λ (s : Stand). is_after_blocks s.phase) (sym stands) ∙ before) in
    let read = one.text (ap (λ (s : Stand). s.phase) stands ∙ phase) known in
    let d = read.1 in
    let spelled : Spells (layout p.stand) s0.cursor.mark d.0 x = subst (λ (s : Stand). Spells (layout s) s0.cursor.mark d.0 x) stands d.2 in
    let rest = later read.0 (next p x) (one.read p at) (block_begins p.stand x s0.cursor.mark d.0 phase begun spelled) in
    record {
      parts = one.part ∷ rest.parts;
      at = rest.at;
      added = rest.added ∙ ap (λ l. l ++ blocks_in rest.parts) one.added ∙ append_assoc bs0 (one.part.block ∷ []) (blocks_in rest.parts);
      phase = rest.phase;
      begun = rest.begun;
      text = d.0 ++ rest.text;
      consumed = (
        d.1.0 ∙ ap (λ l. d.0 ++ l) rest.consumed.0 ∙ sym (append_assoc d.0 rest.text s2.cursor.left),
        rest.consumed.1 ∙ ap (past rest.text) d.1.1 ∙ sym (past-append d.0 rest.text s0.cursor.mark),
      );
      leads = block_leads p x s0.cursor.mark d.0 (pieces rest.parts) rest.text phase begun spelled rest.leads;
    }

pub no_block : (t : Track) (s : State) (bs : List Block) → is_after_blocks (stand_of t).phase ≡ true → TakesBlocks t t s s bs bs
no_block t s bs over known p at begun = record {
  parts = [];
  at = at;
  added = sym (append-nil bs);
  phase = over;
  begun = begun;
  text = [];
  consumed = (refl, refl);
  leads = λ m z more rest there. there m z;
}

-- ---- the marker before them

marker_leads : (profile : Profile) (u : ⊤) (m : Mark) (text : List Bool) (xs : List Piece) (others : List Bool) → Spells marker m text u → Leads (start profile) xs others → Leads (opening profile) (marked ∷ xs) (text ++ others)
unfolding layout marker
marker_leads profile u m text xs others spelled later k z more rest there =
    let here : Spells (layout (opening profile).stand) (fresh k) text marked = (u, text, [], sym (append-nil text), spelled, (refl, refl)) in
    let step = step_of (opening profile).stand k text marked nothing_told z here in (
      text,
      others ++ rest,
      append_assoc text others rest,
      here,
      tt,
      later (past text (fresh k)) (after_whole text (fresh k) (fresh_unread k z) step.whole) more rest there,
    )

-- two calls one after another met no error
counts_then : (s0 s1 s2 : State) → Counts {X = ⊤} s0 s1 (Ok tt) → Counts {X = ⊤} s1 s2 (Ok tt) → Counts {X = ⊤} s0 s2 (Ok tt)
counts_then s0 s1 s2 a b = (λ k. b.0 (a.0 k), b.1 ∙ a.1, b.2 ∙ a.2, λ k. b.3 (a.0 k) ∙ a.3 k, b.4 ∙ a.4)

pub head_taken : (t0 t1 : Track) (s0 s1 s2 : State) (bs0 bs : List Block) (n : ℕ) → CallInPlace 32 (Reads {X = ⊤} (λ u. u) marker) s0 s1 (Ok tt) → TakesBlocks t0 t1 s1 s2 bs0 bs → Counts {X = ⊤} s1 s2 (Ok tt)
    → n ≡ s2.cursor.mark.bytes → s2.cursor.mark.unread ≡ 0 → n < 2 ^ 64 - 1 → TakesHead t0 t1 s0 s2 bs0 bs n
head_taken t0 t1 s0 s1 s2 bs0 bs n call blocks counts count ended few = record {
  counts = counts_then s0 s1 s2 call.counts counts;
  head = λ known profile at.
      let m = takes marker s0.cursor.left s0.cursor.mark tt s1.cursor (call.reads known call.counts.1) in
      let h = blocks (call.counts.0 known) (start profile) at (at_start profile) in
      let mark : s2.cursor.mark ≡ past (m.0 ++ h.text) s0.cursor.mark = h.consumed.1 ∙ ap (past h.text) m.3 ∙ sym (past-append m.0 h.text s0.cursor.mark) in
      record {
        parts = h.parts;
        at = h.at;
        added = h.added;
        phase = h.phase;
        begun = h.begun;
        text = m.0 ++ h.text;
        split = m.1 ∙ ap (λ l. m.0 ++ l) h.consumed.0 ∙ sym (append_assoc m.0 h.text s2.cursor.left);
        leads = marker_leads profile tt s0.cursor.mark m.0 (pieces h.parts) h.text m.2 h.leads;
        count = count ∙ ap (λ (k : Mark). k.bytes) mark;
        whole = ap (λ (k : Mark). k.unread) (sym mark) ∙ ended;
        few = few;
      };
}

-- ---- their bytes

-- a text that ends at a whole byte is the first n bytes
record FrontOf (all : List ℕ) (text : List Bool) (n : ℕ) : Type 0 where
  text_is : text ≡ bits_of (take n all)
  few : n ≤ length all

front_of : (all : List ℕ) (text left : List Bool) (n : ℕ) (m : Mark) → m.unread ≡ 0 → m.bytes ≡ 0 → bits_of all ≡ text ++ left → n ≡ (past text m).bytes → (past text m).unread ≡ 0 → n < 2 ^ 64 - 1 → FrontOf all text n
front_of all text left n m at first split count ended few =
    let unread : (past text m).unread ≡ (0 + 7 * length text) % 8 = past-unread text 0 m at (omega arith) in
    let bytes : (past text m).bytes ≡ min (0 + (length text + 7 - 0) / 8) (2 ^ 64 - 1) = past-bytes text 0 0 m at (omega arith) first (omega arith) in
    let eights : (7 * length text) % 8 ≡ 0 = omega (arith, unread, ended) in
    let even : length text % 8 ≡ 0 = omega (arith, eights) in
    let long : length text ≡ 8 * n = omega (arith, bytes, count, even, few) in
    let total : 8 * length all ≡ length text + length left = sym (length-bits_of all) ∙ ap (λ (l : List Bool). length l) split ∙ length-append text left in
    record {
      text_is = sym (take_at text left (8 * n) long) ∙ ap (λ t. take (8 * n) t) (sym split) ∙ take_bits n all;
      few = omega (arith, long, total);
    }

-- a reader over a source whose bytes come again took the head, and the source is got back
pub passed_head : {S : Type 0} (g : source.Ghosts S) (t0 t1 : Track) (old new : Again S) (most n : ℕ) (names : List GName) (end : State) (bs0 bs : List Block)
    → old.given ≡ 0 → g.names new.source ≡ g.names old.source → TakesHead t0 t1 (reader_over g old most names) end bs0 bs n → GotBack g new end → PassesHead g t0 t1 old new bs0 bs n
passed_head g t0 t1 old new most n names end bs0 bs given same t back calm known profile at =
    let known_is : known_of g.known old ≡ true = and_from (g.known old.source) (not (is_some old.fault)) known (calm_is old.fault calm) in
    let h = t.head known_is profile at in
    let left : List Bool = end.cursor.left in
    let split : bits_of (all_of g.coming old) ≡ h.text ++ left = subst (λ k. bits_of (drop k old.held.items ++ g.coming old.source) ≡ h.text ++ left) given h.split in
    let front = front_of (all_of g.coming old) h.text left n (reader_over g old most names).cursor.mark refl refl split h.count h.whole h.few in
    record {
      holds = holds_of g old new end same t.counts.0 t.counts.1 t.counts.2 t.counts.3 back calm known;
      few = front.few;
      parts = h.parts;
      at = h.at;
      added = h.added;
      phase = h.phase;
      begun = h.begun;
      leads = subst (λ l. Leads (opening profile) (marked ∷ pieces h.parts) l) front.text_is h.leads;
    }

-- the bytes of the head were held and dropped
pub head_dropped : {S : Type 0} (g : source.Ghosts S) (t0 t1 : Track) (n : ℕ) (a0 a1 a2 a3 : Again S) (bs0 list : List Block) → PassesHead g t0 t1 a0 a1 bs0 list n → bs0 ≡ [] → HoldsFirst g n a1 a2
    → a3.held.items ≡ drop n a2.held.items → a3.source ≡ a2.source → a3.fault ≡ a2.fault → ReadsHead g t0 t1 a0 a3 list
head_dropped g t0 t1 n a0 a1 a2 a3 bs0 list passes empty holds dropped source_is fault_is calm known profile at =
    let h = passes calm known profile at in
    let held = holds.0 in
    let here = h.holds.known known in
    let all : all_of g.coming a2 ≡ all_of g.coming a0 = held.all here ∙ h.holds.all known in
    let left : all_of g.coming a3 ≡ drop n (all_of g.coming a0) =
    ap (λ b. b ++ g.coming a3.source) dropped ∙ ap (λ r. drop n a2.held.items ++ g.coming r) source_is ∙ sym (drop-append-le n a2.held.items (g.coming a2.source) holds.1) ∙ ap (drop n) all in
    record {
      parts = h.parts;
      list_is = h.added ∙ ap (λ l. l ++ blocks_in h.parts) empty;
      at = h.at;
      phase = h.phase;
      begun = h.begun;
      head = take n (all_of g.coming a0);
      split = sym (take-append-drop n (all_of g.coming a0)) ∙ ap (λ b. take n (all_of g.coming a0) ++ b) (sym left);
      leads = h.leads;
      known = ap g.known source_is ∙ held.known here;
      fault = fault_is ∙ held.fault;
    }

-- ---- header packets

pub more_headers : (t0 t1 end : Track) (p q r : Place) (bs0 bs1 bs : List Block) → is_after_blocks (stand_of t0).phase ≡ false → TakesHeader t0 t1 p q bs0 bs1 → TakesHeaders t1 end q r bs1 bs → TakesHeaders t0 end p r bs0 bs
more_headers t0 t1 end p q r bs0 bs1 bs before one later known g at begun =
    let part = one.adds.part in
    let x = piece part in
    let stands : stand_of t0 ≡ g.stand = at.stand in
    let phase : g.stand.phase ≡ Blocks = blocks_next g.stand.phase begun (ap (λ (s : Stand). is_after_blocks s.phase) (sym stands) ∙ before) in
    let got = one.next known in
    let is : IsPart g.stand one.packet x = subst (λ (s : Stand). IsPart s one.packet x) stands (one.adds.is (ap (λ (s : Stand). s.phase) stands ∙ phase)) in
    let whole_is : IsPart g.stand got.packet x = subst (λ b. IsItem (room_in g.stand.phase) (packet_layout g.stand) (packet_start None) (record { bits = b; ends = whole }) x) (sym got.bits) is in
    let rest = later got.known (next g x) (one.adds.read g at) (not_opening part.last) in
    record {
      packets = got.packet ∷ rest.packets;
      parts = part ∷ rest.parts;
      are = (whole_is, rest.are);
      taken = takes_then p q r got.packet rest.packets got.taken rest.taken;
      known = rest.known;
      at = rest.at;
      added = rest.added ∙ ap (λ l. l ++ blocks_in rest.parts) one.adds.added ∙ append_assoc bs0 (part.block ∷ []) (blocks_in rest.parts);
      phase = rest.phase;
    }

pub no_header : (t : Track) (p : Place) (bs : List Block) → is_after_blocks (stand_of t).phase ≡ true → TakesHeaders t t p p bs bs
no_header t p bs over known g at begun = record { packets = []; parts = []; are = tt; taken = refl; known = known; at = at; added = sym (append-nil bs); phase = over }
