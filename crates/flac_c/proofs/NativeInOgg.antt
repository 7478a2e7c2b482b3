-- Pages that are read one after another, and the native stream in their packets.
use Rattle.std.proofs.Common.{◌≡◌, inl, inr, ℕ, ◌+◌, ◌^◌, ◌<◌, Bool, true, false, cond, not, ◌||◌, nat_eq, List, [], ◌∷◌, ◌++◌, length, drop, map, Option, Some, None, Result, Ok, Err, refl, sym, ap, subst, ◌∙◌, append_assoc, length-append, arith}
use Rattle.std.specs.Prelude.{⊤, OnOk, IfErr}
use Rattle.std.proofs.lemmas.Bool.Decides.{nat_tests}
use Rattle.std.proofs.lemmas.List.{append-nil}
use Rattle.std.proofs.Math.Seq.{drop-append_seam}
use Rattle.flac_bits.specs.Bits.{unsigned, bits_of, is_nil}
use Rattle.flac_bits.specs.State.{Mark, Cursor, State, past, fresh}
use Rattle.flac_bits.specs.Forms.{joined}
use Rattle.flac_bits.specs.Layout.{Reason, because, run}
use Rattle.flac_bits.specs.Meaning.{Spells}
use Rattle.flac_bits.specs.Reading.{Counts, Reads}
use Rattle.flac_bits.specs.Unchecked.{begun_anew, Passes}
use Rattle.flac_bits.specs.Items.{Stream, state_after}
use Rattle.flac_bits.specs.declared.why.Why.{Why}
use Rattle.flac_bits.specs.declared.why.Why.TheVariants.{Truncated, Memory, Read, PageOrder}
use Rattle.flac_bits.proofs.Readings.{at_}
use Rattle.flac_bits.proofs.Meaning.{again, takes, differ, past-short}
use Rattle.flac_bits.proofs.Fencing.{drop_bits}
use Rattle.flac_bits.proofs.Holding.{bits_of-append}
use Rattle.flac_bits.proofs.Words.{length-unsigned}
use Rattle.flac_header.specs.declared.subset.Profile.{Profile}
use Rattle.flac_native.specs.Decoding.{beginning}
use Rattle.flac_native.specs.Stream.{Piece, marked, grammar, opening}
use Rattle.flac_native.specs.Item.{fault_pair}
use Rattle.flac_native.specs.declared.fault.Fault.{Fault}
use Rattle.flac_pages.specs.declared.page.Before.{Before}
use Rattle.flac_pages.specs.Page.{Page, page, is_last, after_page}
use Rattle.flac_pages.specs.Pages.{Run, next_page, pages_of, end_fault}
use Rattle.flac_pages.specs.Packets.{Place, Ahead, ahead, stop_of}
use Rattle.flac_pages.specs.Runs.{MeansPage}
use Rattle.flac_pages.proofs.PageRuns.{next_again, no_page_read, pages_are_runs}
use Rattle.flac_pages.proofs.Stepping.{closed_ahead, found}
use Rattle.flac_pages.proofs.Unchecked.{turned_anew, refused_anew}
use Rattle.flac_ogg.specs.Mapping.{mapping, packet_layout, page_place}
use Rattle.flac_ogg.specs.Stream.{start as ogg_start, packet_start, AreItems, OggStream}
use Rattle.flac_ogg.specs.Native.{native_text}
use Rattle.flac_ogg.proofs.MeaningContents.{ahead_of, begins_ahead, run_is}
use Rattle.flac_ogg.proofs.MeaningPackets.{bytes_in, bytes_of}
use Rattle.flac_ogg.proofs.NativeItems.{after_mapping, ogg_streams_are_streams}
use Rattle.flac_c.specs.Unpacked.{HasPages, IsPacked, BadPages, HasMapping, RefusesPages}
use Rattle.flac_c.specs.inner.Unpacked.{after_or_last, PageAdded, in_front, Unpacking, IsUnpacked, StopsAt}
use Rattle.flac_native.proofs.FramesRead.{at_bytes}
use Rattle.flac_c.proofs.Numbered.{memory_or_not, same_why}

-- ---- one page

next_read : (before : Option Before) (old new : Cursor) (p : Page) (text : List Bool) → Passes text old new → Spells (page before) old.mark text p → begun_anew (next_page before old) ≡ Ok (p, new)
next_read before old new p text passes spelled =
    ap (λ (t : List Bool). begun_anew (next_page before (at_ t old.mark))) passes.0
    ∙ ap (λ (r : Result (Page × Cursor) Reason). begun_anew r) (next_again before old.mark text new.left p spelled)
    ∙ ap (λ (m : Mark). okay (p, at_ new.left m)) (sym passes.1)
  where
    okay : Page × Cursor → Result (Page × Cursor) Reason
    okay x = Ok x

fresh_short : (m : Mark) → (fresh m).short ≡ m.short
fresh_short m = go (nat_eq m.unread 0) refl
  where
    go : (b : Bool) → nat_eq m.unread 0 ≡ b → (fresh m).short ≡ m.short
    go true e = rw e refl
    go false e = rw e refl

pub page_added : (before : Option Before) (old new : State) (p : Page) (list longer : List ℕ) (after : Option Before) → old.known ≡ true → Counts {X = ⊤} old new (Ok tt) → MeansPage {X = ⊤} (λ _. p) before old new (Ok tt)
    → longer ≡ list ++ p.body → after ≡ after_or_last before p → PageAdded before old new list longer after
page_added before old new p list longer after known counts means added is =
    let (text, passes, spelled) = (means known counts.1).found in
    record {
      page = p;
      read = next_read before old.cursor new.cursor p text passes spelled;
      added = added;
      after_is = is;
      known = counts.0 known;
      errors = counts.1;
      short = ap (λ (m : Mark). m.short) passes.1 ∙ fresh_short (past text old.cursor.mark) ∙ past-short text old.cursor.mark;
    }

pub page_refused : (before : Option Before) (old new : State) (p : Page) (why : Why) → old.known ≡ true → MeansPage {X = ⊤} (λ _. p) before old new (Err why) → new.errors ≡ old.errors → next_page before old.cursor ≡ Err (because why)
page_refused before old new p why known means quiet = no_page_read before old.cursor.mark old.cursor.left why (means known quiet).fault

-- ---- pages one after another

abbrev some_before : Before → Option Before
some_before b = Some b

more_come : (last : Bool) (b x : Before) → some_before b ≡ cond last None (Some x) → (last ≡ false) × (some_before b ≡ Some x)
more_come true b x e = absurd cc
more_come false b x e = (refl, e)

none_comes : (last : Bool) (x : Before) → None ≡ cond last None (some_before x) → last ≡ true
none_comes true x e = refl
none_comes false x e = absurd cc

-- after the page that was read
abbrev on : Option Before → Bool → ℕ → Page → Cursor → Place
on before last count p cursor = record (in_front before count cursor) { lacing = p.lacing; body = p.body; last = last }

on_gives : (before : Option Before) (count : ℕ) (p : Page) (cursor : Cursor) → ((ahead (on before false count p cursor)).bytes ≡ p.body ++ (ahead (in_front before count cursor)).bytes) × ((ahead (on before false count p cursor)).stop ≡ (ahead (in_front before count cursor)).stop)
unfolding ahead
on_gives before count p cursor = (refl, refl)

abbrev closed : Option Before → ℕ → Cursor → Place
closed before count cursor = record (in_front before count cursor) { last = true }

last_gives : (before : Option Before) (count : ℕ) (p : Page) (cursor : Cursor) → ((ahead (on before true count p cursor)).bytes ≡ p.body) × ((ahead (on before true count p cursor)).stop ≡ (ahead (closed before count cursor)).stop)
unfolding ahead
last_gives before count p cursor = (append-nil p.body, refl)

module _ (start : State) (now new : State) (before : Option Before) (count : ℕ) (list longer : List ℕ) (few : count < 18446744073709551615) (u : Unpacking start now before count list) where
  abbrev here : Place
  here = in_front before count now.cursor

  pub further : (b : Before) → PageAdded before now new list longer (Some b) → Unpacking start new (Some b) (count + 1) longer
  further b a =
      let p = a.page in
      let (last, is) = more_come (is_last p.head.flags) b (after_page before p) a.after_is in
      let there = on (Some b) false (count + 1) p new.cursor in
      let same : ahead there ≡ ahead here = turned_anew here there p refl refl refl a.read refl refl (sym last) is (omega arith) in
      let gives = on_gives (Some b) (count + 1) p new.cursor in
      let rest = (ahead (in_front (Some b) (count + 1) new.cursor)).bytes in
      record {
        known = a.known;
        errors = a.errors ∙ u.errors;
        short = a.short ∙ u.short;
        bytes = u.bytes ∙ ap (λ (k : Ahead). list ++ k.bytes) (sym same) ∙ ap (λ (l : List ℕ). list ++ l) gives.0 ∙ sym (append_assoc list p.body rest) ∙ ap (λ (l : List ℕ). l ++ rest) (sym a.added);
        stop = u.stop ∙ ap (λ (k : Ahead). k.stop) (sym same) ∙ gives.1;
      }

  pub ended : PageAdded before now new list longer None → ((ahead (in_front None 0 start.cursor)).bytes ≡ longer) × ((o : Option Why) → end_fault new.cursor ≡ o → (ahead (in_front None 0 start.cursor)).stop ≡ found (count + 1) o)
  ended a =
      let p = a.page in
      let next = Some (after_page before p) in
      let last = none_comes (is_last p.head.flags) (after_page before p) a.after_is in
      let there = on next true (count + 1) p new.cursor in
      let same : ahead there ≡ ahead here = turned_anew here there p refl refl refl a.read refl refl (sym last) refl (omega arith) in
      let gives = last_gives next (count + 1) p new.cursor in
      let small : count + 1 < 2 ^ 64 = omega (arith, few) in (
        u.bytes ∙ ap (λ (k : Ahead). list ++ k.bytes) (sym same) ∙ ap (λ (l : List ℕ). list ++ l) gives.0 ∙ sym a.added,
        λ o e. u.stop ∙ ap (λ (k : Ahead). k.stop) (sym same) ∙ gives.1 ∙ (closed_ahead (closed next (count + 1) new.cursor) o small refl refl e).1,
      )

  pub refused_here : (why : Why) → next_page before now.cursor ≡ Err (because why) → StopsAt start (count, why)
  refused_here why e =
      let small : count < 2 ^ 64 = omega (arith, few) in
      u.stop ∙ ap (λ (k : Ahead). k.stop) (refused_anew here why small refl refl refl (ap (λ (r : Result (Page × Cursor) Reason). begun_anew r) e))

-- before the first page
pub at_first : (start : State) → start.known ≡ true → start.cursor.mark.short ≡ Truncated → Unpacking start start None 0 []
at_first start known short = record { known = known; errors = refl; short = short; bytes = refl; stop = refl }

-- what comes after the page marked last
pub nothing_left : (c : Cursor) → c.mark.short ≡ Truncated → true ≡ is_nil c.left → end_fault c ≡ None
unfolding end_fault
nothing_left c short e = rw (sym e, short) refl

pub more_left : (c : Cursor) → false ≡ is_nil c.left → end_fault c ≡ Some PageOrder
unfolding end_fault
more_left c e = rw (sym e) refl

pub never_read : (c : Cursor) → c.mark.short ≡ Truncated → c.mark.short ≡ Read → ⊥
never_read c short read = absurd cc

abbrev pub some_why : Why → Option Why
some_why why = Some why

abbrev page_fault : ℕ × Why → Option (ℕ × Why)
page_fault f = Some f

pub stopped : (start : State) (f : ℕ × Why) (n : ℕ) → (ahead (in_front None 0 start.cursor)).stop ≡ found n (some_why f.1) → f.0 ≡ n → StopsAt start f
stopped start f n e is = e ∙ ap (λ (k : ℕ). page_fault (k, f.1)) (sym is)

-- what a call returned, and what follows from it
pub on_done : {P Q : Type 0} (result : Result ⊤ (ℕ × Why)) → OnOk result P → (P → Q) → OnOk result Q
on_done (Ok u) h f = f h
on_done (Err e) h f = tt

pub on_fault : {P Q : ℕ × Why → Type 0} (result : Result ⊤ (ℕ × Why)) → IfErr result P → ((e : ℕ × Why) → P e → Q e) → IfErr result Q
on_fault (Ok u) h f = tt
on_fault (Err e) h f = f e h

-- ---- all pages

module _ (bytes : List ℕ) (start : State) (is : start ≡ at_bytes bytes) where
  abbrev pages : Run
  pages = pages_of None (at_ (bits_of bytes) (beginning Truncated))

  are : HasPages bytes pages
  are = (pages_are_runs None (at_ (bits_of bytes) (beginning Truncated)) pages).1 refl

  from_start : ahead (in_front None 0 start.cursor) ≡ ahead_of (beginning Truncated) (bits_of bytes)
  from_start = ap (λ (s : State). ahead (in_front None 0 s.cursor)) is ∙ begins_ahead (beginning Truncated) (bits_of bytes) (in_front None 0 (at_ (bits_of bytes) (beginning Truncated))) refl refl refl refl refl refl

  pub packed_is : (list : List ℕ) → IsUnpacked start list → IsPacked bytes list
  packed_is list u = record { run = pages; pages = are; over = sym (ap (λ (k : Ahead). k.stop) from_start) ∙ u.1; segments = sym u.0 ∙ ap (λ (k : Ahead). k.bytes) from_start }

  pub pages_bad : (n : ℕ) (why : Why) → StopsAt start (n, why) → BadPages bytes (page_place n why) why
  pages_bad n why s = (pages, are, (n, sym (ap (λ (k : Ahead). k.stop) from_start) ∙ s, refl))

-- ---- the mapping

not_broken : (name version marker : ℕ) → (not (nat_eq name 0x7F464C4143) || (not (nat_eq version 0x0100) || not (nat_eq marker 0x664C6143))) ≡ false → marker ≡ 0x664C6143
not_broken name version marker e = grind (arith, nat_tests)

-- nine bytes, and the marker
mapping_parts : (m : Mark) (text : List Bool) → Spells mapping m text tt → (front : List Bool) × (text ≡ front ++ unsigned 32 0x664C6143) × (length front ≡ 72)
unfolding mapping
mapping_parts m text (name, a, p, cut_a, (lt_a, is_a), (version, b, q, cut_b, (lt_b, is_b), (count, c, r, cut_c, (lt_c, is_c), (marker, d, s, cut_d, (lt_d, is_d), (none, kept))))) =
    let marker_is : marker ≡ 0x664C6143 = not_broken name version marker kept.0 in
    let last : r ≡ unsigned 32 0x664C6143 = cut_d ∙ ap (λ (l : List Bool). d ++ l) none ∙ append-nil d ∙ is_d ∙ ap (λ (n : ℕ). unsigned 32 n) marker_is in
    let all : text ≡ a ++ (b ++ (c ++ unsigned 32 0x664C6143)) = cut_a ∙ ap (λ (l : List Bool). a ++ l) (cut_b ∙ ap (λ (l : List Bool). b ++ l) (cut_c ∙ ap (λ (l : List Bool). c ++ l) last)) in (
      a ++ (b ++ c),
      all ∙ ap (λ (l : List Bool). a ++ l) (sym (append_assoc b c (unsigned 32 0x664C6143))) ∙ sym (append_assoc a (b ++ c) (unsigned 32 0x664C6143)),
      omega (
        arith,
        length-append a (b ++ c),
        length-append b c,
        ap (λ (k : List Bool). length k) is_a,
        ap (λ (k : List Bool). length k) is_b,
        ap (λ (k : List Bool). length k) is_c,
        length-unsigned 40 name,
        length-unsigned 16 version,
        length-unsigned 16 count,
      ),
    )

long_mapping : (front text : List Bool) → text ≡ front ++ unsigned 32 0x664C6143 → length front ≡ 72 → length text ≡ 104
long_mapping front text split long = omega (arith, ap (λ (k : List Bool). length k) split, length-append front (unsigned 32 0x664C6143), long, length-unsigned 32 0x664C6143)

-- the first packet
record Mapped (packet : List ℕ) : Type 0 where
  front : List Bool
  split : bits_of packet ≡ front ++ bits_of (drop 13 packet)
  spelled : Spells mapping (beginning Truncated) front tt

first_mapped : (profile : Profile) (packet : List ℕ) (x : Piece) → Spells (packet_layout (ogg_start profile).stand) (packet_start None) (bits_of packet) x → Mapped packet
unfolding packet_layout
first_mapped profile packet x (u, front, rest, split, map, spelled) =
    let (head, parts, long) = mapping_parts (packet_start None) front map in
    let rest_is = after_mapping packet front rest split (long_mapping head front parts long) in
    record { front = front; split = split ∙ ap (λ (l : List Bool). front ++ l) rest_is; spelled = map }

joined_bytes : (packets : List (List ℕ)) → bits_of (bytes_of packets) ≡ joined (map bits_of packets)
joined_bytes [] = refl
joined_bytes (packet ∷ packets) = bits_of-append packet (bytes_of packets) ∙ ap (λ (l : List Bool). bits_of packet ++ l) (joined_bytes packets)

after_nine : (head rest : List Bool) (all : List ℕ) → bits_of all ≡ head ++ rest → length head ≡ 72 → bits_of (drop 9 all) ≡ rest
after_nine head rest all split long =
    sym (drop_bits 9 all) ∙ ap (λ (l : List Bool). drop 72 l) split ∙ ap (λ (n : ℕ). drop n (head ++ rest)) (sym long) ∙ drop-append_seam head rest

-- the packets of a stream
packets_native : (profile : Profile) (packets : List (List ℕ)) (items : List Piece) → grammar.may_end (state_after grammar (ogg_start profile) items) ≡ true → AreItems (ogg_start profile) packets items
    → HasMapping (bytes_of packets) × (bits_of (drop 9 (bytes_of packets)) ≡ native_text packets)
packets_native profile [] [] ends are = absurd cc
packets_native profile [] (x ∷ xs) ends are = absurd are
packets_native profile (packet ∷ packets) [] ends are = absurd are
packets_native profile (packet ∷ packets) (x ∷ xs) ends (is, others) =
    let m = first_mapped profile packet x is.spelled in
    let (head, parts, long) = mapping_parts (beginning Truncated) m.front m.spelled in
    let rest = bits_of (drop 13 packet) ++ joined (map bits_of packets) in
    let all : bits_of (bytes_of (packet ∷ packets)) ≡ m.front ++ rest =
    bits_of-append packet (bytes_of packets) ∙ ap (λ (l : List Bool). l ++ bits_of (bytes_of packets)) m.split ∙ append_assoc m.front (bits_of (drop 13 packet)) (bits_of (bytes_of packets))
    ∙ ap (λ (l : List Bool). m.front ++ (bits_of (drop 13 packet) ++ l)) (joined_bytes packets) in
    let cut : bits_of (bytes_of (packet ∷ packets)) ≡ head ++ (unsigned 32 0x664C6143 ++ rest) = all ∙ ap (λ (l : List Bool). l ++ rest) parts ∙ append_assoc head (unsigned 32 0x664C6143) rest in
    ((m.front, rest, all, m.spelled), after_nine head (unsigned 32 0x664C6143 ++ rest) (bytes_of (packet ∷ packets)) cut long)

-- ---- a stream

module _ (profile : Profile) (bytes : List ℕ) (items : List Piece) (o : OggStream profile (beginning Truncated) items (bits_of bytes)) where
  one_run : (run : Run) → HasPages bytes run → run ≡ o.contents.run
  one_run run is = sym ((pages_are_runs None (at_ (bits_of bytes) (beginning Truncated)) run).0 is) ∙ run_is o.contents

  segments : (packed : List ℕ) → IsPacked bytes packed → packed ≡ bytes_of o.contents.packets
  segments packed p =
      p.segments ∙ ap (λ (r : Run). bytes_in r.pages) (one_run p.run p.pages) ∙ o.contents.packed.bytes ∙ ap (λ (l : List ℕ). bytes_of o.contents.packets ++ l) o.no_part ∙ append-nil (bytes_of o.contents.packets)

  pub native_items : (packed : List ℕ) → IsPacked bytes packed → Stream grammar (opening profile) (beginning Truncated) (marked ∷ items) (bits_of (drop 9 packed))
  native_items packed p =
      let h = packets_native profile o.contents.packets items o.ends o.spelled in
      let is : bits_of (drop 9 packed) ≡ native_text o.contents.packets = ap (λ (l : List ℕ). bits_of (drop 9 l)) (segments packed p) ∙ h.1 in
      subst (λ (t : List Bool). Stream grammar (opening profile) (beginning Truncated) (marked ∷ items) t) (sym is) (ogg_streams_are_streams profile (beginning Truncated) items (bits_of bytes) o)

  mapped : (packed : List ℕ) → IsPacked bytes packed → HasMapping packed
  mapped packed p = let h = packets_native profile o.contents.packets items o.ends o.spelled in subst HasMapping (sym (segments packed p)) h.0

  abbrev some_fault : ℕ × Why → Option (ℕ × Why)
  some_fault f = Some f

  no_fault_there : (f : ℕ × Why) → some_fault f ≡ None → ⊥
  no_fault_there f e = absurd cc

  -- is refused only if memory runs out
  pub native_refused : (f : Fault) → RefusesPages bytes (Some (fault_pair f)) → f.why ≡ Memory
  native_refused f (at, why, is, h) = elim (memory_or_not why) [
    | inl e ↦ sym (same_why f.at at f.why why is) ∙ e
    | inr other ↦ elim (h other) [
      | inl (run, has, (n, stops, there)) ↦ absurd (no_fault_there (n, why) (sym stops ∙ ap (λ (r : Run). stop_of (length r.pages) r.stop) (one_run run has) ∙ o.no_fault))
      | inr (e, there, (packed, p, none)) ↦ absurd (none (mapped packed p))
    ]
  ]

-- ---- reading the mapping

pub mapping_read : (packed : List ℕ) (old new : State) → old ≡ at_bytes packed → Reads {X = ⊤} (λ u. u) mapping old new (Ok tt) → new.errors ≡ 0 → HasMapping packed
mapping_read packed old new is reads quiet =
    let read = subst (λ (s : State). Reads {X = ⊤} (λ u. u) mapping s new (Ok tt)) is reads in
    let t = takes mapping (bits_of packed) (beginning Truncated) tt new.cursor (read refl quiet) in
    (t.0, new.cursor.left, t.1, t.2)

pub mapping_missing : (packed : List ℕ) (old new : State) (why : Why) → old ≡ at_bytes packed → Reads {X = ⊤} (λ u. u) mapping old new (Err why) → new.errors ≡ 0 → HasMapping packed → ⊥
mapping_missing packed old new why is reads quiet (front, rest, split, spelled) =
    let read = subst (λ (s : State). Reads {X = ⊤} (λ u. u) mapping s new (Err why)) is reads in
    differ (tt, at_ rest (past front (beginning Truncated))) (because why)
    (sym (again mapping (beginning Truncated) front rest tt spelled) ∙ ap (λ (l : List Bool). run mapping (at_ l (beginning Truncated))) (sym split) ∙ read refl quiet)
