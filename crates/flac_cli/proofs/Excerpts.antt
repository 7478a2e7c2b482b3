-- A part of a stream that is sent frame by frame.
use Rattle.std.proofs.Common.{◌≡◌, ◌≤◌, ◌<◌, ◌+◌, ◌*◌, ◌-◌, ◌%◌, inl, inr, ℕ, zero, suc, min, ℤ, pos, Bool, true, false, cond, List, [], ◌∷◌, ◌++◌, length, length-append, take, drop, Option, Some, None, Result, Ok, Err, refl, sym, ap, subst, ◌∙◌, append_assoc, append-nil, arith}
use Rattle.std.specs.Prelude.{nat_eq, nat_lt, not, ◌&&◌, is_none, slice_index_or, MatchResult, IfErr, OnOk, ⊤}
use Rattle.std.specs.Int.{to_le_bytes, cast_unsigned, w32}
use Rattle.std.proofs.lemmas.Bool.{cases_lt, and_parts, eqb-true}
use Rattle.std.proofs.lemmas.List.{take_at, drop_at, length-take-le}
use Rattle.std.proofs.Math.Nat.{zero-mul, mod-lt}
use Rattle.std.proofs.lemmas.Nat.{mul-mod}
use Rattle.std.proofs.Math.Seq.{take-append-add, drop-append-add, drop-nil}
use Rattle.flac_bits.specs.declared.why.Why.{Why}
use Rattle.flac_bits.specs.declared.why.Why.TheVariants as why
use Rattle.flac_bits.specs.declared.target.Target as target
use Rattle.flac_info.specs.Info.{Info}
use Rattle.flac_meta.specs.declared.comments.Comments.{Comments}
use Rattle.flac_frame.specs.Frame.{Frame}
use Rattle.flac_frame.specs.Interleaved.{row}
use Rattle.flac_native.specs.Item.{frame}
use Rattle.flac_native.specs.Message.{sample_bytes, row_bytes, rows_bytes, sample_width}
use Rattle.flac_native.specs.declared.fault.Place.{Place}
use Rattle.flac_native.specs.declared.fault.Fault.{Fault}
use Rattle.flac_native.specs.declared.container.Container as container
use Rattle.flac_reader.specs.Giving.{last_frame, Gives}
use Rattle.flac_reader.specs.declared.reader.Reader.{Reader}
use Rattle.flac_wave.specs.Format.{row_of}
use Rattle.flac_wave.specs.Plain.{plain_head}
use Rattle.flac_wave.specs.declared.format.WaveFormat.{WaveFormat}
use Rattle.flac_compare.specs.Samples.{samples_from, samples_of}
use Rattle.flac_compare.specs.inner.Stepping.{Stays, MeetsNone, IsKnown, left_in, SamplesLeft, Enters}
use Rattle.flac_compare.proofs.Samples.{samples_none, samples_split, samples_length}
use Rattle.flac_compare.proofs.Counting.{passed_left}
use Rattle.flac_compare.proofs.Onwards.{stays_same, stays_both, met_same, met_both, calm_last, enters_end, enters_refusal}
use Rattle.flac_cli.specs.Excerpts.{row_text, rows_text, samples_text, format_for, zero_after, file_text, stated_length, part_of, range_fault, SaysPart, IsWholeFor, IsShortOf}
use Rattle.flac_cli.specs.Waves.{file_samples}
use Rattle.flac_cli.specs.inner.Excerpts.{first_of, wanted, needs, least_of, IsSpanOf, is_done, count_of, Cuts, stated_in, bytes_text, IsOutside, RowsCome, Goes, Turns, SaysSpan, SendsSpan}
use Rattle.flac_cli.specs.inner.Waving.{Holds}
use Rattle.flac_cli.proofs.Waved.{Whole, whole_append, whole_rest, file_append, file_none}
use Rattle.flac_cli.specs.declared.excerpt.Span.{Span}
use Rattle.flac_cli.specs.declared.excerpt.Cut.{Cut}
use Rattle.flac_cli.specs.declared.excerpt.RangeFault.TheVariants as range
use Rattle.flac_cli.specs.declared.excerpt.ExcerptFault.{ExcerptFault}
use Rattle.flac_cli.specs.declared.excerpt.ExcerptFault.TheVariants.{Unread, Range, Write}

-- ---- the bytes of samples

row_is : (width : ℕ) (channels : List (List ℤ)) (i : ℕ) → row_text width (row channels i) ≡ row_bytes width channels i
unfolding row_text row row_bytes
row_is width [] i = refl
row_is width (c ∷ cs) i = ap (λ l. sample_bytes width (slice_index_or c i (pos 0)) ++ l) (row_is width cs i)

rows_are : (width : ℕ) (channels : List (List ℤ)) (n i : ℕ) → rows_text width (samples_from channels n i) ≡ rows_bytes width channels n i
unfolding rows_text samples_from rows_bytes
rows_are width channels zero i = refl
rows_are width channels (suc n) i = ap (λ l. l ++ rows_text width (samples_from channels n (i + 1))) (row_is width channels i) ∙ ap (λ l. row_bytes width channels i ++ l) (rows_are width channels n (i + 1))

rows_append : (width : ℕ) (a b : List (List ℤ)) → rows_text width (a ++ b) ≡ rows_text width a ++ rows_text width b
unfolding rows_text
rows_append width [] b = refl
rows_append width (r ∷ rs) b = ap (λ l. row_text width r ++ l) (rows_append width rs b) ∙ sym (append_assoc (row_text width r) (rows_text width rs) (rows_text width b))

rows_nothing : (width : ℕ) → rows_text width [] ≡ []
unfolding rows_text
rows_nothing width = refl

row_whole : (w : ℕ) (r : List ℤ) → w ≤ 4 → Whole w (row_text w r)
unfolding row_text
row_whole w [] few = (0, omega arith)
row_whole w (x ∷ xs) few = whole_append w (sample_bytes w x) (row_text w xs) (1, let e = length-take-le w (to_le_bytes w32 (cast_unsigned w32 x)) (omega (arith, few)) in omega (arith, e)) (row_whole w xs few)

rows_whole : (w : ℕ) (rows : List (List ℤ)) → w ≤ 4 → Whole w (rows_text w rows)
unfolding rows_text
rows_whole w [] few = (0, omega arith)
rows_whole w (r ∷ rs) few = whole_append w (row_text w r) (rows_text w rs) (row_whole w r few) (rows_whole w rs few)

-- samples of 4 to 32 bits have room in their bytes, 4 at most
abbrev pub IsDepth : ℕ → Type 0
IsDepth depth = (4 ≤ depth) × (depth ≤ 32)

pub depth_holds : (depth : ℕ) → IsDepth depth → Holds (sample_width depth) depth
depth_holds depth is = let a = is.0 in let b = is.1 in record { few = omega (arith, b); room = omega arith; some = λ any. omega (arith, a) }

pub width_few : (depth : ℕ) → IsDepth depth → sample_width depth ≤ 4
width_few depth is = let b = is.1 in omega (arith, b)

pub text_append : (wave : Bool) (depth : ℕ) → IsDepth depth → (a b : List (List ℤ)) → samples_text wave depth (a ++ b) ≡ samples_text wave depth a ++ samples_text wave depth b
text_append false depth is a b = rows_append (sample_width depth) a b
text_append true depth is a b =
    ap (λ l. file_samples (sample_width depth) depth l) (rows_append (sample_width depth) a b)
    ∙ file_append (sample_width depth) depth (rows_text (sample_width depth) a) (rows_text (sample_width depth) b) (depth_holds depth is) (rows_whole (sample_width depth) a (width_few depth is))

pub text_nothing : (wave : Bool) (depth : ℕ) → IsDepth depth → samples_text wave depth [] ≡ []
text_nothing false depth is = rows_nothing (sample_width depth)
text_nothing true depth is = file_none (sample_width depth) depth (rows_text (sample_width depth) []) (depth_holds depth is) (rows_nothing (sample_width depth))

-- the bytes of some samples of a frame
pub text_of_bytes : (wave : Bool) (depth : ℕ) (channels : List (List ℤ)) (n i : ℕ) (bytes : List ℕ) → bytes ≡ rows_bytes (sample_width depth) channels n i → bytes_text wave depth bytes ≡ samples_text wave depth (samples_from channels n i)
text_of_bytes false depth channels n i bytes is = is ∙ sym (rows_are (sample_width depth) channels n i)
text_of_bytes true depth channels n i bytes is = ap (λ l. file_samples (sample_width depth) depth l) (is ∙ sym (rows_are (sample_width depth) channels n i))

pub bytes_whole : (depth : ℕ) → IsDepth depth → (channels : List (List ℤ)) (n i : ℕ) (bytes : List ℕ) → bytes ≡ rows_bytes (sample_width depth) channels n i → length bytes % sample_width depth ≡ 0
bytes_whole depth is channels n i bytes are = whole_rest (sample_width depth) bytes (subst (Whole (sample_width depth)) (rows_are (sample_width depth) channels n i ∙ sym are) (rows_whole (sample_width depth) (samples_from channels n i) (width_few depth is)))

-- nothing was sent yet
pub sent_none : (wave : Bool) (depth : ℕ) (channels : List (List ℤ)) (start : ℕ) (old : List ℕ) → IsDepth depth → old ≡ old ++ samples_text wave depth (samples_from channels (start - start) start)
sent_none wave depth channels start old is =
    let z : start - start ≡ 0 = omega arith in
    sym (ap (λ n. old ++ samples_text wave depth (samples_from channels n start)) z ∙ ap (λ r. old ++ samples_text wave depth r) (samples_none channels start) ∙ ap (λ l. old ++ l) (text_nothing wave depth is) ∙ append-nil old)

-- n more were sent
pub sent_more : (wave : Bool) (depth : ℕ) (channels : List (List ℤ)) (start at n : ℕ) (old now later bytes : List ℕ) → IsDepth depth → start ≤ at → now ≡ old ++ samples_text wave depth (samples_from channels (at - start) start)
    → bytes ≡ rows_bytes (sample_width depth) channels n at → later ≡ now ++ bytes_text wave depth bytes → later ≡ old ++ samples_text wave depth (samples_from channels (at + n - start) start)
sent_more wave depth channels start at n old now later bytes is after before put more =
    let front = samples_from channels (at - start) start in
    let back = samples_from channels n at in
    let all : at + n - start ≡ at - start + n = omega (arith, after) in
    let here : start + (at - start) ≡ at = omega (arith, after) in
    let rows : samples_from channels (at + n - start) start ≡ front ++ back = ap (λ k. samples_from channels k start) all ∙ samples_split channels (at - start) n start ∙ ap (λ k. front ++ samples_from channels n k) here in
    more ∙ ap (λ l. now ++ l) (text_of_bytes wave depth channels n at bytes put) ∙ ap (λ l. l ++ samples_text wave depth back) before
    ∙ append_assoc old (samples_text wave depth front) (samples_text wave depth back) ∙ ap (λ l. old ++ l) (sym (text_append wave depth is front back)) ∙ ap (λ r. old ++ samples_text wave depth r) (sym rows)

-- ---- what is wanted of a frame

-- the samples before an index, and those from it on
samples_at : (channels : List (List ℤ)) (size k : ℕ) → k ≤ size → samples_from channels size 0 ≡ samples_from channels k 0 ++ samples_from channels (size - k) k
samples_at channels size k few =
    let all : size ≡ k + (size - k) = omega (arith, few) in
    let at : 0 + k ≡ k = omega arith in
    ap (λ n. samples_from channels n 0) all ∙ samples_split channels k (size - k) 0 ∙ ap (λ j. samples_from channels k 0 ++ samples_from channels (size - k) j) at

skipped_in : (channels : List (List ℤ)) (size skip : ℕ) (rest : List (List ℤ)) → skip ≤ size → drop skip (samples_from channels size 0 ++ rest) ≡ samples_from channels (size - skip) skip ++ rest
skipped_in channels size skip rest few =
    let front = samples_from channels skip 0 in
    let back = samples_from channels (size - skip) skip in
    ap (λ l. drop skip (l ++ rest)) (samples_at channels size skip few)
    ∙ (ap (λ l. drop skip l) (append_assoc front back rest) ∙ drop_at front (back ++ rest) skip (samples_length channels skip 0))

skipped_over : (channels : List (List ℤ)) (size skip : ℕ) (rest : List (List ℤ)) → size ≤ skip → drop skip (samples_from channels size 0 ++ rest) ≡ drop (skip - size) rest
skipped_over channels size skip rest many =
    let all = samples_from channels size 0 in
    let e : skip ≡ length all + (skip - size) = omega (arith, many, samples_length channels size 0) in
    ap (λ n. drop n (all ++ rest)) e ∙ drop-append-add all rest (skip - size)

skipped : (channels : List (List ℤ)) (size skip k : ℕ) (rest : List (List ℤ)) → k ≡ min skip size → drop skip (samples_from channels size 0 ++ rest) ≡ samples_from channels (size - k) k ++ drop (skip - k) rest
skipped channels size skip k rest is = elim (cases_lt skip size) [
  | inl lt ↦ (
      let e : k ≡ skip = omega (arith, is, lt) in
      let z : skip - skip ≡ 0 = omega arith in
      skipped_in channels size skip rest (omega (arith, lt)) ∙ ap (λ n. samples_from channels (size - skip) skip ++ drop n rest) (sym z) ∙ ap (λ n. samples_from channels (size - n) n ++ drop (skip - n) rest) (sym e)
      )
  | inr ge ↦ (
      let e : k ≡ size = omega (arith, is, ge) in
      let z : size - size ≡ 0 = omega arith in
      skipped_over channels size skip rest (omega (arith, ge))
      ∙ ap (λ l. l ++ drop (skip - size) rest) (sym (ap (λ n. samples_from channels n size) z ∙ samples_none channels size))
      ∙ ap (λ n. samples_from channels (size - n) n ++ drop (skip - n) rest) (sym e)
      )
]

-- the first ones of m samples and of others
taken_all : (channels : List (List ℤ)) (m k l : ℕ) (rest : List (List ℤ)) → m ≤ l → take l (samples_from channels m k ++ rest) ≡ samples_from channels m k ++ take (l - m) rest
taken_all channels m k l rest many =
    let all = samples_from channels m k in
    let e : l ≡ length all + (l - m) = omega (arith, many, samples_length channels m k) in
    ap (λ n. take n (all ++ rest)) e ∙ take-append-add all rest (l - m)

taken_some : (channels : List (List ℤ)) (m k l : ℕ) (rest : List (List ℤ)) → l ≤ m → take l (samples_from channels m k ++ rest) ≡ samples_from channels l k
taken_some channels m k l rest few =
    let front = samples_from channels l k in
    let back = samples_from channels (m - l) (k + l) in
    let e : m ≡ l + (m - l) = omega (arith, few) in
    ap (λ n. take l (samples_from channels n k ++ rest)) e ∙ ap (λ s. take l (s ++ rest)) (samples_split channels l (m - l) k)
    ∙ (ap (λ s. take l s) (append_assoc front back rest) ∙ take_at front (back ++ rest) l (samples_length channels l k))

taken : (channels : List (List ℤ)) (unbounded : Bool) (least m k n : ℕ) (rest : List (List ℤ)) → n ≡ count_of unbounded least m → first_of unbounded least (samples_from channels m k ++ rest) ≡ samples_from channels n k ++ first_of unbounded (least - n) rest
taken channels true least m k n rest is = ap (λ j. samples_from channels j k ++ rest) (sym is)
taken channels false l m k n rest is = elim (cases_lt l m) [
  | inl lt ↦ (
      let e : n ≡ l = omega (arith, is, lt) in
      let z : l - n ≡ 0 = omega (arith, e) in
      taken_some channels m k l rest (omega (arith, lt)) ∙ ap (λ j. samples_from channels j k) (sym e)
      ∙ (sym (append-nil (samples_from channels n k)) ∙ ap (λ j. samples_from channels n k ++ take j rest) (sym z))
      )
  | inr ge ↦ (
      let e : n ≡ m = omega (arith, is, ge) in
      taken_all channels m k l rest (omega (arith, ge)) ∙ ap (λ j. samples_from channels j k ++ take (l - j) rest) (sym e)
      )
]

-- what is wanted of a frame's samples and of those after it
pub wanted_cut : (channels : List (List ℤ)) (size : ℕ) (s : Span) (cut : Cut) (rest : List (List ℤ)) → Cuts s size cut
    → wanted s (samples_from channels size 0 ++ rest) ≡ samples_from channels (cut.end - cut.start) cut.start ++ wanted cut.rest rest
wanted_cut channels size s cut rest cuts =
    let k = cut.start in
    let n = cut.end - k in
    let is : n ≡ count_of s.unbounded s.least (size - k) = let e = cuts.end in omega (arith, e) in
    ap (first_of s.unbounded s.least) (skipped channels size s.skip k rest cuts.start)
    ∙ (taken channels s.unbounded s.least (size - k) k n (drop (s.skip - k) rest) is
    ∙ ap (λ l. samples_from channels n k ++ first_of s.unbounded l (drop (s.skip - k) rest)) (sym cuts.least)
    ∙ ap (λ u. samples_from channels n k ++ first_of u cut.rest.least (drop (s.skip - k) rest)) (sym cuts.unbounded)
    ∙ ap (λ j. samples_from channels n k ++ first_of cut.rest.unbounded cut.rest.least (drop j rest)) (sym cuts.skip))

-- it is within the frame
count_few : (unbounded : Bool) (least n : ℕ) → count_of unbounded least n ≤ n
count_few true least n = omega arith
count_few false least n = omega arith

pub cut_within : (size : ℕ) (s : Span) (cut : Cut) → Cuts s size cut → (cut.start ≤ cut.end) × (cut.end ≤ size)
cut_within size s cut cuts =
    let few = count_few s.unbounded s.least (size - cut.start) in
    let a = cuts.start in
    let b = cuts.end in
    (omega (arith, b), omega (arith, a, b, few))

-- how many are needed
enough_by : (unbounded : Bool) (least size skip k n r : ℕ) → k ≡ min skip size → n ≡ count_of unbounded least (size - k) → skip - k + (least - n) ≤ r → skip + least ≤ size + r
enough_by true least size skip k n r is are le = omega (arith, is, are, le)
enough_by false least size skip k n r is are le = omega (arith, is, are, le)

short_by : (unbounded : Bool) (least size skip k n r : ℕ) → k ≡ min skip size → n ≡ count_of unbounded least (size - k) → r < skip - k + (least - n) → size + r < skip + least
short_by true least size skip k n r is are lt = omega (arith, is, are, lt)
short_by false least size skip k n r is are lt = omega (arith, is, are, lt)

-- ---- a frame that was read and sent

-- what a reader's next frame, all of it, has before what comes
frame_first : {C : Type 0} {g : container.Ghosts C} (new : Reader C g) (f : Frame) (size : ℕ) (rows : List (List ℤ)) (end : Option (Place × Why)) → last_frame new ≡ Some (frame f) → size ≡ f.size → (q : SamplesLeft new size rows end)
    → rows ≡ samples_from f.channels f.size 0 ++ samples_of q.frames
frame_first new f size rows end is long q =
    let z : f.size - size ≡ 0 = omega (arith, long) in
    q.split ∙ ap (λ h. left_in h size ++ samples_of q.frames) is
    ∙ ap (λ i. samples_from f.channels size i ++ samples_of q.frames) z ∙ ap (λ n. samples_from f.channels n 0 ++ samples_of q.frames) long

pub turn_frame : {C : Type 0} {g : container.Ghosts C} (text : List (List ℤ) → List ℕ) (old new : Reader C g) (f : Frame) (size : ℕ) (s : Span) (cut : Cut) (before after : List ℕ)
    → ((a b : List (List ℤ)) → text (a ++ b) ≡ text a ++ text b) → Enters old 0 new size (Ok true) → last_frame new ≡ Some (frame f) → size ≡ f.size → Cuts s size cut → after ≡ before ++ text (samples_from f.channels (cut.end - cut.start) cut.start)
    → Turns text old new s cut.rest before after (Ok true)
turn_frame text old new f size s cut before after adds enters is long cuts sent = λ known rows end q.
    let p = enters known rows end q in
    let rest = samples_of p.frames in
    let split : rows ≡ samples_from f.channels size 0 ++ rest = frame_first new f size rows end is long p ∙ ap (λ n. samples_from f.channels n 0 ++ rest) (sym long) in
    let mid = samples_from f.channels (cut.end - cut.start) cut.start in
    let many : length rows ≡ size + length rest = ap length split ∙ length-append (samples_from f.channels size 0) rest ∙ ap (λ n. n + length rest) (samples_length f.channels size 0) in
    let count : cut.end - cut.start ≡ count_of s.unbounded s.least (size - cut.start) = let e = cuts.end in omega (arith, e) in
    let later : needs cut.rest ≡ s.skip - cut.start + (s.least - (cut.end - cut.start)) = ap (λ n. n + cut.rest.least) cuts.skip ∙ ap (λ n. s.skip - cut.start + n) cuts.least in
    record {
      rest = rest;
      come = passed_left new size rows end p;
      sent = ap (λ l. l ++ text (wanted cut.rest rest)) sent ∙ append_assoc before (text mid) (text (wanted cut.rest rest))
          ∙ ap (λ l. before ++ l) (sym (adds mid (wanted cut.rest rest)) ∙ ap text (sym (ap (wanted s) split ∙ wanted_cut f.channels size s cut rest cuts)));
      enough = λ le. subst (λ n. needs s ≤ n) (sym many) (enough_by s.unbounded s.least size s.skip cut.start (cut.end - cut.start) (length rest) cuts.start count (subst (λ n. n ≤ length rest) later le));
      short = λ lt. subst (λ n. n < needs s) (sym many) (short_by s.unbounded s.least size s.skip cut.start (cut.end - cut.start) (length rest) cuts.start count (subst (λ n. length rest < n) later lt));
      unbounded = cuts.unbounded;
    }

-- ---- frame after frame

pub record SpanSoFar {C W : Type 0} {g : container.Ghosts C} (h : target.Ghosts W) (text : List (List ℤ) → List ℕ) (first now : Reader C g) (span later : Span) (from to : W) : Type 0 where
  pub stays : Stays first now
  pub met : MeetsNone first now
  pub known : h.known from ≡ true → h.known to ≡ true
  pub kept : h.errors from ≤ h.errors to
  pub goes : IsKnown first → h.known from ≡ true → (rows : List (List ℤ)) (end : Option (Place × Why)) → RowsCome first rows end → Goes text now span later (h.sent from) (h.sent to) rows end

-- nothing more is wanted
bounded : (s : Span) → is_done s ≡ true → (s.unbounded ≡ false) × (needs s ≡ 0)
bounded s done = let p = and_parts (not s.unbounded) _ done in (not_true s.unbounded p.0, eqb-true (needs s) 0 p.1)
  where
    not_true : (b : Bool) → not b ≡ true → b ≡ false
    not_true true e = absurd cc
    not_true false e = refl

done_wanted : (s : Span) → s.unbounded ≡ false → needs s ≡ 0 → (rows : List (List ℤ)) → wanted s rows ≡ []
done_wanted s few none rows = let z : s.least ≡ 0 = omega (arith, none) in ap (λ u. first_of u s.least (drop s.skip rows)) few ∙ ap (λ n. take n (drop s.skip rows)) z

-- the end of the stream
ended_wanted : (s : Span) → wanted s [] ≡ []
ended_wanted s = ap (first_of s.unbounded s.least) (drop-nil s.skip) ∙ nothing s.unbounded s.least
  where
    nothing : (unbounded : Bool) (n : ℕ) → first_of unbounded n [] ≡ []
    nothing true n = refl
    nothing false zero = refl
    nothing false (suc n) = refl

-- a refusal, while something is wanted
some_needs : (s : Span) → is_done s ≡ false → s.unbounded ≡ false → 0 < needs s
some_needs s going few = counted (needs s) (sym (ap (λ u. not u && nat_eq (needs s) 0) few) ∙ going)
  where
    counted : (n : ℕ) → nat_eq n 0 ≡ false → 0 < n
    counted zero e = absurd cc
    counted (suc n) e = omega arith

module _ {C W : Type 0} {g : container.Ghosts C} (h : target.Ghosts W) (text : List (List ℤ) → List ℕ) where
  pub span_start : (first : Reader C g) (span : Span) (from : W) → SpanSoFar h text first first span span from from
  span_start first span from = record {
    stays = stays_same first;
    met = met_same first;
    known = λ k. k;
    kept = omega arith;
    goes = λ known knows rows end q. record { rest = rows; come = q; sent = refl; enough = λ le. le; short = λ lt. lt; unbounded = refl };
  }

  pub span_turn : (first now new : Reader C g) (span later next : Span) (from to then : W) → SpanSoFar h text first now span later from to → Stays now new → MeetsNone now new → (h.known to ≡ true → h.known then ≡ true) → h.errors to ≤ h.errors then
      → (h.known to ≡ true → Turns text now new later next (h.sent to) (h.sent then) (Ok true)) → SpanSoFar h text first new span next from then
  span_turn first now new span later next from to then far stays met known kept turns = record {
    stays = stays_both first now new far.stays stays;
    met = met_both first now new far.met met;
    known = λ k. known (far.known k);
    kept = let a = far.kept in omega (arith, a, kept);
    goes = λ knows k rows end q.
        let a = far.goes knows k rows end q in
        let b = turns (far.known k) (far.met.0 knows) a.rest end a.come in
        record {
          rest = b.rest;
          come = b.come;
          sent = b.sent ∙ a.sent;
          enough = λ le. a.enough (b.enough le);
          short = λ lt. a.short (b.short lt);
          unbounded = b.unbounded ∙ a.unbounded;
        };
  }

  pub span_done : text [] ≡ [] → (first now : Reader C g) (span later : Span) (from to : W) → SpanSoFar h text first now span later from to → is_done later ≡ true → SendsSpan h text first now span from to (Ok tt)
  span_done none first now span later from to far done = λ calm k rows end q.
      let d = bounded later done in
      let a = far.goes calm.0 k rows end q in (
        a.enough (let z = d.1 in omega (arith, z)),
        λ all. absurd (both _ (a.unbounded ∙ all) d.0),
        sym (append-nil (h.sent to)) ∙ ap (λ l. h.sent to ++ l) (sym (ap text (done_wanted later d.0 d.1 a.rest) ∙ none)) ∙ a.sent,
      )
    where
      both : (b : Bool) → b ≡ true → b ≡ false → ⊥
      both b t f = absurd cc

  pub span_ended : text [] ≡ [] → (first now new : Reader C g) (span later next : Span) (from to then : W) → SpanSoFar h text first now span later from to → (h.known to ≡ true → Turns text now new later next (h.sent to) (h.sent then) (Ok false)) → needs next ≡ 0 → SendsSpan h text first new span from then (Ok tt)
  span_ended nothing first now new span later next from to then far turns none = λ calm k rows end q.
      let t = turns (far.known k) in
      let a = far.goes calm.0 k rows end q in
      let e = t.2 (far.met.0 calm.0) a.rest end a.come in
      let z : needs later ≡ 0 = ap needs (sym t.0) ∙ none in (
        a.enough (omega (arith, z)),
        λ all. e.1,
        t.1 ∙ (sym (append-nil (h.sent to)) ∙ ap (λ l. h.sent to ++ l) (sym (ap (λ l. text (wanted later l)) e.0 ∙ ap text (ended_wanted later) ∙ nothing)) ∙ a.sent),
      )

  pub span_short : (first now new : Reader C g) (span later next : Span) (from to then : W) → SpanSoFar h text first now span later from to → (h.known to ≡ true → Turns text now new later next (h.sent to) (h.sent then) (Ok false)) → 0 < needs next → SendsSpan h text first new span from then (Err (Range range.End))
  span_short first now new span later next from to then far turns some = λ calm k rows end q.
      let t = turns (far.known k) in
      let a = far.goes calm.0 k rows end q in
      let e = t.2 (far.met.0 calm.0) a.rest end a.come in
      let n : 0 < needs later = subst (λ s. 0 < needs s) t.0 some in
      let l : length a.rest ≡ 0 = ap length e.0 in
      (refl, e.1, a.short (omega (arith, n, l)))

  pub span_refused : (first now new : Reader C g) (span later next : Span) (from to then : W) (f : Fault) → SpanSoFar h text first now span later from to → is_done later ≡ false
      → (h.known to ≡ true → Turns text now new later next (h.sent to) (h.sent then) (Err (Unread f))) → SendsSpan h text first new span from then (Err (Unread f))
  span_refused first now new span later next from to then f far going turns = λ calm k rows end q room.
      let a = far.goes calm.0 k rows end q in
      let e = turns (far.known k) (calm_last first now new far.met calm) room a.rest end a.come in
      let l : length a.rest ≡ 0 = ap length e.0 in
      (e.1, λ few. a.short (let n = some_needs later going (a.unbounded ∙ few) in omega (arith, n, l)))

  pub span_failed : (first now new : Reader C g) (span later next : Span) (from to then : W) (e : ExcerptFault) → SpanSoFar h text first now span later from to → is_done later ≡ false
      → (h.known to ≡ true → Turns text now new later next (h.sent to) (h.sent then) (Err e)) → SendsSpan h text first new span from then (Err e)
  span_failed first now new span later next from to then (Unread f) far going turns = span_refused first now new span later next from to then f far going turns
  span_failed first now new span later next from to then (Range r) far going turns = λ calm k rows end q. absurd (turns (far.known k))
  span_failed first now new span later next from to then Write far going turns = λ calm k rows end q. tt

  pub span_no_more : (first new : Reader C g) (span : Span) (from to : W) (f : Fault) → f.why ≡ why.Memory → SendsSpan h text first new span from to (Err (Unread f))
  span_no_more first new span from to f is = λ calm k rows end q room. absurd (room is)

-- ---- the part of a stream

pub span_wanted : (from : ℕ) (to : Option ℕ) (s : Span) (rows : List (List ℤ)) → IsSpanOf from to s → wanted s rows ≡ part_of from to rows
span_wanted from to s rows is = ap (λ k. first_of s.unbounded s.least (drop k rows)) is.skip ∙ ap (λ n. first_of s.unbounded n (drop from rows)) is.least ∙ ap (λ u. first_of u (least_of from to) (drop from rows)) is.unbounded ∙ by_end to
  where
    by_end : (to : Option ℕ) → first_of (is_none to) (least_of from to) (drop from rows) ≡ part_of from to rows
    by_end None = refl
    by_end (Some n) = refl

pub whole_for : (from : ℕ) (to : Option ℕ) (s : Span) (end : Option (Place × Why)) → IsSpanOf from to s → (s.unbounded ≡ true → end ≡ None) → IsWholeFor to end
whole_for from None s end is whole = whole is.unbounded
whole_for from (Some n) s end is whole = tt

short_of : (from : ℕ) (to : Option ℕ) (s : Span) (rows : List (List ℤ)) → IsSpanOf from to s → (s.unbounded ≡ false → length rows < needs s) → IsShortOf to rows
short_of from None s rows is short = tt
short_of from (Some n) s rows is short = subst (λ k. length rows < k) is.needs (short is.unbounded)

pub stated_is : (from : ℕ) (to : Option ℕ) (s : Span) (total : ℕ) → IsSpanOf from to s → stated_in s total ≡ stated_length from to total
stated_is from to s total is =
    ap (λ k. cond s.unbounded (total - k) (cond (nat_lt s.least 68719476736) s.least 0)) is.skip ∙ ap (λ n. cond s.unbounded (total - from) (cond (nat_lt n 68719476736) n 0)) is.least
    ∙ ap (λ u. cond u (total - from) (cond (nat_lt (least_of from to) 68719476736) (least_of from to) 0)) is.unbounded ∙ by_end to
  where
    by_end : (to : Option ℕ) → cond (is_none to) (total - from) (cond (nat_lt (least_of from to) 68719476736) (least_of from to) 0) ≡ stated_length from to total
    by_end None = refl
    by_end (Some n) = refl

pub part_said : (wave : Bool) (info : Info) (comments : Option Comments) (from : ℕ) (to : Option ℕ) (s : Span) (rows : List (List ℤ)) (end : Option (Place × Why)) (before after : List ℕ) (result : Result ⊤ ExcerptFault)
    → IsSpanOf from to s → range_fault from to info.total ≡ None → SaysSpan (file_text wave info comments (stated_in s info.total)) s rows end before after result → SaysPart wave info comments from to rows end before after result
part_said wave info comments from to s rows end before after (Ok done) is right says = (
  right,
  subst (λ k. k ≤ length rows) is.needs says.0,
  whole_for from to s end is says.1,
  says.2 ∙ ap (λ l. before ++ file_text wave info comments (stated_in s info.total) l) (span_wanted from to s rows is) ∙ ap (λ n. before ++ file_text wave info comments n (part_of from to rows)) (stated_is from to s info.total is),
)
part_said wave info comments from to s rows end before after (Err (Unread f)) is right says = λ room. ((says room).0, short_of from to s rows is (says room).1)
part_said wave info comments from to s rows end before after (Err (Range r)) is right says = inr (right, says.0, says.1, subst (λ k. length rows < k) is.needs says.2)
part_said wave info comments from to s rows end before after (Err Write) is right says = tt

-- ---- the file

-- what is said of the samples is so of the file, if its head was sent before and its end after them
pub file_said : (text : List (List ℤ) → List ℕ) (head tail : List ℕ) (s : Span) (rows : List (List ℤ)) (end : Option (Place × Why)) (before begun sent after : List ℕ) → begun ≡ before ++ head → SaysSpan text s rows end begun sent (Ok tt) → after ≡ sent ++ tail
    → SaysSpan (λ r. head ++ (text r ++ tail)) s rows end before after (Ok tt)
file_said text head tail s rows end before begun sent after front says back = (
  says.0,
  says.1,
  back ∙ ap (λ l. l ++ tail) (says.2 ∙ ap (λ l. l ++ text (wanted s rows)) front) ∙ append_assoc (before ++ head) (text (wanted s rows)) tail ∙ append_assoc before head (text (wanted s rows) ++ tail),
)

-- a fault of the samples is one of the file
pub fault_said : (text other : List (List ℤ) → List ℕ) (s : Span) (rows : List (List ℤ)) (end : Option (Place × Why)) (before begun sent after : List ℕ) (fault : ExcerptFault) → SaysSpan text s rows end begun sent (Err fault) → SaysSpan other s rows end before after (Err fault)
fault_said text other s rows end before begun sent after (Unread f) says = says
fault_said text other s rows end before begun sent after (Range r) says = says
fault_said text other s rows end before begun sent after Write says = tt

pub outside_said : (text : List (List ℤ) → List ℕ) (s : Span) (rows : List (List ℤ)) (end : Option (Place × Why)) (before after : List ℕ) (fault : ExcerptFault) → IsOutside fault → SaysSpan text s rows end before after (Err fault)
outside_said text s rows end before after (Unread f) out = λ room. absurd (room out)
outside_said text s rows end before after (Range r) out = absurd out
outside_said text s rows end before after Write out = tt

-- ---- one frame

pub turn_refusal : {C X : Type 0} {g : container.Ghosts C} (text : List (List ℤ) → List ℕ) (old new : Reader C g) (s : Span) (before after : List ℕ) (f : Fault) → Gives {X = X} old new (λ _. last_frame new) (Err f) → Turns text old new s s before after (Err (Unread f))
turn_refusal text old new s before after f gives = λ calm room rows end q. enters_refusal old new 0 0 f refl gives calm room rows end q

pub turn_end : {C X : Type 0} {g : container.Ghosts C} (text : List (List ℤ) → List ℕ) (old new : Reader C g) (s : Span) (before : List ℕ) (x : X) → last_frame new ≡ None → Gives {X = X} old new (λ _. last_frame new) (Ok x) → Turns text old new s s before before (Ok false)
turn_end text old new s before x none gives = (
  refl,
  refl,
  λ known rows end q. let e = enters_end old new 0 0 x refl none gives known rows end q in (e.0, e.1),
)

-- ---- the end of the stream

module _ {C W : Type 0} {g : container.Ghosts C} (h : target.Ghosts W) (text : List (List ℤ) → List ℕ) where
  pub span_over : text [] ≡ [] → (first now new : Reader C g) (span later next : Span) (from to then : W) (result : Result ⊤ ExcerptFault) → SpanSoFar h text first now span later from to
      → (h.known to ≡ true → Turns text now new later next (h.sent to) (h.sent then) (Ok false)) → MatchResult result (λ x. needs next ≡ 0) (λ e. (e ≡ Range range.End) × (0 < needs next)) → SendsSpan h text first new span from then result
  span_over nothing first now new span later next from to then (Ok done) far turns ended = span_ended h text nothing first now new span later next from to then far turns ended
  span_over nothing first now new span later next from to then (Err e) far turns ended = subst (λ f. SendsSpan h text first new span from then (Err f)) (sym ended.0) (span_short h text first now new span later next from to then far turns ended.1)

pub over_failed : (X : Type 0) (result : Result ⊤ ExcerptFault) (n : ℕ) → MatchResult result (λ x. n ≡ 0) (λ e. (e ≡ Range range.End) × (0 < n)) → IfErr result (λ e. e ≡ Write → X)
over_failed X (Ok done) n ended = tt
over_failed X (Err e) n ended = λ is. other (sym ended.0 ∙ is)
  where
    other : Range range.End ≡ Write → X
    other e = absurd cc

-- ---- a WAV file

-- the zero after samples of odd length
pub even_zero : (total width : ℕ) → total % 2 * (width % 2) ≡ 0 → zero_after (total * width) ≡ []
even_zero total width none = ap (λ k. cond (nat_eq k 0) [] (0 ∷ [])) (mul-mod total width 2 ∙ ap (λ k. k % 2) none)

odd_both : (a b : ℕ) → a < 2 → b < 2 → (a * b ≡ 0 → ⊥) → (a * b) % 2 ≡ 1
odd_both zero b few less some = absurd (some (zero-mul b))
odd_both (suc zero) zero few less some = absurd (some refl)
odd_both (suc zero) (suc zero) few less some = refl
odd_both (suc zero) (suc (suc b)) few less some = absurd (omega (arith, less))
odd_both (suc (suc a)) b few less some = absurd (omega (arith, few))

pub odd_zero : (total width : ℕ) → (total % 2 * (width % 2) ≡ 0 → ⊥) → zero_after (total * width) ≡ 0 ∷ []
odd_zero total width some = ap (λ k. cond (nat_eq k 0) [] (0 ∷ [])) (mul-mod total width 2 ∙ odd_both (total % 2) (width % 2) (mod-lt total {m = 2} (omega arith)) (mod-lt width {m = 2} (omega arith)) some)

-- the samples were sent after the head, and then the end
wave_over : (K : Type 0) → K → (text : List (List ℤ) → List ℕ) (head tail : List ℕ) (s : Span) (rows : List (List ℤ)) (end : Option (Place × Why)) (before begun sent after : List ℕ) (result : Result ⊤ ExcerptFault) → begun ≡ before ++ head → SaysSpan text s rows end begun sent (Ok tt)
    → OnOk result (K → after ≡ sent ++ tail) → IfErr result (λ e. e ≡ Write) → SaysSpan (λ r. head ++ (text r ++ tail)) s rows end before after result
wave_over K k text head tail s rows end before begun sent after (Ok done) front says back only = file_said text head tail s rows end before begun sent after front says (back k)
wave_over K k text head tail s rows end before begun sent after (Err e) front says back only = subst (λ f. SaysSpan (λ r. head ++ (text r ++ tail)) s rows end before after (Err f)) (sym only) tt

pub wave_said : (K : Type 0) → K → (f : WaveFormat) (total depth row : ℕ) (info : Info) (comments : Option Comments) (s : Span) (rows : List (List ℤ)) (end : Option (Place × Why)) (before begun sent after : List ℕ) (result : Result ⊤ ExcerptFault)
    → f ≡ format_for info comments → depth ≡ info.depth → row ≡ row_of f → begun ≡ before ++ plain_head f total → SaysSpan (samples_text true depth) s rows end begun sent (Ok tt)
    → OnOk result (K → after ≡ sent ++ zero_after (total * row)) → IfErr result (λ e. e ≡ Write) → SaysSpan (file_text true info comments total) s rows end before after result
wave_said K k f total depth row info comments s rows end before begun sent after result is deep wide front says back only =
    let form = format_for info comments in
    let one = wave_over K k (samples_text true depth) (plain_head f total) (zero_after (total * row)) s rows end before begun sent after result front says back only in
    let two = subst (λ w. SaysSpan (λ r. plain_head f total ++ (samples_text true depth r ++ zero_after (total * w))) s rows end before after result) wide one in
    let three = subst (λ g. SaysSpan (λ r. plain_head g total ++ (samples_text true depth r ++ zero_after (total * row_of g))) s rows end before after result) is two in
    subst (λ d. SaysSpan (λ r. plain_head form total ++ (samples_text true d r ++ zero_after (total * row_of form))) s rows end before after result) deep three

pub zero_failed : (K L : Type 0) (result : Result ⊤ ExcerptFault) (a b c : ℕ) → (K → L) → a ≤ b → IfErr result (λ e. L → b < c) → IfErr result (λ e. e ≡ Write → K → a < c)
zero_failed K L (Ok done) a b c known kept failed = tt
zero_failed K L (Err e) a b c known kept failed = λ is k. let lt = failed (known k) in omega (arith, kept, lt)

pub on_ok : (P : Type 0) (result : Result ⊤ ExcerptFault) → P → OnOk result P
on_ok P (Ok done) p = p
on_ok P (Err e) p = tt
