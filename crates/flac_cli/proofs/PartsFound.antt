-- A part that is read from a frame before it on.
use Rattle.std.proofs.Common.{◌≡◌, ◌≤◌, ◌+◌, ◌-◌, ◌&&◌, ℕ, ℤ, Bool, true, false, List, [], ◌∷◌, ◌++◌, length, length-append, take, drop, append_assoc, Option, Some, None, IfSome, Result, Ok, Err, refl, sym, ap, subst, ◌∙◌, arith}
use Rattle.std.specs.Prelude.{◌≢◌, OnOk, is_some, nat_lt, nat_le, option_map, unwrap_or, ⊤}
use Rattle.std.proofs.lemmas.Bool.{and_parts}
use Rattle.std.proofs.lemmas.Bool.Decides.{nat_tests}
use Rattle.std.proofs.lemmas.List.{length-drop, take_all}
use Rattle.std.proofs.Math.Seq.{drop-append-add}
use Rattle.std.specs.declared.io.traits.Read as read
use Rattle.std.specs.declared.io.traits.Seek as seek
use Rattle.flac_bits.specs.Bits.{bits_of}
use Rattle.flac_bits.specs.State.{the_end}
use Rattle.flac_bits.specs.Handing.{by_grammar}
use Rattle.flac_bits.specs.declared.why.Why.{Why}
use Rattle.flac_bits.specs.declared.why.Why.TheVariants.{Truncated}
use Rattle.flac_bits.specs.declared.target.Target as target
use Rattle.flac_info.specs.Info.{Info}
use Rattle.flac_header.specs.declared.subset.Profile.{Profile}
use Rattle.flac_meta.specs.declared.comments.Comments.{Comments}
use Rattle.flac_frame.specs.Frame.{Frame, first_sample}
use Rattle.flac_native.specs.Decoding.{beginning}
use Rattle.flac_native.specs.Resuming.{resumed}
use Rattle.flac_native.specs.Stream.{grammar}
use Rattle.flac_native.specs.Item.{Item, frame}
use Rattle.flac_native.specs.Giving.{EndsBy, stage_of}
use Rattle.flac_native.specs.declared.fault.Place.{Place}
use Rattle.flac_native.specs.declared.fault.Fault.{Fault}
use Rattle.flac_native.specs.declared.container.Container as container
use Rattle.flac_reader.specs.Coming.{FramesCome, item_in, only_frame}
use Rattle.flac_reader.specs.Giving.{last_frame}
use Rattle.flac_reader.specs.Kept.{first_comments}
use Rattle.flac_reader.specs.Inputs.{any_input}
use Rattle.flac_reader.specs.Moved.{FindsMoved, bytes_to_come}
use Rattle.flac_reader.specs.Opening.{IsReadAs, Opens}
use Rattle.flac_reader.specs.declared.keep.Keep.TheVariants.{Tags}
use Rattle.flac_reader.specs.Seeking.{holds, HoldsFirst, Finds, IsNumbered, number_of}
use Rattle.flac_reader.specs.declared.reader.Reader.{Reader}
use Rattle.flac_reader.proofs.Cuts.{cut_read}
use Rattle.flac_compare.specs.Samples.{samples_from, samples_of}
use Rattle.flac_compare.specs.inner.Stepping.{MeetsNone}
use Rattle.flac_compare.proofs.Samples.{samples_length}
use Rattle.flac_cli.specs.Excerpts.{last_of, file_text, part_of, stated_length, range_fault, SaysPart, start_of, stop_of}
use Rattle.flac_cli.specs.Sought.{part_after, IsPartAfter, TakesFrames, AreNumbered, SoughtIsPart, HasSought}
use Rattle.flac_cli.specs.Streams.{profile_of}
use Rattle.flac_cli.specs.inner.Excerpts.{IsSpanOf, stated_in, RowsCome, SaysSpan, SendsFile}
use Rattle.flac_cli.specs.inner.Sought.{SendsFound, FindsSome}
use Rattle.flac_cli.specs.declared.excerpt.Span.{Span}
use Rattle.flac_cli.specs.declared.excerpt.ExcerptFault.{ExcerptFault}
use Rattle.flac_cli.proofs.Excerpts.{span_wanted, whole_for, stated_is}
use Rattle.flac_cli.proofs.Opened.{info_of, comments_of, rows_come}
use Rattle.flac_jobs.specs.declared.excerpts.Excerpt.{Excerpt}

-- ---- a span from a sample on

abbrev pub span_from : Span → (first : ℕ) → Span
span_from s first = record s { skip = s.skip - first }

abbrev moved_back : (first : ℕ) → Option ℕ → Option ℕ
moved_back first to = option_map (λ n. n - first) to

span_after : (first from : ℕ) (to : Option ℕ) (s : Span) → first ≤ from → IsSpanOf from to s → IsSpanOf (from - first) (moved_back first to) (span_from s first)
span_after first from None s le is = record {
  skip = ap (λ n. n - first) is.skip;
  least = is.least;
  unbounded = is.unbounded;
  needs = let a = is.skip in let b = is.least in omega (arith, a, b, le);
}
span_after first from (Some to) s le is = record {
  skip = ap (λ n. n - first) is.skip;
  least = let b = is.least in omega (arith, b, le);
  unbounded = is.unbounded;
  needs = let a = is.skip in let b = is.least in let n = is.needs in omega (arith, a, b, n, le);
}

pub part_sent : (wave : Bool) (info : Info) (comments : Option Comments) (first from : ℕ) (to : Option ℕ) (s : Span) (total : ℕ) (rows : List (List ℤ)) (end : Option (Place × Why)) (before after : List ℕ)
    → first ≤ from → IsSpanOf from to s → range_fault from to info.total ≡ None → total ≡ stated_in s info.total → SaysSpan (file_text wave info comments total) (span_from s first) rows end before after (Ok tt)
    → IsPartAfter wave info comments first from to rows end before after
part_sent wave info comments first from to s total rows end before after le is right states says = record {
  right = right;
  enough = let n = is.needs in let m = says.0 in omega (arith, n, m);
  whole = whole_for from to s end is says.1;
  written = says.2 ∙ ap (λ l. before ++ file_text wave info comments total l) (span_wanted (from - first) (moved_back first to) (span_from s first) rows (span_after first from to s le is))
      ∙ ap (λ n. before ++ file_text wave info comments n (part_after first from to rows)) (states ∙ stated_is from to s info.total is);
}

pub found_sent : {C W : Type 0} {g : container.Ghosts C} (h : target.Ghosts W) (e : Excerpt) (reader new : Reader C g) (s late : Span) (total n : ℕ) (from to : W)
    → IsSpanOf (start_of e.from reader.info) (stop_of e.to reader.info) s → range_fault (start_of e.from reader.info) (stop_of e.to reader.info) reader.info.total ≡ None → total ≡ stated_in s reader.info.total → late ≡ span_from s n → n ≡ reader.first
    → MeetsNone reader new → SendsFile h e.wave total reader new late from to (Ok tt) → SendsFound h e reader from to
found_sent h e reader new s late total n from to is right states after first met says = λ known writes le rows end q.
    let info = reader.info in
    let comments = first_comments reader.blocks.items in
    let sent = says (known, met.1, met.2) writes rows end q in
    part_sent e.wave info comments reader.first (start_of e.from info) (stop_of e.to info) s total rows end (h.sent from) (h.sent to) le is right states
    (subst (λ l. SaysSpan (file_text e.wave info comments total) l rows end (h.sent from) (h.sent to) (Ok tt)) (after ∙ ap (span_from s) first) sent)

-- ---- the frame that is found

abbrev item : Option Item → Result (Option Item) Fault
item h = Ok h

none_left : (h : Option Item) (end : Option (Place × Why)) → EndsBy end (Ok h) → only_frame h ≢ None → ⊥
none_left h None e some = some (ap only_frame (inside h e))
  where
    inside : (x : Option Item) → item x ≡ Ok None → x ≡ None
    inside x same = cc
none_left h (Some f) e some = absurd cc

item_is : (h : Option Item) (f : Frame) → item h ≡ Ok (Some (frame f)) → h ≡ Some (frame f)
item_is h f same = cc

some_left : {C : Type 0} {g : container.Ghosts C} (reader : Reader C g) (frames : List Frame) (end : Option (Place × Why)) → FramesCome g true (stage_of reader.decoder) frames end → last_frame reader ≢ None
    → (f : Frame) × (more : List Frame) × (frames ≡ f ∷ more) × (item_in (stage_of reader.decoder) ≡ Some (frame f))
some_left reader [] end come some = absurd (none_left (item_in (stage_of reader.decoder)) end come.0 some)
some_left reader (f ∷ more) end come some = (f, more, refl, item_is (item_in (stage_of reader.decoder)) f come.0)

begins_before : (first sample : ℕ) (rest : Bool) → (nat_le first sample && rest) ≡ true → first ≤ sample
begins_before first sample rest is = let p = (and_parts (nat_le first sample) rest is).0 in grind (arith, nat_tests)

-- the part is of the frames that come, if what is said of a reader at that frame is so
pub takes : {C : Type 0} {g : container.Ghosts C} (e : Excerpt) (info : Info) (comments : Option Comments) (reader : Reader C g) (frames : List Frame) (end : Option (Place × Why)) (before after : List ℕ)
    → Finds g info (start_of e.from info) frames end reader.ahead (stage_of reader.decoder) → reader.ahead ≡ true → last_frame reader ≢ None → IsNumbered info reader
    → (reader.first ≤ start_of e.from info → (rows : List (List ℤ)) (end : Option (Place × Why)) → RowsCome reader rows end → IsPartAfter e.wave info comments reader.first (start_of e.from info) (stop_of e.to info) rows end before after)
    → TakesFrames e info comments frames end before after
takes {g = g} e info comments reader frames end before after finds ahead some numbered says =
    let sample = start_of e.from info in
    let come = subst (λ b. FramesCome g b (stage_of reader.decoder) finds.left end) ahead finds.come in
    let l = some_left reader finds.left end come some in
    let held : holds info sample l.0 ≡ true = subst (λ fs. HoldsFirst info sample fs) l.2 finds.holds in
    let number : reader.first ≡ first_sample info.greatest_block l.0 = numbered.0 ∙ numbered.1 ∙ ap (number_of info) l.3 in
    let le : reader.first ≤ sample = subst (λ n. n ≤ sample) (sym number) (begins_before (first_sample info.greatest_block l.0) sample (nat_lt sample (first_sample info.greatest_block l.0 + l.0.size)) held) in
    let part = says le (samples_of finds.left) end (rows_come reader finds.left end finds.come) in
    let one = subst (λ n. IsPartAfter e.wave info comments n sample (stop_of e.to info) (samples_of finds.left) end before after) number part in
    record {
      passed = finds.passed;
      found = l.0;
      more = l.1;
      split = finds.split ∙ ap (λ fs. finds.passed ++ fs) l.2;
      by = finds.by;
      held = held;
      part = subst (λ fs. IsPartAfter e.wave info comments (first_sample info.greatest_block l.0) sample (stop_of e.to info) (samples_of fs) end before after) l.2 one;
    }

pub finds_some : {T C : Type 0} {g : container.Ghosts C} (s : seek.Ghosts T) (d : read.Ghosts T) (device : T) (profile : Profile) (info : Info) (sample : ℕ) (reader : Reader C g) (o : Option (Reader C g)) (at : ℕ)
    → IfSome o (λ r. r ≡ reader) → IfSome o (λ r. last_frame r ≢ None) → FindsMoved s d device at profile info sample reader → reader.ahead ≡ true → IfSome o (FindsSome s d device profile info sample)
finds_some s d device profile info sample reader None at same some finds ahead = tt
finds_some s d device profile info sample reader (Some r) at same some finds ahead =
    let found : FindsSome s d device profile info sample reader = record { at = at; finds = finds; some = subst (λ x. last_frame x ≢ None) same some; ahead = ahead } in
    subst (λ x. FindsSome s d device profile info sample x) (sym same) found

-- a part was sent of a stream that was opened, and sought
pub sent_sought : {T C D W : Type 0} {g : container.Ghosts C} {k : container.Ghosts D} (s : seek.Ghosts T) (d : read.Ghosts T) (h : target.Ghosts W) (e : Excerpt) (device : T) (profile : Profile) (sample : ℕ) (reader : Reader C g) (later : Reader D k) (from to : W)
    → profile ≡ profile_of e.lax → sample ≡ start_of e.from reader.info → (is_some (d.remaining device) ≡ true → Opens (any_input profile (bytes_to_come (d.remaining device)) the_end) Tags reader)
    → later.blocks ≡ reader.blocks → later.info ≡ reader.info → IsNumbered reader.info later → FindsSome s d device profile reader.info sample later → SendsFound h e later from to → HasSought s d h e device from to
sent_sought {T = T} {k = k} s d h e device profile sample reader later from to is_profile is_sample opened same_blocks same_info numbered found sends =
    go (subst (λ p. is_some (d.remaining device) ≡ true → Opens (any_input p (bytes_to_come (d.remaining device)) the_end) Tags reader) is_profile opened)
    (subst (λ p. FindsSome s d device p reader.info (start_of e.from reader.info) later) is_profile (subst (λ n. FindsSome s d device profile reader.info n later) is_sample found))
  where
    go : (is_some (d.remaining device) ≡ true → Opens (any_input (profile_of e.lax) (bytes_to_come (d.remaining device)) the_end) Tags reader) → FindsSome s d device (profile_of e.lax) reader.info (start_of e.from reader.info) later → HasSought s d h e device from to
    go opens f = λ told writes. record {
      at = f.at;
      moved = f.finds.moved;
      there = f.finds.there;
      takes = λ here blocks frames end is.
          let r = any_input (profile_of e.lax) (bytes_to_come (d.remaining device)) the_end in
          let comments = ap (λ b. first_comments b.items) same_blocks ∙ comments_of reader r blocks frames end (opens told) is in
          let says = subst (λ i. later.first ≤ start_of e.from i → (rows : List (List ℤ)) (end : Option (Place × Why)) → RowsCome later rows end
          → IsPartAfter e.wave i (first_comments later.blocks.items) later.first (start_of e.from i) (stop_of e.to i) rows end (h.sent from) (h.sent to)) same_info (sends (f.finds.over.known here) writes) in (
            reader.info,
            info_of reader r blocks frames end (opens told) is,
            λ more last read. takes e reader.info (first_comments blocks) later more last (h.sent from) (h.sent to) (f.finds.sought here more last read) f.ahead f.some numbered
                (λ le rows end q. subst (λ m. IsPartAfter e.wave reader.info m later.first (start_of e.from reader.info) (stop_of e.to reader.info) rows end (h.sent from) (h.sent to)) comments (says le rows end q)),
          );
    }

-- ---- a device as a source

abbrev most : ℕ
most = 18446744073709551615

both : (b : Bool) → b ≡ true → (b && nat_lt 0 most) ≡ true
both true e = refl
both false e = absurd cc

-- what holds of the bytes of a source that was made of a device holds of those that the device has to come
pub of_device : {T : Type 0} (remaining : T → Option (List ℕ)) (device d : T) (errors room : ℕ) (P : List ℕ → Type 0) → d ≡ device → errors ≡ 0 → room ≡ most
    → ((is_some (remaining d) && nat_lt errors most) ≡ true → P (take room (unwrap_or (remaining d) []))) → is_some (remaining device) ≡ true → P (bytes_to_come (remaining device))
of_device {T = T} remaining device d errors room P e z full h k =
    let Q : T → ℕ → ℕ → Type 0 = λ x n m. (is_some (remaining x) && nat_lt n most) ≡ true → P (take m (unwrap_or (remaining x) [])) in
    let done : Q device 0 most = subst (λ x. Q x 0 most) e (subst (λ n. Q d n most) z (subst (λ m. Q d errors m) full h)) in
    done (both (is_some (remaining device)) k)

-- ---- results

pub on_ok_both : (A B : Type 0) (r : Result ⊤ ExcerptFault) → (A → B) → OnOk r A → OnOk r B
on_ok_both A B (Ok done) f a = f a
on_ok_both A B (Err e) f a = tt

-- ---- a whole stream

samples_append : (a b : List Frame) → samples_of (a ++ b) ≡ samples_of a ++ samples_of b
unfolding samples_of
samples_append [] b = refl
samples_append (f ∷ fs) b = ap (λ l. samples_from f.channels f.size 0 ++ l) (samples_append fs b) ∙ sym (append_assoc (samples_from f.channels f.size 0) (samples_of fs) (samples_of b))

-- a frame's number is that of the samples before it
numbered_at : (info : Info) (n : ℕ) (front : List Frame) (f : Frame) (more : List Frame) → AreNumbered info n (front ++ (f ∷ more)) → first_sample info.greatest_block f ≡ n + length (samples_of front)
unfolding samples_of
numbered_at info n [] f more are = let e = are.0 in omega (arith, e)
numbered_at info n (g ∷ gs) f more are =
    let later = numbered_at info (n + g.size) gs f more are.1 in
    let long = length-append (samples_from g.channels g.size 0) (samples_of gs) in
    let one = samples_length g.channels g.size 0 in
    omega (arith, later, long, one)

-- a part of samples is one of those after the first ones, if it begins after these
part_at : (from : ℕ) (to : Option ℕ) (n : ℕ) (xs ys : List (List ℤ)) → length xs ≡ n → n ≤ from → part_after n from to ys ≡ part_of from to (xs ++ ys)
part_at from None n xs ys long le =
    let e : from ≡ length xs + (from - n) = omega (arith, long, le) in
    sym (ap (λ k. drop k (xs ++ ys)) e ∙ drop-append-add xs ys (from - n))
part_at from (Some to) n xs ys long le =
    let e : from ≡ length xs + (from - n) = omega (arith, long, le) in
    let many : to - n - (from - n) ≡ to - from = omega (arith, le) in
    ap (λ k. take k (drop (from - n) ys)) many ∙ ap (λ l. take (to - from) l) (sym (ap (λ k. drop k (xs ++ ys)) e ∙ drop-append-add xs ys (from - n)))

-- of all frames
part_of_all : (e : Excerpt) (info : Info) (comments : Option Comments) (front later : List Frame) (end : Option (Place × Why)) (before after : List ℕ) → AreNumbered info 0 (front ++ later) → TakesFrames e info comments later end before after
    → SaysPart e.wave info comments (start_of e.from info) (stop_of e.to info) (samples_of (front ++ later)) end before after (Ok tt)
part_of_all e info comments front later end before after are t =
    let from = start_of e.from info in
    let to = stop_of e.to info in
    let f = t.found in
    let first = first_sample info.greatest_block f in
    let all : front ++ later ≡ (front ++ t.passed) ++ (f ∷ t.more) = ap (λ l. front ++ l) t.split ∙ sym (append_assoc front t.passed (f ∷ t.more)) in
    let xs = samples_of (front ++ t.passed) in
    let ys = samples_of (f ∷ t.more) in
    let rows : samples_of (front ++ later) ≡ xs ++ ys = ap samples_of all ∙ samples_append (front ++ t.passed) (f ∷ t.more) in
    let at = numbered_at info 0 (front ++ t.passed) f t.more (subst (λ l. AreNumbered info 0 l) all are) in
    let long : length xs ≡ first = omega (arith, at) in
    let le : first ≤ from = begins_before first from (nat_lt from (first + f.size)) t.held in
    let many : length (samples_of (front ++ later)) ≡ first + length ys = ap length rows ∙ length-append xs ys ∙ ap (λ n. n + length ys) long in
    let enough = t.part.enough in (
      t.part.right,
      subst (λ n. last_of from to ≤ n) (sym many) enough,
      t.part.whole,
      t.part.written ∙ ap (λ l. before ++ file_text e.wave info comments (stated_length from to info.total) l) (part_at from to first xs ys long le ∙ ap (λ l. part_of from to l) (sym rows)),
    )

pub sought_is_part : SoughtIsPart
sought_is_part e stream at blocks front later info before after short read is cuts are takes =
    let profile = profile_of e.lax in
    let there = cut_read profile stream info at later cuts in
    let few : take most (drop at stream) ≡ drop at stream = take_all most (drop at stream) (let l = length-drop at stream in omega (arith, l, short)) in
    let t = takes later None (subst (λ bytes. IsReadAs (by_grammar grammar (resumed profile info) (beginning Truncated) (bits_of bytes)) [] later None) (sym few) there) in
    record {
      blocks = blocks;
      frames = front ++ later;
      end = None;
      read = read;
      says = (info, is, part_of_all e info (first_comments blocks) front later None before after are t);
    }
