-- A sheet that is read has at most 255 tracks, and each at most 255 index points: one byte counts them.
use Rattle.std.proofs.Common.{◌≡◌, ◌<◌, ◌≤◌, ◌+◌, ◌-◌, ℕ, Bool, true, false, ◌&&◌, ◌||◌, not, cond, nat_eq, nat_le, nat_lt, List, [], ◌∷◌, ◌++◌, length, codes, Option, Some, None, Result, Ok, Err, IfOk, refl, sym, ap, ◌∙◌, subst, arith, length-append}
use Rattle.std.proofs.lemmas.Bool.{eqb-true, eqb-false, leb-true, ltb-true}
use Rattle.std.proofs.lemmas.Bool.Decides.{nat_tests}
use Rattle.flac_meta.specs.declared.cue_sheet.CueIndex.{CueIndex}
use Rattle.flac_meta.specs.declared.cue_sheet.CueTrack.{CueTrack}
use Rattle.flac_meta.specs.declared.cue_sheet.CueSheet.{CueSheet}
use Rattle.flac_meta.specs.Listed.{overflows, is_bad_sheet}
use Rattle.flac_cue.specs.declared.fault.CueWhy.{CueWhy}
use Rattle.flac_cue.specs.declared.fault.CueWhy.TheVariants as why
use Rattle.flac_cue.specs.declared.audio.CueAudio.{CueAudio}
use Rattle.flac_cue.specs.declared.open.Open.{Open}
use Rattle.flac_cue.specs.Words.{word_of, after_word, number_of}
use Rattle.flac_cue.specs.Reading.{field_of, is, is_set, is_catalogue, greatest, may_follow, closed, new_track, after_track_number, after_track, is_begun, has_pre, after_flags, are_alphanumeric, after_isrc, next_index, sample_of, start_of, with_index, after_index_at, after_index, after_lead_in, after_lead_out, after_remark, after_catalogue, after_line, after_lines, after_command, begun, lead_out, finished, lines_of, sheet_in}
use Rattle.flac_cue.proofs.WordsAgain.{both}

-- the tracks that are complete are fewer than the number of the one that is read
pub record Counts (o : Open) : Type 0 where
  pub tracks : length o.tracks ≤ o.track.number - 1
  pub number : o.track.number ≤ 254
  pub points : length o.track.indices ≤ 255
  pub each : overflows o.tracks ≡ false

-- what a call gives, with its types
abbrev Gives : Result Open CueWhy → Open → Type 0
Gives r p = r ≡ Ok p

abbrev GivesLines : Result Open (ℕ × CueWhy) → Open → Type 0
GivesLines r p = r ≡ Ok p

abbrev GivesSheet : Result CueSheet CueWhy → CueSheet → Type 0
GivesSheet r s = r ≡ Ok s

abbrev GivesText : Result CueSheet (ℕ × CueWhy) → CueSheet → Type 0
GivesText r s = r ≡ Ok s

-- ---- cases

kept_cond : (c : Bool) (x y : Result Open CueWhy) (p : Open) → (c ≡ true → x ≡ Ok p → Counts p) → (c ≡ false → y ≡ Ok p → Counts p) → cond c x y ≡ Ok p → Counts p
kept_cond true x y p f g h = f refl h
kept_cond false x y p f g h = g refl h

none_kept : (e : CueWhy) (p : Open) → Err e ≡ Ok p → Counts p
none_kept e p h = cc

kept_ok : (x p : Open) → Counts x → Gives (Ok x) p → Counts p
kept_ok x p c h = let e : x ≡ p = cc in subst Counts e c

kept_option : (r : Option ℕ) (e : CueWhy) (f : ℕ → Result Open CueWhy) (p : Open) → ((n : ℕ) → f n ≡ Ok p → Counts p) → Gives (elim r [ None ↦ Err e | Some n ↦ f n ]) p → Counts p
kept_option None e f p k h = cc
kept_option (Some n) e f p k h = k n h

kept_closed : (r : Result (List CueTrack) CueWhy) (f : List CueTrack → Open) (p : Open) → ((ts : List CueTrack) → r ≡ Ok ts → Counts (f ts)) → Gives (elim r [ Err e ↦ Err e | Ok ts ↦ Ok (f ts) ]) p → Counts p
kept_closed (Ok ts) f p k h = kept_ok (f ts) p (k ts refl) h
kept_closed (Err e) f p k h = cc

or_none : (a b : Bool) → (a || b) ≡ false → (a ≡ false) × (b ≡ false)
or_none true b e = cc
or_none false b e = (refl, e)

-- ---- each command

catalogue_kept : (a : CueAudio) (o : Open) (rest : List ℕ) (p : Open) → Counts o → after_catalogue a o rest ≡ Ok p → Counts p
unfolding after_catalogue
catalogue_kept a o rest p c h =
    let x : Open = record o { catalogue = field_of 128 (word_of rest) } in
    kept_cond (not (is_set o.catalogue) && is_catalogue a.cd (word_of rest)) (Ok x) (Err why.Catalogue) p
    (λ _ g. kept_ok x p (record { tracks = c.tracks; number = c.number; points = c.points; each = c.each }) g) (λ _ g. none_kept why.Catalogue p g) h

overflows_push : (ts : List CueTrack) (t : CueTrack) → overflows ts ≡ false → length t.indices ≤ 255 → overflows (ts ++ t ∷ []) ≡ false
overflows_push [] t e few = let low : nat_lt 255 (length t.indices) ≡ false = grind (arith, nat_tests) in rw low refl
overflows_push (u ∷ us) t e few = let k = or_none (nat_lt 255 (length u.indices)) (overflows us) e in rw k.0 (overflows_push us t k.1 few)

closed_few : (o : Open) (ts : List CueTrack) → Counts o → (b d : Bool) → nat_eq o.track.number 0 ≡ b → nat_eq (length o.track.indices) 0 ≡ d
    → cond b (Ok o.tracks) (cond d (Err why.NoIndex) (Ok (o.tracks ++ o.track ∷ []))) ≡ Ok ts → (length ts ≤ o.track.number) × (overflows ts ≡ false)
closed_few o ts c true d e f h = let is : o.tracks ≡ ts = cc in (omega (arith, c.tracks, ap length is), ap overflows (sym is) ∙ c.each)
closed_few o ts c false true e f h = cc
closed_few o ts c false false e f h =
    let is : o.tracks ++ o.track ∷ [] ≡ ts = cc in
    let some = eqb-false o.track.number 0 e in
    (omega (arith, c.tracks, ap length is, length-append o.tracks (o.track ∷ []), some), ap overflows (sym is) ∙ overflows_push o.tracks o.track c.each c.points)

closed_counts : (o : Open) (ts : List CueTrack) → Counts o → closed o ≡ Ok ts → (length ts ≤ o.track.number) × (overflows ts ≡ false)
unfolding closed
closed_counts o ts c h = closed_few o ts c (nat_eq o.track.number 0) (nat_eq (length o.track.indices) 0) refl refl h

greatest_few : (cd : Bool) (n : ℕ) → nat_le n (greatest cd) ≡ true → n ≤ 254
greatest_few true n e = let h = leb-true n 99 e in omega arith
greatest_few false n e = leb-true n 254 e

follows_few : (last next : ℕ) (ts : List CueTrack) → length ts ≤ last → (b d : Bool) → nat_eq last 0 ≡ b → nat_eq next (last + 1) ≡ d → (b || d) ≡ true → 0 < next → length ts ≤ next - 1
follows_few last next ts few true d e f h some = let none = eqb-true last 0 e in omega arith
follows_few last next ts few false true e f h some = let is = eqb-true next (last + 1) f in omega arith
follows_few last next ts few false false e f h some = cc

track_number_kept : (a : CueAudio) (o : Open) (n : ℕ) (kind : List ℕ) (p : Open) → Counts o → after_track_number a o n kind ≡ Ok p → Counts p
unfolding after_track_number
track_number_kept a o n kind p c h =
    let x = λ (ts : List CueTrack). record o { tracks = ts; track = new_track n (is (codes "AUDIO") kind) } in
    kept_cond (may_follow a.cd o.track.number n && not (nat_eq (length kind) 0)) (elim (closed o) [ Err e ↦ Err e | Ok ts ↦ Ok (x ts) ]) (Err why.Track) p
    (λ e g. kept_closed (closed o) x p (λ ts d. taken ts d (both (may_follow a.cd o.track.number n) (not (nat_eq (length kind) 0)) e).0) g) (λ _ g. none_kept why.Track p g) h
  where
    taken : (ts : List CueTrack) → closed o ≡ Ok ts → may_follow a.cd o.track.number n ≡ true → Counts (record o { tracks = ts; track = new_track n (is (codes "AUDIO") kind) })
    taken ts d e =
        let few = closed_counts o ts c d in
        let k = both (nat_lt 0 n && nat_le n (greatest a.cd)) (nat_eq o.track.number 0 || nat_eq n (o.track.number + 1)) e in
        let m = both (nat_lt 0 n) (nat_le n (greatest a.cd)) k.0 in
        record {
          tracks = follows_few o.track.number n ts few.0 (nat_eq o.track.number 0) (nat_eq n (o.track.number + 1)) refl refl k.1 (ltb-true 0 n m.0);
          number = greatest_few a.cd n m.1;
          points = omega arith;
          each = few.1;
        }

track_kept : (a : CueAudio) (o : Open) (rest : List ℕ) (p : Open) → Counts o → after_track a o rest ≡ Ok p → Counts p
unfolding after_track
track_kept a o rest p c h =
    kept_option (number_of (word_of rest)) why.Track (λ n. after_track_number a o n (word_of (after_word rest))) p (λ n g. track_number_kept a o n (word_of (after_word rest)) p c g) h

flags_kept : (o : Open) (rest : List ℕ) (p : Open) → Counts o → after_flags o rest ≡ Ok p → Counts p
unfolding after_flags
flags_kept o rest p c h =
    let x : Open = record o { track = record (o.track) { pre_emphasis = has_pre rest } } in
    kept_cond (is_begun o) (Ok x) (Err why.Flags) p (λ _ g. kept_ok x p (record { tracks = c.tracks; number = c.number; points = c.points; each = c.each }) g) (λ _ g. none_kept why.Flags p g) h

isrc_kept : (o : Open) (rest : List ℕ) (p : Open) → Counts o → after_isrc o rest ≡ Ok p → Counts p
unfolding after_isrc
isrc_kept o rest p c h =
    let x : Open = record o { track = record (o.track) { isrc = word_of rest } } in
    kept_cond ((is_begun o && not (is_set o.track.isrc)) && (nat_eq (length (word_of rest)) 12 && are_alphanumeric (word_of rest))) (Ok x) (Err why.Isrc) p
    (λ _ g. kept_ok x p (record { tracks = c.tracks; number = c.number; points = c.points; each = c.each }) g) (λ _ g. none_kept why.Isrc p g) h

next_few : (cd : Bool) (done : List CueIndex) (n : ℕ) → next_index cd done n ≡ true → length done ≤ 254
unfolding next_index
next_few cd [] n e = omega arith
next_few cd (i ∷ more) n e =
    let k = both (nat_le n (greatest cd)) (nat_eq n (i.number + length (i ∷ more))) e in
    let low = greatest_few cd n k.0 in
    let is = eqb-true n (i.number + length (i ∷ more)) k.1 in
    omega arith

index_at_kept : (a : CueAudio) (o : Open) (n sample : ℕ) (p : Open) → Counts o → after_index_at a o n sample ≡ Ok p → Counts p
unfolding after_index_at
index_at_kept a o n sample p c h =
    let x : Open = record o { track = with_index o.track n sample; next = sample + 1 } in
    kept_cond (nat_eq o.track.number 0 || not (next_index a.cd o.track.indices n)) (Err why.Index) (cond (nat_lt sample o.next || nat_le a.total sample) (Err why.Offset) (Ok x)) p
    (λ _ g. none_kept why.Index p g)
    (λ e g. kept_cond (nat_lt sample o.next || nat_le a.total sample) (Err why.Offset) (Ok x) p (λ _ f. none_kept why.Offset p f) (λ _ f. kept_ok x p (taken (next_few a.cd o.track.indices n (not_not (next_index a.cd o.track.indices n) (or_none (nat_eq o.track.number 0) (not (next_index a.cd o.track.indices n)) e).1))) f) g) h
  where
    not_not : (b : Bool) → not b ≡ false → b ≡ true
    not_not true e = refl
    not_not false e = cc

    taken : length o.track.indices ≤ 254 → Counts (record o { track = with_index o.track n sample; next = sample + 1 })
    taken few = record {
      tracks = c.tracks;
      number = c.number;
      points = omega (arith, few, length-append o.track.indices (record { offset = sample - start_of o.track sample; number = n } ∷ []));
      each = c.each;
    }

index_kept : (a : CueAudio) (o : Open) (rest : List ℕ) (p : Open) → Counts o → after_index a o rest ≡ Ok p → Counts p
unfolding after_index
index_kept a o rest p c h =
    kept_option (number_of (word_of rest)) why.Index (λ n. elim (sample_of a (word_of (after_word rest))) [ None ↦ Err why.Offset | Some sample ↦ after_index_at a o n sample ]) p
    (λ n g. kept_option (sample_of a (word_of (after_word rest))) why.Offset (λ sample. after_index_at a o n sample) p (λ sample f. index_at_kept a o n sample p c f) g) h

lead_in_kept : (o : Open) (rest : List ℕ) (p : Open) → Counts o → after_lead_in o rest ≡ Ok p → Counts p
unfolding after_lead_in
lead_in_kept o rest p c h =
    kept_option (number_of (word_of rest)) why.LeadIn (λ n. Ok (record o { lead_in = n })) p
    (λ n g. kept_ok (record o { lead_in = n }) p (record { tracks = c.tracks; number = c.number; points = c.points; each = c.each }) g) h

lead_out_kept : (a : CueAudio) (o : Open) (rest : List ℕ) (p : Open) → Counts o → after_lead_out a o rest ≡ Ok p → Counts p
unfolding after_lead_out
lead_out_kept a o rest p c h =
    kept_option (number_of (word_of (after_word rest))) why.LeadOut (λ n. cond (nat_eq n a.total) (Ok o) (Err why.LeadOut)) p
    (λ n g. kept_cond (nat_eq n a.total) (Ok o) (Err why.LeadOut) p (λ _ f. kept_ok o p c f) (λ _ f. none_kept why.LeadOut p f) g) h

remark_kept : (a : CueAudio) (o : Open) (rest : List ℕ) (p : Open) → Counts o → after_remark a o rest ≡ Ok p → Counts p
unfolding after_remark
remark_kept a o rest p c h =
    let out = cond (is (codes "FLAC__lead-out") (word_of rest)) (after_lead_out a o (after_word rest)) (Ok o) in
    kept_cond (is (codes "FLAC__lead-in") (word_of rest)) (after_lead_in o (after_word rest)) out p (λ _ g. lead_in_kept o (after_word rest) p c g)
    (λ _ g. kept_cond (is (codes "FLAC__lead-out") (word_of rest)) (after_lead_out a o (after_word rest)) (Ok o) p (λ _ f. lead_out_kept a o (after_word rest) p c f) (λ _ f. kept_ok o p c f) g) h

command_kept : (a : CueAudio) (o : Open) (command rest : List ℕ) (p : Open) → Counts o → after_command a o command rest ≡ Ok p → Counts p
unfolding after_command
command_kept a o command rest p c h =
    let r6 = cond (is (codes "REM") command) (after_remark a o rest) (Ok o) in
    let r5 = cond (is (codes "INDEX") command) (after_index a o rest) r6 in
    let r4 = cond (is (codes "ISRC") command) (after_isrc o rest) r5 in
    let r3 = cond (is (codes "FLAGS") command) (after_flags o rest) r4 in
    let r2 = cond (is (codes "TRACK") command) (after_track a o rest) r3 in
    kept_cond (is (codes "CATALOG") command) (after_catalogue a o rest) r2 p (λ _ g. catalogue_kept a o rest p c g)
    (λ _ g. kept_cond (is (codes "TRACK") command) (after_track a o rest) r3 p (λ _ f. track_kept a o rest p c f)
    (λ _ f. kept_cond (is (codes "FLAGS") command) (after_flags o rest) r4 p (λ _ e. flags_kept o rest p c e)
    (λ _ e. kept_cond (is (codes "ISRC") command) (after_isrc o rest) r5 p (λ _ d. isrc_kept o rest p c d)
    (λ _ d. kept_cond (is (codes "INDEX") command) (after_index a o rest) r6 p (λ _ b. index_kept a o rest p c b)
    (λ _ b. kept_cond (is (codes "REM") command) (after_remark a o rest) (Ok o) p (λ _ y. remark_kept a o rest p c y) (λ _ y. kept_ok o p c y) b) d) e) f) g) h

-- ---- lines, and the sheet

kept_line : (r : Result Open CueWhy) (n : ℕ) (f : Open → Result Open (ℕ × CueWhy)) (p : Open) → ((q : Open) → r ≡ Ok q → f q ≡ Ok p → Counts p) → GivesLines (elim r [ Err e ↦ Err (n, e) | Ok q ↦ f q ]) p → Counts p
kept_line (Ok q) n f p k h = k q refl h
kept_line (Err e) n f p k h = cc

lines_kept : (a : CueAudio) (lines : List (List ℕ)) (n : ℕ) (o p : Open) → Counts o → after_lines a n o lines ≡ Ok p → Counts p
unfolding after_lines
lines_kept a [] n o p c h = let e : o ≡ p = cc in subst Counts e c
lines_kept a (line ∷ more) n o p c h =
    kept_line (after_line a o line) n (λ q. after_lines a (n + 1) q more) p
    (λ q e g. lines_kept a more (n + 1) q p (command_kept a o (word_of line) (after_word line) q c e) g) h

bad_sheet : (s : CueSheet) → 0 < length s.tracks → length s.tracks ≤ 255 → overflows s.tracks ≡ false → is_bad_sheet s ≡ false
bad_sheet s some few each =
    let e : nat_eq (length s.tracks) 0 ≡ false = grind (arith, nat_tests) in
    let f : nat_lt 255 (length s.tracks) ≡ false = grind (arith, nat_tests) in
    rw (e, f, each) refl

finished_fits : (a : CueAudio) (o : Open) (s : CueSheet) → Counts o → finished a o ≡ Ok s → is_bad_sheet s ≡ false
unfolding finished
finished_fits a o s c h = of_number (nat_eq o.track.number 0) h
  where
    fits : (ts : List CueTrack) → closed o ≡ Ok ts → is_bad_sheet (record { catalogue = o.catalogue; lead_in = o.lead_in; cd = a.cd; tracks = ts ++ lead_out a ∷ [] }) ≡ false
    fits ts e =
        let few = closed_counts o ts c e in
        let size = length-append ts (lead_out a ∷ []) in
        bad_sheet (record { catalogue = o.catalogue; lead_in = o.lead_in; cd = a.cd; tracks = ts ++ lead_out a ∷ [] }) (omega (arith, size)) (omega (arith, size, few.0, c.number)) (overflows_push ts (lead_out a) few.1 (omega arith))

    of_closed : (r : Result (List CueTrack) CueWhy) → closed o ≡ r
        → GivesSheet (elim r [ Err e ↦ Err e | Ok ts ↦ Ok (record { catalogue = o.catalogue; lead_in = o.lead_in; cd = a.cd; tracks = ts ++ lead_out a ∷ [] }) ]) s → is_bad_sheet s ≡ false
    of_closed (Ok ts) e g =
        let is : record { catalogue = o.catalogue; lead_in = o.lead_in; cd = a.cd; tracks = ts ++ lead_out a ∷ [] } ≡ s = cc in ap is_bad_sheet (sym is) ∙ fits ts e
    of_closed (Err e) f g = cc

    of_number : (b : Bool)
        → GivesSheet (cond b (Err why.NoTrack) (elim (closed o) [ Err e ↦ Err e | Ok ts ↦ Ok (record { catalogue = o.catalogue; lead_in = o.lead_in; cd = a.cd; tracks = ts ++ lead_out a ∷ [] }) ])) s
        → is_bad_sheet s ≡ false
    of_number true g = cc
    of_number false g = of_closed (closed o) refl g

begun_counts : (a : CueAudio) → Counts (begun a)
begun_counts a = record { tracks = omega arith; number = omega arith; points = omega arith; each = refl }

of_finished : (a : CueAudio) (o : Open) (n : ℕ) (s : CueSheet) → Counts o → (r : Result CueSheet CueWhy) → finished a o ≡ r → GivesText (elim r [ Err e ↦ Err (n, e) | Ok t ↦ Ok t ]) s → is_bad_sheet s ≡ false
of_finished a o n s c (Ok t) e h = let is : t ≡ s = cc in finished_fits a o s c (e ∙ ap Ok is)
of_finished a o n s c (Err y) e h = cc

of_lines : (a : CueAudio) (lines : List (List ℕ)) (n : ℕ) (s : CueSheet) → (r : Result Open (ℕ × CueWhy)) → after_lines a 1 (begun a) lines ≡ r
    → GivesText (elim r [ Err e ↦ Err e | Ok o ↦ elim (finished a o) [ Err e ↦ Err (n, e) | Ok t ↦ Ok t ] ]) s → is_bad_sheet s ≡ false
of_lines a lines n s (Ok o) e h = of_finished a o n s (lines_kept a lines 1 (begun a) o (begun_counts a) e) (finished a o) refl h
of_lines a lines n s (Err y) e h = cc

-- what is read can be written
pub read_fits : (a : CueAudio) (text : List ℕ) (s : CueSheet) → sheet_in a text ≡ Ok s → is_bad_sheet s ≡ false
unfolding sheet_in
read_fits a text s h = of_lines a (lines_of text) (length (lines_of text)) s (after_lines a 1 (begun a) (lines_of text)) refl h

pub each_fits : {E : Type 0} (a : CueAudio) (text : List ℕ) (r : Result CueSheet E) → IfOk r (λ s. sheet_in a text ≡ Ok s) → IfOk r (λ s. is_bad_sheet s ≡ false)
each_fits a text (Ok s) h = read_fits a text s h
each_fits a text (Err e) h = tt
