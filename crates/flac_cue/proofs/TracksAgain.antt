-- Tracks that are written are read again.
use Rattle.std.proofs.Common.{◌≡◌, ◌<◌, ◌≤◌, ◌+◌, ◌-◌, ◌%◌, ◌^◌, ℕ, Bool, true, false, ◌&&◌, ◌||◌, cond, nat_eq, nat_le, nat_lt, List, [], ◌∷◌, ◌++◌, length, codes, flat_map, take, Some, Ok, ◌⊎◌, inl, inr, refl, sym, ap, ◌∙◌, arith, append_assoc, append-nil}
use Rattle.std.proofs.Math.Seq.{take-append_seam}
use Rattle.std.specs.Prelude.{◌==◌}
use Rattle.std.specs.List.{position_or_len}
use Rattle.std.proofs.lemmas.Bool.{leb-true, ltb-true}
use Rattle.std.proofs.lemmas.Bool.Decides.{nat_tests}
use Rattle.flac_meta.specs.declared.cue_sheet.CueIndex.{CueIndex}
use Rattle.flac_meta.specs.declared.cue_sheet.CueTrack.{CueTrack}
use Rattle.flac_cue.specs.declared.audio.CueAudio.{CueAudio}
use Rattle.flac_cue.specs.declared.open.Open.{Open}
use Rattle.flac_cue.specs.Words.{is_digit, word_at, after_at, word_of, after_word, number_of}
use Rattle.flac_cue.specs.Text.{padded, text_of, place, offset_text, index_line, isrc_line, flags_line, kind_text, track_text}
use Rattle.flac_cue.specs.Reading.{zeros, is, greatest, may_follow, closed, new_track, after_track_number, after_track, is_begun, after_flags, are_alphanumeric, after_isrc, next_index, sample_of, with_index, after_index_at, after_index, after_line, after_command}
use Rattle.flac_cue.specs.ComesBack.{is_plain, are_plain, IsCueIndex, AreCueIndices, next_after, IsCueTrack, AreCueTracks}
use Rattle.flac_cue.proofs.WordsAgain.{both, both_hold, some_not_none, word_is, after_is, last_word, padded_writes, place_reads, place_word}
use Rattle.flac_cue.proofs.LinesAgain.{no_end, no_end_both, plain_no_end, Runs, runs_none, runs_line, runs_then, runs_same, one_piece, two_pieces}

-- the sheet that is read
abbrev pub so_far : List ℕ → ℕ → List CueTrack → CueTrack → ℕ → Open
so_far catalogue lead_in tracks track next = record { catalogue = catalogue; lead_in = lead_in; tracks = tracks; track = track; next = next }

no_end_pieces : (front v w : List ℕ) → no_end front ≡ true → are_plain v ≡ true → are_plain w ≡ true → no_end (front ++ (v ++ 32 ∷ w)) ≡ true
no_end_pieces front v w p q r = no_end_both front (v ++ 32 ∷ w) p (no_end_both v (32 ∷ w) (plain_no_end v q) (plain_no_end w r))

-- ---- TRACK

track_number_taken : (a : CueAudio) (o : Open) (n : ℕ) (kind : List ℕ) (done : List CueTrack) → may_follow a.cd o.track.number n ≡ true → nat_eq (length kind) 0 ≡ false → closed o ≡ Ok done
    → after_track_number a o n kind ≡ Ok (record o { tracks = done; track = new_track n (is (codes "AUDIO") kind) })
unfolding after_track_number
track_number_taken a o n kind done follows some e = rw (follows, some, e) refl

track_word_taken : (a : CueAudio) (o : Open) (n : ℕ) (rest : List ℕ) → number_of (word_of rest) ≡ Some n → after_track a o rest ≡ after_track_number a o n (word_of (after_word rest))
unfolding after_track
track_word_taken a o n rest e = rw (e, after_track) refl

track_taken : (a : CueAudio) (o : Open) (rest : List ℕ) → after_line a o (codes "  TRACK " ++ rest) ≡ after_track a o (32 ∷ rest)
unfolding word_at after_at after_command
track_taken a o rest = refl

track_line : (a : CueAudio) (o : Open) (n : ℕ) (kind : List ℕ) (done : List CueTrack) → n < 2 ^ 64 → may_follow a.cd o.track.number n ≡ true → 0 < length kind → are_plain kind ≡ true → closed o ≡ Ok done
    → after_line a o (codes "  TRACK " ++ (padded n ++ 32 ∷ kind)) ≡ Ok (record o { tracks = done; track = new_track n (is (codes "AUDIO") kind) })
track_line a o n kind done small follows some plain e =
    let w = padded_writes n small in
    let named : nat_eq (length kind) 0 ≡ false = grind (arith, nat_tests) in
    let here : word_of (after_word (32 ∷ (padded n ++ 32 ∷ kind))) ≡ kind = ap word_of (after_is (padded n) (32 ∷ kind) w.some w.plain refl) ∙ last_word kind some plain in
    track_taken a o (padded n ++ 32 ∷ kind)
    ∙ track_word_taken a o n (32 ∷ (padded n ++ 32 ∷ kind)) (ap number_of (word_is (padded n) (32 ∷ kind) w.some w.plain refl) ∙ w.reads)
    ∙ ap (after_track_number a o n) here ∙ track_number_taken a o n kind done follows named e

kind_runs : (a : CueAudio) (o : Open) (n : ℕ) (kind : List ℕ) (done : List CueTrack) → n < 2 ^ 64 → may_follow a.cd o.track.number n ≡ true → 0 < length kind → are_plain kind ≡ true → closed o ≡ Ok done
    → Runs a o (codes "  TRACK " ++ (padded n ++ 32 ∷ (kind ++ 10 ∷ []))) (record o { tracks = done; track = new_track n (is (codes "AUDIO") kind) })
kind_runs a o n kind done small follows some plain e =
    runs_line a o (record o { tracks = done; track = new_track n (is (codes "AUDIO") kind) }) (codes "  TRACK " ++ (padded n ++ 32 ∷ kind)) (codes "  TRACK " ++ (padded n ++ 32 ∷ (kind ++ 10 ∷ [])))
    (two_pieces (codes "  TRACK ") (padded n) kind) (no_end_pieces (codes "  TRACK ") (padded n) kind refl (padded_writes n small).plain plain)
    (track_line a o n kind done small follows some plain e)

pub track_runs : (a : CueAudio) (o : Open) (n : ℕ) (audio : Bool) (done : List CueTrack) → n < 2 ^ 64 → may_follow a.cd o.track.number n ≡ true → closed o ≡ Ok done
    → Runs a o (codes "  TRACK " ++ (padded n ++ kind_text audio)) (record o { tracks = done; track = new_track n audio })
track_runs a o n true done small follows e = kind_runs a o n (codes "AUDIO") done small follows (omega arith) refl e
track_runs a o n false done small follows e = kind_runs a o n (codes "DATA") done small follows (omega arith) refl e

-- ---- FLAGS, ISRC

flags_word_taken : (o : Open) → is_begun o ≡ true → after_flags o (codes " PRE") ≡ Ok (record o { track = record (o.track) { pre_emphasis = true } })
unfolding after_flags word_at after_at
flags_word_taken o e = rw e refl

flags_taken : (a : CueAudio) (o : Open) → after_line a o (codes "    FLAGS PRE") ≡ after_flags o (codes " PRE")
unfolding word_at after_at after_command
flags_taken a o = refl

pub flags_runs : (a : CueAudio) (o : Open) (pre : Bool) → is_begun o ≡ true → o.track.pre_emphasis ≡ false → Runs a o (flags_line pre) (record o { track = record (o.track) { pre_emphasis = pre } })
flags_runs a o true begun none =
    runs_line a o (record o { track = record (o.track) { pre_emphasis = true } }) (codes "    FLAGS PRE") (codes "    FLAGS PRE\n") refl refl (flags_taken a o ∙ flags_word_taken o begun)
flags_runs a o false begun none = runs_same a o o (record o { track = record (o.track) { pre_emphasis = false } }) [] (ap (λ b. record o { track = record (o.track) { pre_emphasis = b } }) none) (runs_none a o)

-- the bytes of a code are not blank, and none is 0
code_plain : (b : ℕ) → (is_digit b || (nat_le 65 b && nat_le b 90)) ≡ true → is_plain b ≡ true
code_plain b e = grind (arith, nat_tests)

codes_plain : (w : List ℕ) → are_alphanumeric w ≡ true → are_plain w ≡ true
codes_plain [] e = refl
codes_plain (b ∷ bs) e =
    let k = both (is_digit b || (nat_le 65 b && nat_le b 90)) (are_alphanumeric bs) e in
    both_hold (is_plain b) (are_plain bs) (code_plain b k.0) (codes_plain bs k.1)

code_some : (b : ℕ) → (is_digit b || (nat_le 65 b && nat_le b 90)) ≡ true → (b == 0) ≡ false
code_some b e = grind (arith, nat_tests)

codes_end : (w : List ℕ) → are_alphanumeric w ≡ true → position_or_len (λ byte. byte == 0) w ≡ length w
codes_end [] e = refl
codes_end (b ∷ bs) e =
    let k = both (is_digit b || (nat_le 65 b && nat_le b 90)) (are_alphanumeric bs) e in
    let more : position_or_len (λ byte. byte == 0) bs ≡ length bs = codes_end bs k.1 in
    rw (code_some b k.0) (omega (arith, more))

all_of_it : (w : List ℕ) → take (length w) w ≡ w
all_of_it w = ap (take (length w)) (sym (append-nil w)) ∙ take-append_seam w []

text_is : (w : List ℕ) → are_alphanumeric w ≡ true → text_of w ≡ w
text_is w e = ap (λ n. take n w) (codes_end w e) ∙ all_of_it w

isrc_word_taken : (o : Open) (rest w : List ℕ) → is_begun o ≡ true → o.track.isrc ≡ zeros 12 → word_of rest ≡ w → length w ≡ 12 → are_alphanumeric w ≡ true
    → after_isrc o rest ≡ Ok (record o { track = record (o.track) { isrc = w } })
unfolding after_isrc
isrc_word_taken o rest w begun none is size e = rw (begun, none, is, size, e) refl

isrc_taken : (a : CueAudio) (o : Open) (rest : List ℕ) → after_line a o (codes "    ISRC " ++ rest) ≡ after_isrc o (32 ∷ rest)
unfolding word_at after_at after_command
isrc_taken a o rest = refl

isrc_runs_code : (a : CueAudio) (o : Open) (w : List ℕ) → is_begun o ≡ true → o.track.isrc ≡ zeros 12 → length w ≡ 12 → are_alphanumeric w ≡ true
    → Runs a o (codes "    ISRC " ++ (w ++ codes "\n")) (record o { track = record (o.track) { isrc = w } })
isrc_runs_code a o w begun none size e =
    let some : 0 < length w = omega arith in
    runs_line a o (record o { track = record (o.track) { isrc = w } }) (codes "    ISRC " ++ w) (codes "    ISRC " ++ (w ++ codes "\n")) (one_piece (codes "    ISRC ") w)
    (no_end_both (codes "    ISRC ") w refl (plain_no_end w (codes_plain w e)))
    (isrc_taken a o w ∙ isrc_word_taken o (32 ∷ w) w begun none (last_word w some (codes_plain w e)) size e)

isrc_line_is : (w : List ℕ) → length w ≡ 12 → are_alphanumeric w ≡ true → isrc_line w ≡ codes "    ISRC " ++ (w ++ codes "\n")
isrc_line_is w size e = rw (text_is w e) (rw size refl)

-- the text in another form
pub runs_text : (a : CueAudio) (o p : Open) (s t : List ℕ) → s ≡ t → Runs a o t p → Runs a o s p
runs_text a o p s t e f = rw e f

pub isrc_runs : (a : CueAudio) (o : Open) (w : List ℕ) → is_begun o ≡ true → o.track.isrc ≡ zeros 12 → (w ≡ zeros 12) ⊎ ((length w ≡ 12) × (are_alphanumeric w ≡ true))
    → Runs a o (isrc_line w) (record o { track = record (o.track) { isrc = w } })
isrc_runs a o w begun none (inl e) =
    runs_same a o o (record o { track = record (o.track) { isrc = w } }) (isrc_line w) (ap (λ l. record o { track = record (o.track) { isrc = l } }) (none ∙ sym e))
    (runs_text a o o (isrc_line w) [] (ap isrc_line e) (runs_none a o))
isrc_runs a o w begun none (inr h) =
    runs_text a o (record o { track = record (o.track) { isrc = w } }) (isrc_line w) (codes "    ISRC " ++ (w ++ codes "\n")) (isrc_line_is w h.0 h.1) (isrc_runs_code a o w begun none h.0 h.1)

-- ---- INDEX

index_at_taken : (a : CueAudio) (o : Open) (n sample : ℕ) → nat_eq o.track.number 0 ≡ false → next_index a.cd o.track.indices n ≡ true → o.next ≤ sample → sample < a.total
    → after_index_at a o n sample ≡ Ok (record o { track = with_index o.track n sample; next = sample + 1 })
unfolding after_index_at
index_at_taken a o n sample begun follows rises inside =
    let low : nat_lt sample o.next ≡ false = grind (arith, nat_tests) in
    let high : nat_le a.total sample ≡ false = grind (arith, nat_tests) in
    rw (begun, follows, low, high) refl

index_word_taken : (a : CueAudio) (o : Open) (rest : List ℕ) (n sample : ℕ) → number_of (word_of rest) ≡ Some n → sample_of a (word_of (after_word rest)) ≡ Some sample → after_index a o rest ≡ after_index_at a o n sample
unfolding after_index
index_word_taken a o rest n sample e f = rw (e, after_index) (rw f refl)

index_taken : (a : CueAudio) (o : Open) (rest : List ℕ) → after_line a o (codes "    INDEX " ++ rest) ≡ after_index a o (32 ∷ rest)
unfolding word_at after_at after_command
index_taken a o rest = refl

index_runs : (a : CueAudio) (o : Open) (n sample : ℕ) → n < 2 ^ 64 → sample < 2 ^ 36 → nat_eq o.track.number 0 ≡ false → next_index a.cd o.track.indices n ≡ true → o.next ≤ sample → sample < a.total
    → (a.cd ≡ true → a.rate ≡ 44100) → (a.cd ≡ true → sample % 588 ≡ 0)
    → Runs a o (codes "    INDEX " ++ (padded n ++ (codes " " ++ (offset_text a.cd sample ++ codes "\n")))) (record o { track = with_index o.track n sample; next = sample + 1 })
index_runs a o n sample small below begun follows rises inside rate frame =
    let w = padded_writes n small in
    let p = place_word a.cd sample below in
    let at = offset_text a.cd sample in
    let here : word_of (after_word (32 ∷ (padded n ++ 32 ∷ at))) ≡ at = ap word_of (after_is (padded n) (32 ∷ at) w.some w.plain refl) ∙ last_word at p.some p.plain in
    runs_line a o (record o { track = with_index o.track n sample; next = sample + 1 }) (codes "    INDEX " ++ (padded n ++ 32 ∷ at)) (codes "    INDEX " ++ (padded n ++ (codes " " ++ (at ++ codes "\n"))))
    (two_pieces (codes "    INDEX ") (padded n) at) (no_end_pieces (codes "    INDEX ") (padded n) at refl w.plain p.plain)
    (index_taken a o (padded n ++ 32 ∷ at)
    ∙ index_word_taken a o (32 ∷ (padded n ++ 32 ∷ at)) n sample (ap number_of (word_is (padded n) (32 ∷ at) w.some w.plain refl) ∙ w.reads) (ap (sample_of a) here ∙ place_reads a sample below rate frame)
    ∙ index_at_taken a o n sample begun follows rises inside)

-- the track that is read, with these of its index points
abbrev pub with_points : CueTrack → List CueIndex → CueTrack
with_points t done =
    record { offset = cond (nat_eq (length done) 0) 0 t.offset; number = t.number; isrc = t.isrc; audio = t.audio; pre_emphasis = t.pre_emphasis; indices = done }

abbrev built : CueTrack → (start offset number : ℕ) → List CueIndex → CueTrack
built t start offset number done =
    record { offset = start; number = t.number; isrc = t.isrc; audio = t.audio; pre_emphasis = t.pre_emphasis; indices = done ++ record { offset = offset; number = number } ∷ [] }

point_taken : (t : CueTrack) (done : List CueIndex) (i : CueIndex) → (done ≡ [] → i.offset ≡ 0) → with_index (with_points t done) i.number (t.offset + i.offset) ≡ with_points t (done ++ i ∷ [])
point_taken t [] i first =
    let zero_offset = first refl in
    let start : t.offset + i.offset ≡ t.offset = omega (arith, zero_offset) in
    let none : t.offset + i.offset - (t.offset + i.offset) ≡ i.offset = omega (arith, zero_offset) in
    ap (λ s. built t s (t.offset + i.offset - (t.offset + i.offset)) i.number []) start ∙ ap (λ x. built t t.offset x i.number []) none
point_taken t (d ∷ ds) i first =
    let later : t.offset + i.offset - t.offset ≡ i.offset = omega arith in
    rw (some_not_none (length ds), some_not_none (length (ds ++ i ∷ []))) (ap (λ x. built t t.offset x i.number (d ∷ ds)) later)

greatest_small : (cd : Bool) (n : ℕ) → nat_le n (greatest cd) ≡ true → n < 2 ^ 64
greatest_small true n e = let h = leb-true n 99 e in omega arith
greatest_small false n e = let h = leb-true n 254 e in omega arith

index_small : (cd : Bool) (done : List CueIndex) (n : ℕ) → next_index cd done n ≡ true → n < 2 ^ 64
unfolding next_index
index_small cd [] n e = let h = leb-true n 1 e in omega arith
index_small cd (i ∷ more) n e = greatest_small cd n (both (nat_le n (greatest cd)) (nat_eq n (i.number + length (i ∷ more))) e).0

point_runs : (a : CueAudio) (t : CueTrack) (catalogue : List ℕ) (lead_in : ℕ) (tracks : List CueTrack) (next : ℕ) (done : List CueIndex) (i : CueIndex) → a.total < 2 ^ 36 → (a.cd ≡ true → a.rate ≡ 44100)
    → nat_eq t.number 0 ≡ false → IsCueIndex a t next done i
    → Runs a (so_far catalogue lead_in tracks (with_points t done) next) (index_line a.cd t.offset i) (so_far catalogue lead_in tracks (with_points t (done ++ i ∷ [])) (t.offset + i.offset + 1))
point_runs a t catalogue lead_in tracks next done i total rate begun h =
    let o = so_far catalogue lead_in tracks (with_points t done) next in
    let below : t.offset + i.offset < 2 ^ 36 = omega (arith, h.inside) in
    let at : place t.offset i ≡ t.offset + i.offset = omega arith in
    runs_same a o (so_far catalogue lead_in tracks (with_index (with_points t done) i.number (t.offset + i.offset)) (t.offset + i.offset + 1))
    (so_far catalogue lead_in tracks (with_points t (done ++ i ∷ [])) (t.offset + i.offset + 1)) (index_line a.cd t.offset i)
    (ap (λ x. so_far catalogue lead_in tracks x (t.offset + i.offset + 1)) (point_taken t done i h.first))
    (runs_text a o (so_far catalogue lead_in tracks (with_index (with_points t done) i.number (t.offset + i.offset)) (t.offset + i.offset + 1)) (index_line a.cd t.offset i)
    (codes "    INDEX " ++ (padded i.number ++ (codes " " ++ (offset_text a.cd (t.offset + i.offset) ++ codes "\n"))))
    (ap (λ x. codes "    INDEX " ++ (padded i.number ++ (codes " " ++ (offset_text a.cd x ++ codes "\n")))) at)
    (index_runs a o i.number (t.offset + i.offset) (index_small a.cd done i.number h.number) below begun h.number h.rises h.inside rate h.frame))

points_run : (a : CueAudio) (t : CueTrack) (catalogue : List ℕ) (lead_in : ℕ) (tracks : List CueTrack) → a.total < 2 ^ 36 → (a.cd ≡ true → a.rate ≡ 44100) → nat_eq t.number 0 ≡ false
    → (left done : List CueIndex) (next : ℕ) → AreCueIndices a t next done left
    → Runs a (so_far catalogue lead_in tracks (with_points t done) next) (flat_map (index_line a.cd t.offset) left) (so_far catalogue lead_in tracks (with_points t (done ++ left)) (next_after t next left))
points_run a t catalogue lead_in tracks total rate begun [] done next h =
    let o = so_far catalogue lead_in tracks (with_points t done) next in
    runs_same a o o (so_far catalogue lead_in tracks (with_points t (done ++ [])) next) [] (ap (λ l. so_far catalogue lead_in tracks (with_points t l) next) (sym (append-nil done))) (runs_none a o)
points_run a t catalogue lead_in tracks total rate begun (i ∷ more) done next h =
    let after = t.offset + i.offset + 1 in
    let o = so_far catalogue lead_in tracks (with_points t done) next in
    let p = so_far catalogue lead_in tracks (with_points t (done ++ i ∷ [])) after in
    let q = so_far catalogue lead_in tracks (with_points t ((done ++ i ∷ []) ++ more)) (next_after t after more) in
    let line = index_line a.cd t.offset i in
    let lines = flat_map (index_line a.cd t.offset) more in
    runs_same a o q (so_far catalogue lead_in tracks (with_points t (done ++ i ∷ more)) (next_after t after more)) (line ++ lines)
    (ap (λ l. so_far catalogue lead_in tracks (with_points t l) (next_after t after more)) (append_assoc done (i ∷ []) more))
    (runs_then a o p q line lines (point_runs a t catalogue lead_in tracks next done i total rate begun h.0) (points_run a t catalogue lead_in tracks total rate begun more (done ++ i ∷ []) after h.1))

-- ---- a track

pub track_begun : (cd : Bool) (last n : ℕ) → may_follow cd last n ≡ true → (nat_eq n 0 ≡ false) × (n < 2 ^ 64)
track_begun cd last n e =
    let k = both (nat_lt 0 n && nat_le n (greatest cd)) (nat_eq last 0 || nat_eq n (last + 1)) e in
    let m = both (nat_lt 0 n) (nat_le n (greatest cd)) k.0 in
    let some : 0 < n = ltb-true 0 n m.0 in
    let named : nat_eq n 0 ≡ false = grind (arith, nat_tests) in
    (named, greatest_small cd n m.1)

pieces_of : (front p k rest : List ℕ) → front ++ (p ++ (k ++ rest)) ≡ (front ++ (p ++ k)) ++ rest
pieces_of front p k rest = ap (λ l. front ++ l) (sym (append_assoc p k rest)) ∙ sym (append_assoc front (p ++ k) rest)

with_all : (t : CueTrack) → 0 < length t.indices → with_points t t.indices ≡ t
with_all t some =
    let e : nat_eq (length t.indices) 0 ≡ false = grind (arith, nat_tests) in
    ap (λ b. record { offset = cond b 0 t.offset; number = t.number; isrc = t.isrc; audio = t.audio; pre_emphasis = t.pre_emphasis; indices = t.indices }) e

pub one_track_runs : (a : CueAudio) (t prev : CueTrack) (catalogue : List ℕ) (lead_in : ℕ) (tracks done : List CueTrack) (next : ℕ) → a.total < 2 ^ 36 → (a.cd ≡ true → a.rate ≡ 44100)
    → closed (so_far catalogue lead_in tracks prev next) ≡ Ok done → IsCueTrack a prev.number next t
    → Runs a (so_far catalogue lead_in tracks prev next) (track_text a.cd t) (so_far catalogue lead_in done t (next_after t next t.indices))
one_track_runs a t prev catalogue lead_in tracks done next total rate e h =
    let b = track_begun a.cd prev.number t.number h.number in
    let state = λ (x : CueTrack) (n : ℕ). so_far catalogue lead_in done x n in
    let o = so_far catalogue lead_in tracks prev next in
    let o1 = state (new_track t.number t.audio) next in
    let with_pre : CueTrack = record { offset = 0; number = t.number; isrc = zeros 12; audio = t.audio; pre_emphasis = t.pre_emphasis; indices = [] } in
    let o2 = state with_pre next in
    let o3 = state (with_points t []) next in
    let o4 = state (with_points t t.indices) (next_after t next t.indices) in
    let begun1 : is_begun o1 ≡ true = rw b.0 refl in
    let begun2 : is_begun o2 ≡ true = rw b.0 refl in
    let points = flat_map (index_line a.cd t.offset) t.indices in
    let rest = flags_line t.pre_emphasis ++ (isrc_line t.isrc ++ points) in
    let r4 : Runs a o3 points o4 = points_run a t catalogue lead_in done total rate b.0 t.indices [] next h.indices in
    let r3 : Runs a o2 (isrc_line t.isrc) o3 = isrc_runs a o2 t.isrc begun2 refl h.isrc in
    let r2 : Runs a o1 (flags_line t.pre_emphasis) o2 = flags_runs a o1 t.pre_emphasis begun1 refl in
    let r1 : Runs a o (codes "  TRACK " ++ (padded t.number ++ kind_text t.audio)) o1 = track_runs a o t.number t.audio done b.1 h.number e in
    runs_same a o o4 (state t (next_after t next t.indices)) (track_text a.cd t) (ap (λ x. state x (next_after t next t.indices)) (with_all t h.some))
    (runs_text a o o4 (track_text a.cd t) ((codes "  TRACK " ++ (padded t.number ++ kind_text t.audio)) ++ rest) (pieces_of (codes "  TRACK ") (padded t.number) (kind_text t.audio) rest)
    (runs_then a o o1 o4 (codes "  TRACK " ++ (padded t.number ++ kind_text t.audio)) rest r1
    (runs_then a o1 o2 o4 (flags_line t.pre_emphasis) (isrc_line t.isrc ++ points) r2 (runs_then a o2 o3 o4 (isrc_line t.isrc) points r3 r4))))

-- ---- tracks

-- where the sheet is after these tracks: each of them is there, and one has begun
pub record Ends (a : CueAudio) (catalogue : List ℕ) (lead_in : ℕ) (o : Open) (text : List ℕ) (all : List CueTrack) : Type 0 where
  pub tracks : List CueTrack
  pub track : CueTrack
  pub next : ℕ
  pub begun : nat_eq track.number 0 ≡ false
  pub closes : closed (so_far catalogue lead_in tracks track next) ≡ Ok all
  pub runs : Runs a o text (so_far catalogue lead_in tracks track next)

closes_next : (catalogue : List ℕ) (lead_in : ℕ) (tracks : List CueTrack) (t : CueTrack) (next : ℕ) → nat_eq t.number 0 ≡ false → 0 < length t.indices → closed (so_far catalogue lead_in tracks t next) ≡ Ok (tracks ++ t ∷ [])
unfolding closed
closes_next catalogue lead_in tracks t next begun some =
    let e : nat_eq (length t.indices) 0 ≡ false = grind (arith, nat_tests) in
    rw (begun, e) refl

pub tracks_run : (a : CueAudio) (catalogue : List ℕ) (lead_in : ℕ) → a.total < 2 ^ 36 → (a.cd ≡ true → a.rate ≡ 44100)
    → (each tracks done : List CueTrack) (prev : CueTrack) (next : ℕ) → nat_eq prev.number 0 ≡ false → closed (so_far catalogue lead_in tracks prev next) ≡ Ok done → AreCueTracks a prev.number next each
    → Ends a catalogue lead_in (so_far catalogue lead_in tracks prev next) (flat_map (track_text a.cd) each) (done ++ each)
tracks_run a catalogue lead_in total rate [] tracks done prev next begun e h =
    record { tracks = tracks; track = prev; next = next; begun = begun; closes = e ∙ ap Ok (sym (append-nil done)); runs = runs_none a (so_far catalogue lead_in tracks prev next) }
tracks_run a catalogue lead_in total rate (t ∷ more) tracks done prev next begun e h =
    let b = track_begun a.cd prev.number t.number h.0.number in
    let after = next_after t next t.indices in
    let o = so_far catalogue lead_in tracks prev next in
    let p = so_far catalogue lead_in done t after in
    let first = one_track_runs a t prev catalogue lead_in tracks done next total rate e h.0 in
    let left = tracks_run a catalogue lead_in total rate more done (done ++ t ∷ []) t after b.0 (closes_next catalogue lead_in done t after b.0 h.0.some) h.1 in
    record {
      tracks = left.tracks;
      track = left.track;
      next = left.next;
      begun = left.begun;
      closes = left.closes ∙ ap Ok (append_assoc done (t ∷ []) more);
      runs = runs_then a o p (so_far catalogue lead_in left.tracks left.track left.next) (track_text a.cd t) (flat_map (track_text a.cd) more) first left.runs;
    }

pub first_tracks_run : (a : CueAudio) (catalogue : List ℕ) (lead_in : ℕ) → a.total < 2 ^ 36 → (a.cd ≡ true → a.rate ≡ 44100)
    → (each : List CueTrack) → 0 < length each → (prev : CueTrack) → closed (so_far catalogue lead_in [] prev 0) ≡ Ok [] → AreCueTracks a prev.number 0 each
    → Ends a catalogue lead_in (so_far catalogue lead_in [] prev 0) (flat_map (track_text a.cd) each) each
first_tracks_run a catalogue lead_in total rate [] some prev e h = absurd (omega arith)
first_tracks_run a catalogue lead_in total rate (t ∷ more) some prev e h =
    let b = track_begun a.cd prev.number t.number h.0.number in
    let after = next_after t 0 t.indices in
    let o = so_far catalogue lead_in [] prev 0 in
    let p = so_far catalogue lead_in [] t after in
    let first = one_track_runs a t prev catalogue lead_in [] [] 0 total rate e h.0 in
    let left = tracks_run a catalogue lead_in total rate more [] (t ∷ []) t after b.0 (closes_next catalogue lead_in [] t after b.0 h.0.some) h.1 in
    record {
      tracks = left.tracks;
      track = left.track;
      next = left.next;
      begun = left.begun;
      closes = left.closes;
      runs = runs_then a o p (so_far catalogue lead_in left.tracks left.track left.next) (track_text a.cd t) (flat_map (track_text a.cd) more) first left.runs;
    }
