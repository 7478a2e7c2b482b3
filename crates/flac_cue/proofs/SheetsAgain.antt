-- Cue sheets that are written are read again.
use Rattle.std.proofs.Common.{◌≡◌, ◌<◌, ◌-◌, ◌^◌, ℕ, Bool, true, false, ◌&&◌, cond, nat_eq, nat_le, nat_lt, List, [], ◌∷◌, ◌++◌, length, get_or, codes, decimal, flat_map, take, drop, Some, Ok, ◌⊎◌, inl, inr, refl, sym, ap, ◌∙◌, arith, append-nil, length-append}
use Rattle.std.proofs.Math.Seq.{take-append_seam, drop-append_seam}
use Rattle.std.specs.Prelude.{◌==◌}
use Rattle.std.specs.List.{slice_split}
use Rattle.std.proofs.lemmas.Bool.{eqb-true, ltb-true}
use Rattle.std.proofs.lemmas.Bool.Decides.{nat_tests}
use Rattle.flac_meta.specs.declared.cue_sheet.CueTrack.{CueTrack}
use Rattle.flac_meta.specs.declared.cue_sheet.CueSheet.{CueSheet}
use Rattle.flac_cue.specs.declared.audio.CueAudio.{CueAudio}
use Rattle.flac_cue.specs.declared.open.Open.{Open}
use Rattle.flac_cue.specs.Words.{word_at, after_at, word_of, after_word, number_of}
use Rattle.flac_cue.specs.Text.{text_of, track_text, catalogue_line, file_line, lead_in_line, lead_out_line, ending_text, cue_text}
use Rattle.flac_cue.specs.Reading.{zeros, field_of, are_digits, are_printable, is_catalogue, after_catalogue, new_track, closed, after_lead_in, after_lead_out, after_remark, after_command, after_line, after_lines, begun, lead_out, finished, without_mark, lines_of, sheet_in}
use Rattle.flac_cue.specs.ComesBack.{are_plain, KeepsCue, CueComesBack}
use Rattle.flac_cue.proofs.WordsAgain.{both, after_is, last_word, decimal_writes}
use Rattle.flac_cue.proofs.LinesAgain.{no_end_both, plain_no_end, Runs, runs_none, runs_line, runs_then, runs_same, one_piece, two_pieces, file_runs}
use Rattle.flac_cue.proofs.TracksAgain.{so_far, runs_text, first_tracks_run}

-- ---- CATALOG

catalogue_some : (cd : Bool) (w : List ℕ) → is_catalogue cd w ≡ true → 0 < length w
unfolding is_catalogue
catalogue_some true w e = let h = eqb-true (length w) 13 (both (nat_eq (length w) 13) (are_digits w) e).0 in omega (arith, h)
catalogue_some false w e =
    ltb-true 0 (length w) (both (nat_lt 0 (length w)) (nat_le (length w) 128) (both (nat_lt 0 (length w) && nat_le (length w) 128) (are_printable w) e).0).0

catalogue_word_taken : (a : CueAudio) (o : Open) (rest w : List ℕ) → o.catalogue ≡ zeros 128 → word_of rest ≡ w → is_catalogue a.cd w ≡ true → after_catalogue a o rest ≡ Ok (record o { catalogue = field_of 128 w })
unfolding after_catalogue
catalogue_word_taken a o rest w none is e = rw (none, is, e) refl

catalogue_taken : (a : CueAudio) (o : Open) (rest : List ℕ) → after_line a o (codes "CATALOG " ++ rest) ≡ after_catalogue a o (32 ∷ rest)
unfolding word_at after_at after_command
catalogue_taken a o rest = refl

word_runs : (a : CueAudio) (o : Open) (w : List ℕ) → o.catalogue ≡ zeros 128 → is_catalogue a.cd w ≡ true → are_plain w ≡ true → Runs a o (codes "CATALOG " ++ (w ++ codes "\n")) (record o { catalogue = field_of 128 w })
word_runs a o w none e plain =
    let some = catalogue_some a.cd w e in
    runs_line a o (record o { catalogue = field_of 128 w }) (codes "CATALOG " ++ w) (codes "CATALOG " ++ (w ++ codes "\n")) (one_piece (codes "CATALOG ") w)
    (no_end_both (codes "CATALOG ") w refl (plain_no_end w plain))
    (catalogue_taken a o w ∙ catalogue_word_taken a o (32 ∷ w) w none (last_word w some plain) e)

line_is : (field : List ℕ) → 0 < length (text_of field) → catalogue_line field ≡ codes "CATALOG " ++ (text_of field ++ codes "\n")
line_is field some =
    let e : nat_eq (length (text_of field)) 0 ≡ false = grind (arith, nat_tests) in
    ap (λ b. cond b [] (codes "CATALOG " ++ (text_of field ++ codes "\n"))) e

catalogue_runs : (a : CueAudio) (o : Open) (field : List ℕ) → o.catalogue ≡ zeros 128
    → (field ≡ zeros 128) ⊎ ((field ≡ field_of 128 (text_of field)) × (is_catalogue a.cd (text_of field) ≡ true) × (are_plain (text_of field) ≡ true))
    → Runs a o (catalogue_line field) (record o { catalogue = field })
catalogue_runs a o field none (inl e) =
    runs_same a o o (record o { catalogue = field }) (catalogue_line field) (ap (λ l. record o { catalogue = l }) (none ∙ sym e))
    (runs_text a o o (catalogue_line field) [] (ap catalogue_line e) (runs_none a o))
catalogue_runs a o field none (inr h) =
    let w = text_of field in
    runs_same a o (record o { catalogue = field_of 128 w }) (record o { catalogue = field }) (catalogue_line field) (ap (λ l. record o { catalogue = l }) (sym h.0))
    (runs_text a o (record o { catalogue = field_of 128 w }) (catalogue_line field) (codes "CATALOG " ++ (w ++ codes "\n")) (line_is field (catalogue_some a.cd w h.1)) (word_runs a o w none h.1 h.2))

-- ---- REM

lead_in_word_taken : (o : Open) (rest : List ℕ) (n : ℕ) → number_of (word_of rest) ≡ Some n → after_lead_in o rest ≡ Ok (record o { lead_in = n })
unfolding after_lead_in
lead_in_word_taken o rest n e = rw (e, after_lead_in) refl

lead_in_taken : (a : CueAudio) (o : Open) (rest : List ℕ) → after_line a o (codes "REM FLAC__lead-in " ++ rest) ≡ after_lead_in o (32 ∷ rest)
unfolding word_at after_at after_command after_remark
lead_in_taken a o rest = refl

lead_in_runs : (a : CueAudio) (o : Open) (n : ℕ) → n < 2 ^ 64 → Runs a o (lead_in_line n) (record o { lead_in = n })
lead_in_runs a o n small =
    let w = decimal_writes n small in
    runs_line a o (record o { lead_in = n }) (codes "REM FLAC__lead-in " ++ decimal n) (lead_in_line n) (one_piece (codes "REM FLAC__lead-in ") (decimal n))
    (no_end_both (codes "REM FLAC__lead-in ") (decimal n) refl (plain_no_end (decimal n) w.plain))
    (lead_in_taken a o (decimal n) ∙ lead_in_word_taken o (32 ∷ decimal n) n (ap number_of (last_word (decimal n) w.some w.plain) ∙ w.reads))

equal_is : (n : ℕ) → nat_eq n n ≡ true
equal_is n = grind (arith, nat_tests)

lead_out_word_taken : (a : CueAudio) (o : Open) (rest : List ℕ) → number_of (word_of (after_word rest)) ≡ Some a.total → after_lead_out a o rest ≡ Ok o
unfolding after_lead_out
lead_out_word_taken a o rest e = rw (e, after_lead_out) (rw (equal_is a.total) refl)

lead_out_taken : (a : CueAudio) (o : Open) (rest : List ℕ) → after_line a o (codes "REM FLAC__lead-out " ++ rest) ≡ after_lead_out a o (32 ∷ rest)
unfolding word_at after_at after_command after_remark
lead_out_taken a o rest = refl

lead_out_runs : (a : CueAudio) (o : Open) (number : ℕ) → number < 2 ^ 64 → a.total < 2 ^ 64 → Runs a o (codes "REM FLAC__lead-out " ++ (decimal number ++ (codes " " ++ (decimal a.total ++ codes "\n")))) o
lead_out_runs a o number small total =
    let v = decimal_writes number small in
    let w = decimal_writes a.total total in
    runs_line a o o (codes "REM FLAC__lead-out " ++ (decimal number ++ 32 ∷ decimal a.total)) (codes "REM FLAC__lead-out " ++ (decimal number ++ (codes " " ++ (decimal a.total ++ codes "\n"))))
    (two_pieces (codes "REM FLAC__lead-out ") (decimal number) (decimal a.total))
    (no_end_both (codes "REM FLAC__lead-out ") (decimal number ++ 32 ∷ decimal a.total) refl (no_end_both (decimal number) (32 ∷ decimal a.total) (plain_no_end (decimal number) v.plain) (plain_no_end (decimal a.total) w.plain)))
    (lead_out_taken a o (decimal number ++ 32 ∷ decimal a.total)
    ∙ lead_out_word_taken a o (32 ∷ (decimal number ++ 32 ∷ decimal a.total))
    (ap (λ l. number_of (word_of l)) (after_is (decimal number) (32 ∷ decimal a.total) v.some v.plain refl) ∙ ap number_of (last_word (decimal a.total) w.some w.plain) ∙ w.reads))

-- ---- the text

last_is : (cd : Bool) (lead_in : ℕ) (ts : List CueTrack) (x : CueTrack) → ending_text cd lead_in (ts ++ x ∷ []) ≡ flat_map (track_text cd) ts ++ (lead_in_line lead_in ++ (lead_out_line x ++ []))
last_is cd lead_in ts x =
    let all = ts ++ x ∷ [] in
    let n : length all - 1 ≡ length ts = omega (arith, length-append ts (x ∷ [])) in
    ap (λ k. flat_map (track_text cd) (take k all) ++ (lead_in_line lead_in ++ flat_map lead_out_line (drop k all))) n
    ∙ ap (λ l. flat_map (track_text cd) l ++ (lead_in_line lead_in ++ flat_map lead_out_line (drop (length ts) all))) (take-append_seam ts (x ∷ []))
    ∙ ap (λ l. flat_map (track_text cd) ts ++ (lead_in_line lead_in ++ flat_map lead_out_line l)) (drop-append_seam ts (x ∷ []))

and_no : (b : Bool) → (b && false) ≡ false
and_no true = refl
and_no false = refl

no_mark : (text : List ℕ) → nat_eq (get_or text 0 0) 239 ≡ false → without_mark text ≡ text
no_mark text e = rw e (rw (and_no (nat_le 3 (length text))) refl)

front_is : (b : Bool) (w rest : List ℕ) → nat_eq (get_or (cond b [] (codes "CATALOG " ++ w) ++ (codes "FILE \"" ++ rest)) 0 0) 239 ≡ false
front_is true w rest = refl
front_is false w rest = refl

-- ---- the end

ends_lines : (a : CueAudio) (n : ℕ) (o : Open) → after_lines a n o (slice_split (λ byte. byte == 10) []) ≡ Ok o
unfolding after_lines after_command word_at after_at
ends_lines a n o = refl

closed_same : (catalogue : List ℕ) (before now : ℕ) (tracks : List CueTrack) (track : CueTrack) (next : ℕ) → closed (so_far catalogue now tracks track next) ≡ closed (so_far catalogue before tracks track next)
unfolding closed
closed_same catalogue before now tracks track next = refl

closed_begun : (catalogue : List ℕ) (lead_in : ℕ) → closed (so_far catalogue lead_in [] (new_track 0 true) 0) ≡ Ok []
unfolding closed
closed_begun catalogue lead_in = refl

finished_is : (a : CueAudio) (o : Open) (tracks : List CueTrack) → nat_eq o.track.number 0 ≡ false → closed o ≡ Ok tracks → finished a o ≡ Ok (record { catalogue = o.catalogue; lead_in = o.lead_in; cd = a.cd; tracks = tracks ++ lead_out a ∷ [] })
unfolding finished
finished_is a o tracks begun e = rw (begun, e) refl

sheet_is : (a : CueAudio) (text : List ℕ) (o : Open) (s : CueSheet) → without_mark text ≡ text → after_lines a 1 (begun a) (slice_split (λ byte. byte == 10) text) ≡ Ok o → finished a o ≡ Ok s → sheet_in a text ≡ Ok s
unfolding sheet_in
sheet_is a text o s mark e f =
    let read : after_lines a 1 (begun a) (lines_of text) ≡ Ok o = ap (λ t. after_lines a 1 (begun a) (slice_split (λ byte. byte == 10) t)) mark ∙ e in
    rw (read, sheet_in) (rw (f) refl)

lead_out_small : (a : CueAudio) → (lead_out a).number < 2 ^ 64
lead_out_small a = of_kind a.cd
  where
    of_kind : (b : Bool) → cond b 170 255 < 2 ^ 64
    of_kind true = omega arith
    of_kind false = omega arith

same_sheet : (a : CueAudio) (s : CueSheet) (tracks : List CueTrack) → KeepsCue a s tracks → record { catalogue = s.catalogue; lead_in = s.lead_in; cd = a.cd; tracks = tracks ++ lead_out a ∷ [] } ≡ s
same_sheet a s tracks h =
    ap (λ b. record { catalogue = s.catalogue; lead_in = s.lead_in; cd = b; tracks = tracks ++ lead_out a ∷ [] }) (sym h.kind)
    ∙ ap (λ l. record { catalogue = s.catalogue; lead_in = s.lead_in; cd = s.cd; tracks = l }) (sym h.ends)

text_runs : (a : CueAudio) (name : List ℕ) (s : CueSheet) (tracks : List CueTrack) → KeepsCue a s tracks
    → (o : Open) × Runs a (begun a) (cue_text name s) o × (finished a o ≡ Ok s)
text_runs a name s tracks h =
    let small : a.total < 2 ^ 64 = omega (arith, h.total) in
    let before = cond a.cd 88200 0 in
    let o1 = so_far s.catalogue before [] (new_track 0 true) 0 in
    let each = first_tracks_run a s.catalogue before h.total h.rate tracks h.some (new_track 0 true) (closed_begun s.catalogue before) h.each in
    let o2 = so_far s.catalogue before each.tracks each.track each.next in
    let o3 = so_far s.catalogue s.lead_in each.tracks each.track each.next in
    let lines = flat_map (track_text a.cd) tracks in
    let last : Runs a o3 (lead_out_line (lead_out a) ++ []) o3 = runs_text a o3 o3 (lead_out_line (lead_out a) ++ []) (lead_out_line (lead_out a)) (append-nil (lead_out_line (lead_out a)))
    (lead_out_runs a o3 (lead_out a).number (lead_out_small a) small) in
    let remarks = runs_then a o2 o3 o3 (lead_in_line s.lead_in) (lead_out_line (lead_out a) ++ []) (lead_in_runs a o2 s.lead_in h.lead_in) last in
    let ending = runs_then a o1 o2 o3 lines (lead_in_line s.lead_in ++ (lead_out_line (lead_out a) ++ [])) each.runs remarks in
    let is : ending_text s.cd s.lead_in s.tracks ≡ lines ++ (lead_in_line s.lead_in ++ (lead_out_line (lead_out a) ++ [])) =
    ap (λ b. ending_text b s.lead_in s.tracks) h.kind ∙ ap (ending_text a.cd s.lead_in) h.ends ∙ last_is a.cd s.lead_in tracks (lead_out a) in
    let named = runs_then a o1 o1 o3 (file_line name) (ending_text s.cd s.lead_in s.tracks) (file_runs a o1 name)
    (runs_text a o1 o3 (ending_text s.cd s.lead_in s.tracks) (lines ++ (lead_in_line s.lead_in ++ (lead_out_line (lead_out a) ++ []))) is ending) in
    let whole = runs_then a (begun a) o1 o3 (catalogue_line s.catalogue) (file_line name ++ ending_text s.cd s.lead_in s.tracks) (catalogue_runs a (begun a) s.catalogue refl h.catalogue) named in
    (o3, whole, finished_is a o3 tracks each.begun (closed_same s.catalogue before s.lead_in each.tracks each.track each.next ∙ each.closes) ∙ ap Ok (same_sheet a s tracks h))

pub comes_back : CueComesBack
comes_back a name s tracks h =
    let r = text_runs a name s tracks h in
    let x = r.1 1 [] in
    let text = cue_text name s in
    let read : after_lines a 1 (begun a) (slice_split (λ byte. byte == 10) text) ≡ Ok r.0 =
    ap (λ t. after_lines a 1 (begun a) (slice_split (λ byte. byte == 10) t)) (sym (append-nil text)) ∙ x.1 ∙ ends_lines a x.0 r.0 in
    let mark : without_mark text ≡ text = no_mark text (front_is (nat_eq (length (text_of s.catalogue)) 0) (text_of s.catalogue ++ codes "\n") _) in
    sheet_is a text r.0 s mark read r.2
