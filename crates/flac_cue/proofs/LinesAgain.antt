-- Lines that are written are read again, one after another.
use Rattle.std.proofs.Common.{◌≡◌, ◌+◌, ℕ, Bool, true, ◌&&◌, not, nat_eq, List, [], ◌∷◌, ◌++◌, codes, Ok, refl, sym, ap, ◌∙◌, arith, append_assoc}
use Rattle.std.specs.Prelude.{◌==◌}
use Rattle.std.specs.List.{slice_split, onto_first}
use Rattle.std.proofs.lemmas.Bool.Decides.{nat_tests}
use Rattle.flac_cue.specs.declared.audio.CueAudio.{CueAudio}
use Rattle.flac_cue.specs.declared.open.Open.{Open}
use Rattle.flac_cue.specs.Words.{is_blank, word_at, after_at}
use Rattle.flac_cue.specs.Text.{name_byte, name_text}
use Rattle.flac_cue.specs.Reading.{after_line, after_lines, after_command}
use Rattle.flac_cue.specs.ComesBack.{is_plain, are_plain}
use Rattle.flac_cue.proofs.WordsAgain.{both, both_hold, not_false}

-- ---- lines

-- no end of a line in it
abbrev pub no_end : List ℕ → Bool
no_end [] = true
no_end (b ∷ bs) = not (b == 10) && no_end bs

pub no_end_both : (v w : List ℕ) → no_end v ≡ true → no_end w ≡ true → no_end (v ++ w) ≡ true
no_end_both [] w p q = q
no_end_both (b ∷ bs) w p q = let k = both (not (b == 10)) (no_end bs) p in both_hold (not (b == 10)) (no_end (bs ++ w)) k.0 (no_end_both bs w k.1 q)

pub plain_no_end : (w : List ℕ) → are_plain w ≡ true → no_end w ≡ true
plain_no_end [] p = refl
plain_no_end (b ∷ bs) p =
    let k = both (is_plain b) (are_plain bs) p in
    let l = both (not (is_blank b)) (not (nat_eq b 34) && not (nat_eq b 10)) k.0 in
    both_hold (not (b == 10)) (no_end bs) (both (not (nat_eq b 34)) (not (nat_eq b 10)) l.1).1 (plain_no_end bs k.1)

split_line : (line rest : List ℕ) → no_end line ≡ true → slice_split (λ byte. byte == 10) (line ++ 10 ∷ rest) ≡ line ∷ slice_split (λ byte. byte == 10) rest
split_line [] rest p = refl
split_line (b ∷ bs) rest p =
    let k = both (not (b == 10)) (no_end bs) p in
    rw (not_false (b == 10) k.0) (ap (onto_first b) (split_line bs rest k.1))

-- ---- a text takes the sheet that is read from one state to another

abbrev pub Runs : CueAudio → Open → List ℕ → Open → Type 0
Runs a o text p =
    (n : ℕ) (rest : List ℕ) → (m : ℕ) × (after_lines a n o (slice_split (λ byte. byte == 10) (text ++ rest)) ≡ after_lines a m p (slice_split (λ byte. byte == 10) rest))

line_taken : (a : CueAudio) (n : ℕ) (o p : Open) (line : List ℕ) (more : List (List ℕ)) → after_line a o line ≡ Ok p → after_lines a n o (line ∷ more) ≡ after_lines a (n + 1) p more
unfolding after_lines
line_taken a n o p line more e = rw (e, after_lines) refl

pub runs_none : (a : CueAudio) (o : Open) → Runs a o [] o
runs_none a o n rest = (n, refl)

pub runs_line : (a : CueAudio) (o p : Open) (line text : List ℕ) → text ≡ line ++ 10 ∷ [] → no_end line ≡ true → after_line a o line ≡ Ok p → Runs a o text p
runs_line a o p line text is whole e n rest = (
  n + 1,
  ap (λ t. after_lines a n o (slice_split (λ byte. byte == 10) (t ++ rest))) is
      ∙ ap (λ t. after_lines a n o (slice_split (λ byte. byte == 10) t)) (append_assoc line (10 ∷ []) rest)
      ∙ ap (after_lines a n o) (split_line line rest whole)
      ∙ line_taken a n o p line (slice_split (λ byte. byte == 10) rest) e,
)

pub runs_then : (a : CueAudio) (o p q : Open) (s t : List ℕ) → Runs a o s p → Runs a p t q → Runs a o (s ++ t) q
runs_then a o p q s t f g n rest =
    let x = f n (t ++ rest) in
    let y = g x.0 rest in
    (y.0, ap (λ l. after_lines a n o (slice_split (λ byte. byte == 10) l)) (append_assoc s t rest) ∙ x.1 ∙ y.1)

pub runs_same : (a : CueAudio) (o p q : Open) (t : List ℕ) → p ≡ q → Runs a o t p → Runs a o t q
runs_same a o p q t e f n rest = let x = f n rest in (x.0, x.1 ∙ ap (λ z. after_lines a x.0 z (slice_split (λ byte. byte == 10) rest)) e)

-- ---- pieces of lines

pub one_piece : (front v : List ℕ) → front ++ (v ++ 10 ∷ []) ≡ (front ++ v) ++ 10 ∷ []
one_piece front v = sym (append_assoc front v (10 ∷ []))

pub two_pieces : (front v w : List ℕ) → front ++ (v ++ 32 ∷ (w ++ 10 ∷ [])) ≡ (front ++ (v ++ 32 ∷ w)) ++ 10 ∷ []
two_pieces front v w = ap (λ l. front ++ l) (sym (append_assoc v (32 ∷ w) (10 ∷ []))) ∙ sym (append_assoc front (v ++ 32 ∷ w) (10 ∷ []))

-- ---- the line of the file

name_no_end : (name : List ℕ) → no_end (name_text name) ≡ true
name_no_end [] = refl
name_no_end (b ∷ bs) = both_hold (not (name_byte b == 10)) (no_end (name_text bs)) (of_byte b) (name_no_end bs)
  where
    of_byte : (b : ℕ) → not (name_byte b == 10) ≡ true
    of_byte b = grind (arith, nat_tests)

file_taken : (a : CueAudio) (o : Open) (rest : List ℕ) → after_line a o (codes "FILE \"" ++ rest) ≡ Ok o
unfolding word_at after_at after_command
file_taken a o rest = refl

pub file_runs : (a : CueAudio) (o : Open) (name : List ℕ) → Runs a o (codes "FILE \"" ++ (name_text name ++ codes "\" FLAC\n")) o
file_runs a o name =
    runs_line a o o (codes "FILE \"" ++ (name_text name ++ codes "\" FLAC")) (codes "FILE \"" ++ (name_text name ++ codes "\" FLAC\n"))
    (ap (λ l. codes "FILE \"" ++ l) (sym (append_assoc (name_text name) (codes "\" FLAC") (10 ∷ []))))
    (no_end_both (codes "FILE \"") (name_text name ++ codes "\" FLAC") refl (no_end_both (name_text name) (codes "\" FLAC") (name_no_end name) refl))
    (file_taken a o (name_text name ++ codes "\" FLAC"))
