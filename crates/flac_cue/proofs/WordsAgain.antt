-- Words and numbers that are written are read again.
use Rattle.std.proofs.Common.{◌≡◌, ◌<◌, ◌≤◌, ◌+◌, ◌-◌, ◌*◌, ◌^◌, ℕ, suc, Bool, true, false, ◌&&◌, not, cond, nat_eq, nat_le, nat_lt, List, [], ◌∷◌, ◌++◌, length, take, drop, decimal, Some, refl, sym, ap, ◌∙◌, arith, append-nil, ◌/◌, ◌%◌, min}
use Rattle.std.proofs.Math.Seq.{take-append_seam, drop-append_seam, drop-append-add}
use Rattle.std.proofs.lemmas.Bool.{lt-ltb}
use Rattle.std.proofs.lemmas.Bool.Decides.{nat_tests}
use Rattle.std.proofs.lemmas.Fmt.{digits_decimal, digits_value-decimal, decimal_nonempty}
use Rattle.std.proofs.lemmas.Str.Parse.{IsNumeralModel, FoldsDigits, numerals_by_fold, tells_digits, digit_from_value}
use Rattle.std.specs.Str.Parse.{AllDigits}
use Rattle.std.specs.Int.{IsInRange}
use Rattle.std.specs.List.{position_or_len}
use Rattle.flac_cue.specs.declared.audio.CueAudio.{CueAudio}
use Rattle.flac_cue.specs.Text.{padded, time_text, offset_text}
use Rattle.flac_cue.specs.Reading.{sample_of_time, sample_of}
use Rattle.flac_cue.specs.Words.{is_blank, trimmed, word_at, after_at, word_of, after_word, is_digit, with_digit, number_after, number_of, place_of, before_colon, after_colon, frames_of, time_of}
use Rattle.flac_cue.specs.ComesBack.{is_plain, are_plain}

-- ---- tests

pub both : (a b : Bool) → (a && b) ≡ true → (a ≡ true) × (b ≡ true)
both true b e = (refl, e)
both false b e = cc

pub both_hold : (a b : Bool) → a ≡ true → b ≡ true → (a && b) ≡ true
both_hold a b e f = rw e f

pub not_false : (a : Bool) → not a ≡ true → a ≡ false
not_false true e = cc
not_false false e = refl

pub some_not_none : (k : ℕ) → nat_eq (suc k) 0 ≡ false
some_not_none k = grind (arith, nat_tests)

pub not_blank : (b : ℕ) → is_plain b ≡ true → is_blank b ≡ false
not_blank b e = not_false (is_blank b) (both (not (is_blank b)) (not (nat_eq b 34) && not (nat_eq b 10)) e).0

pub not_quote : (b : ℕ) → is_plain b ≡ true → nat_eq b 34 ≡ false
not_quote b e = not_false (nat_eq b 34) (both (not (nat_eq b 34)) (not (nat_eq b 10)) (both (not (is_blank b)) (not (nat_eq b 34) && not (nat_eq b 10)) e).1).0

-- ---- words

-- what may be after a word: nothing, or a blank and more
abbrev pub Tail : List ℕ → Type 0
Tail [] = Unit {0}
Tail (b ∷ rest) = is_blank b ≡ true

word_place : (w tail : List ℕ) → are_plain w ≡ true → Tail tail → position_or_len is_blank (w ++ tail) ≡ length w
word_place [] [] plain t = refl
word_place [] (b ∷ rest) plain t = rw t refl
word_place (b ∷ bs) tail plain t =
    let p = both (is_plain b) (are_plain bs) plain in
    let more : position_or_len is_blank (bs ++ tail) ≡ length bs = word_place bs tail p.1 t in
    rw (not_blank b p.0) (omega (arith, more))

trims : (b : ℕ) (rest : List ℕ) → is_blank b ≡ false → trimmed (32 ∷ b ∷ rest) ≡ b ∷ rest
trims b rest e = rw e refl

at_word : (b : ℕ) (bs tail : List ℕ) → are_plain (b ∷ bs) ≡ true → Tail tail → word_at ((b ∷ bs) ++ tail) ≡ b ∷ bs
unfolding word_at
at_word b bs tail plain t =
    rw (not_quote b (both (is_plain b) (are_plain bs) plain).0)
    (ap (λ n. take n ((b ∷ bs) ++ tail)) (word_place (b ∷ bs) tail plain t) ∙ take-append_seam (b ∷ bs) tail)

past_word : (b : ℕ) (bs tail : List ℕ) → are_plain (b ∷ bs) ≡ true → Tail tail → after_at ((b ∷ bs) ++ tail) ≡ tail
unfolding after_at
past_word b bs tail plain t =
    rw (not_quote b (both (is_plain b) (are_plain bs) plain).0)
    (ap (λ n. drop n ((b ∷ bs) ++ tail)) (word_place (b ∷ bs) tail plain t) ∙ drop-append_seam (b ∷ bs) tail)

-- a word after a blank
pub word_is : (w tail : List ℕ) → 0 < length w → are_plain w ≡ true → Tail tail → word_of (32 ∷ (w ++ tail)) ≡ w
word_is [] tail some plain t = absurd (omega arith)
word_is (b ∷ bs) tail some plain t = ap word_at (trims b (bs ++ tail) (not_blank b (both (is_plain b) (are_plain bs) plain).0)) ∙ at_word b bs tail plain t

pub after_is : (w tail : List ℕ) → 0 < length w → are_plain w ≡ true → Tail tail → after_word (32 ∷ (w ++ tail)) ≡ tail
after_is [] tail some plain t = absurd (omega arith)
after_is (b ∷ bs) tail some plain t = ap after_at (trims b (bs ++ tail) (not_blank b (both (is_plain b) (are_plain bs) plain).0)) ∙ past_word b bs tail plain t

-- ---- numbers

sum_after : ℕ → List ℕ → ℕ
sum_after n [] = n
sum_after n (c ∷ cs) = sum_after (n * 10 + (c - 48)) cs

folds : FoldsDigits sum_after
unfolding sum_after
folds = record { empty = λ n. refl; more = λ n c cs k. refl }

own : IsNumeralModel (AllDigits 10) (sum_after 0)
own = numerals_by_fold (AllDigits 10) tells_digits sum_after folds

grows : (ds : List ℕ) (n : ℕ) → n ≤ sum_after n ds
unfolding sum_after
grows [] n = omega arith
grows (c ∷ cs) n = omega (arith, grows cs (n * 10 + (c - 48)))

digit_is : (c : ℕ) → IsInRange 48 57 c → is_digit c ≡ true
digit_is c k = let low : 48 ≤ c = k.0 in let high : c ≤ 57 = k.1 in grind (arith, nat_tests)

plain_digit : (c : ℕ) → IsInRange 48 57 c → is_plain c ≡ true
plain_digit c k = let low : 48 ≤ c = k.0 in let high : c ≤ 57 = k.1 in grind (arith, nat_tests)

with_digit_is : (n c : ℕ) → IsInRange 48 57 c → n * 10 + (c - 48) < 2 ^ 64 → with_digit n c ≡ Some (n * 10 + (c - 48))
unfolding with_digit
with_digit_is n c k lt =
    let fits : nat_le (n * 10 + (c - 48)) 18446744073709551615 ≡ true = grind (arith, nat_tests) in
    rw (both_hold (is_digit c) (nat_le (n * 10 + (c - 48)) 18446744073709551615) (digit_is c k) fits) refl

all_taken : (ds : List ℕ) (n : ℕ) → AllDigits 10 ds → sum_after n ds < 2 ^ 64 → number_after n ds ≡ Some (sum_after n ds)
unfolding sum_after number_after
all_taken [] n d lt = refl
all_taken (c ∷ cs) n d lt =
    let small : n * 10 + (c - 48) < 2 ^ 64 = omega (arith, grows cs (n * 10 + (c - 48))) in
    rw (with_digit_is n c (digit_from_value c d.0) small, number_after) (all_taken cs (n * 10 + (c - 48)) d.1 lt)

plain_digits : (ds : List ℕ) → AllDigits 10 ds → are_plain ds ≡ true
plain_digits [] d = refl
plain_digits (c ∷ cs) d = both_hold (is_plain c) (are_plain cs) (plain_digit c (digit_from_value c d.0)) (plain_digits cs d.1)

-- a text of digits that writes a number
pub record Writes (n : ℕ) (w : List ℕ) : Type 0 where
  pub some : 0 < length w
  pub plain : are_plain w ≡ true
  pub digits : AllDigits 10 w
  pub reads : number_of w ≡ Some n

reads_from : (w : List ℕ) (n : ℕ) → 0 < length w → AllDigits 10 w → sum_after 0 w ≡ n → n < 2 ^ 64 → number_of w ≡ Some n
unfolding number_of
reads_from [] n some d is lt = absurd (omega arith)
reads_from (c ∷ cs) n some d is lt = rw (some_not_none (length cs)) (all_taken (c ∷ cs) 0 d (omega (arith, is)) ∙ ap Some is)

pub decimal_writes : (n : ℕ) → n < 2 ^ 64 → Writes n (decimal n)
decimal_writes n lt =
    let d = digits_decimal own n lt in
    let some : 0 < length (decimal n) = decimal_nonempty n lt in
    record { some = some; plain = plain_digits (decimal n) d; digits = d; reads = reads_from (decimal n) n some d (digits_value-decimal own n lt) lt }

zero_writes : (n : ℕ) → n < 2 ^ 64 → Writes n (48 ∷ decimal n)
unfolding sum_after
zero_writes n lt =
    let d : AllDigits 10 (48 ∷ decimal n) = (omega arith, digits_decimal own n lt) in
    record { some = omega arith; plain = plain_digits (48 ∷ decimal n) d; digits = d; reads = reads_from (48 ∷ decimal n) n (omega arith) d (digits_value-decimal own n lt) lt }

pub padded_writes : (n : ℕ) → n < 2 ^ 64 → Writes n (padded n)
padded_writes n lt = elim (nat_lt n 10) as (λ v. Writes n (cond v (48 ∷ decimal n) (decimal n))) [ true ↦ zero_writes n lt | false ↦ decimal_writes n lt ]

-- ---- words at the end of a line

pub last_word : (w : List ℕ) → 0 < length w → are_plain w ≡ true → word_of (32 ∷ w) ≡ w
last_word w some plain = ap (λ l. word_of (32 ∷ l)) (sym (append-nil w)) ∙ word_is w [] some plain tt

pub plain_both : (v w : List ℕ) → are_plain v ≡ true → are_plain w ≡ true → are_plain (v ++ w) ≡ true
plain_both [] w p q = q
plain_both (b ∷ bs) w p q = let k = both (is_plain b) (are_plain bs) p in both_hold (is_plain b) (are_plain (bs ++ w)) k.0 (plain_both bs w k.1 q)

pub some_both : (v w : List ℕ) → 0 < length v → 0 < length (v ++ w)
some_both [] w p = absurd (omega arith)
some_both (b ∷ bs) w p = omega arith

-- ---- times

colon_place : (w rest : List ℕ) → AllDigits 10 w → place_of 58 (w ++ 58 ∷ rest) ≡ length w
colon_place [] rest d = refl
colon_place (c ∷ cs) rest d =
    let k = digit_from_value c d.0 in
    let high : c ≤ 57 = k.1 in
    let other : nat_eq c 58 ≡ false = grind (arith, nat_tests) in
    let more : place_of 58 (cs ++ 58 ∷ rest) ≡ length cs = colon_place cs rest d.1 in
    rw other (omega (arith, more))

before_is : (w rest : List ℕ) → AllDigits 10 w → before_colon (w ++ 58 ∷ rest) ≡ w
before_is w rest d = ap (λ n. take n (w ++ 58 ∷ rest)) (colon_place w rest d) ∙ take-append_seam w (58 ∷ rest)

after_colon_is : (w rest : List ℕ) → AllDigits 10 w → after_colon (w ++ 58 ∷ rest) ≡ rest
after_colon_is w rest d = ap (λ n. drop (n + 1) (w ++ 58 ∷ rest)) (colon_place w rest d) ∙ drop-append-add w (58 ∷ rest) 1

pub time_is : (m s f : ℕ) (u v w : List ℕ) → Writes m u → Writes s v → Writes f w → time_of (u ++ 58 ∷ (v ++ 58 ∷ w)) ≡ frames_of (Some m) (Some s) (Some f)
unfolding time_of
time_is m s f u v w p q r =
    let rest = after_colon_is u (v ++ 58 ∷ w) p.digits in
    ap (λ l. frames_of (number_of l) (number_of (before_colon (after_colon (u ++ 58 ∷ (v ++ 58 ∷ w))))) (number_of (after_colon (after_colon (u ++ 58 ∷ (v ++ 58 ∷ w)))))) (before_is u (v ++ 58 ∷ w) p.digits)
    ∙ ap (λ l. frames_of (number_of u) (number_of (before_colon l)) (number_of (after_colon l))) rest
    ∙ ap (λ l. frames_of (number_of u) (number_of l) (number_of (after_colon (v ++ 58 ∷ w)))) (before_is v w q.digits)
    ∙ ap (λ l. frames_of (number_of u) (number_of v) (number_of l)) (after_colon_is v w q.digits)
    ∙ ap (λ x. frames_of x (number_of v) (number_of w)) p.reads ∙ ap (λ x. frames_of (Some m) x (number_of w)) q.reads ∙ ap (λ x. frames_of (Some m) (Some s) x) r.reads

frames_are : (p : ℕ) → p < 2 ^ 36 → frames_of (Some (p / 588 / 4500)) (Some (p / 588 / 75 % 60)) (Some (p / 588 % 75)) ≡ Some (p / 588)
unfolding frames_of
frames_are p lt =
    let fr = p / 588 in
    let a : nat_lt (p / 588 / 4500) 4294967296 ≡ true = lt-ltb (p / 588 / 4500) 4294967296 (omega arith) in
    let b : nat_lt (p / 588 / 75 % 60) 60 ≡ true = lt-ltb (p / 588 / 75 % 60) 60 (omega arith) in
    let d : nat_lt (p / 588 % 75) 75 ≡ true = lt-ltb (p / 588 % 75) 75 (omega arith) in
    let same : (p / 588 / 4500 * 60 + p / 588 / 75 % 60) * 75 + p / 588 % 75 ≡ p / 588 = omega arith in
    rw (a, b, d) (ap Some same)

-- the place of a time on a CD, and that of a sample elsewhere
time_sample : (a : CueAudio) (w : List ℕ) (fr : ℕ) → time_of w ≡ Some fr → a.rate ≡ 44100 → sample_of_time a w ≡ Some (min (fr * 588) 18446744073709551615)
unfolding sample_of_time
time_sample a w fr e rate = rw (e, sample_of_time) (rw rate refl)

time_reads : (a : CueAudio) (p : ℕ) → p < 2 ^ 36 → a.rate ≡ 44100 → p % 588 ≡ 0 → sample_of_time a (time_text p) ≡ Some p
time_reads a p lt rate frame =
    let m = padded_writes (p / 588 / 4500) (omega arith) in
    let s = padded_writes (p / 588 / 75 % 60) (omega arith) in
    let f = padded_writes (p / 588 % 75) (omega arith) in
    let read : time_of (time_text p) ≡ Some (p / 588) =
    time_is (p / 588 / 4500) (p / 588 / 75 % 60) (p / 588 % 75) (padded (p / 588 / 4500)) (padded (p / 588 / 75 % 60)) (padded (p / 588 % 75)) m s f ∙ frames_are p lt in
    let whole : min (p / 588 * 588) 18446744073709551615 ≡ p = omega arith in
    time_sample a (time_text p) (p / 588) read rate ∙ ap Some whole

of_cd : (a : CueAudio) (w : List ℕ) → a.cd ≡ true → sample_of a w ≡ sample_of_time a w
unfolding sample_of
of_cd a w e = rw e refl

of_other : (a : CueAudio) (w : List ℕ) (n : ℕ) → a.cd ≡ false → number_of w ≡ Some n → sample_of a w ≡ Some n
unfolding sample_of
of_other a w n e f = rw (e, f) refl

sample_reads : (a : CueAudio) (p : ℕ) → p < 2 ^ 36 → (b : Bool) → a.cd ≡ b → (b ≡ true → a.rate ≡ 44100) → (b ≡ true → p % 588 ≡ 0) → sample_of a (offset_text b p) ≡ Some p
sample_reads a p lt true cd rate frame = of_cd a (time_text p) cd ∙ time_reads a p lt (rate refl) (frame refl)
sample_reads a p lt false cd rate frame = of_other a (decimal p) p cd (decimal_writes p (omega arith)).reads

pub place_reads : (a : CueAudio) (p : ℕ) → p < 2 ^ 36 → (a.cd ≡ true → a.rate ≡ 44100) → (a.cd ≡ true → p % 588 ≡ 0) → sample_of a (offset_text a.cd p) ≡ Some p
place_reads a p lt rate frame = sample_reads a p lt a.cd refl rate frame

-- a place is a word
pub record IsWord (w : List ℕ) : Type 0 where
  pub some : 0 < length w
  pub plain : are_plain w ≡ true

of_number : (n : ℕ) (w : List ℕ) → Writes n w → IsWord w
of_number n w h = record { some = h.some; plain = h.plain }

pub place_word : (b : Bool) (p : ℕ) → p < 2 ^ 36 → IsWord (offset_text b p)
place_word true p lt =
    let m = padded_writes (p / 588 / 4500) (omega arith) in
    let s = padded_writes (p / 588 / 75 % 60) (omega arith) in
    let f = padded_writes (p / 588 % 75) (omega arith) in
    let later = plain_both (padded (p / 588 / 75 % 60)) (58 ∷ padded (p / 588 % 75)) s.plain f.plain in
    record {
      some = some_both (padded (p / 588 / 4500)) (58 ∷ (padded (p / 588 / 75 % 60) ++ 58 ∷ padded (p / 588 % 75))) m.some;
      plain = plain_both (padded (p / 588 / 4500)) (58 ∷ (padded (p / 588 / 75 % 60) ++ 58 ∷ padded (p / 588 % 75))) m.plain later;
    }
place_word false p lt = of_number p (decimal p) (decimal_writes p (omega arith))
