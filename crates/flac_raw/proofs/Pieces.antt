-- Raw samples of bytes in two parts, of which the first has whole inter-channel samples.
use Rattle.std.proofs.Common.{◌≡◌, ◌≤◌, ◌<◌, ◌+◌, ◌*◌, ◌&&◌, ℕ, zero, suc, Bool, true, false, ℤ, List, [], ◌∷◌, ◌++◌, length, map, take, drop, get_or, refl, ap, sym, ◌∙◌, arith, inl, inr}
use Rattle.std.proofs.lemmas.Bool.{cases_lt}
use Rattle.std.proofs.lemmas.List.{length_push, get_or_push, get_or_append_left, map-append}
use Rattle.std.proofs.lemmas.List.Folds.{list_all-append}
use Rattle.std.specs.List.{list_all}
use Rattle.std.proofs.Math.Seq.{drop-append_seam, take-append_seam}
use Rattle.flac_raw.specs.Raw.{number_of, samples_at, channels_at}
use Rattle.flac_raw.proofs.Rows.{samples_front, samples_after_rows}

-- ---- samples of one channel

pub samples_long : (bytes : List ℕ) (row start width n : ℕ) → length (samples_at bytes row start width n) ≡ n
unfolding samples_at
samples_long bytes row start width zero = refl
samples_long bytes row start width (suc n) = omega (arith, length_push (samples_at bytes row start width n) (number_of (take width (drop (n * row + start) bytes))), samples_long bytes row start width n)

-- those of the first part, and those of the second
pub samples_split : (bytes piece : List ℕ) (before row start width n : ℕ) → length bytes ≡ before * row → start + width ≤ row
    → samples_at (bytes ++ piece) row start width (before + n) ≡ samples_at bytes row start width before ++ samples_at piece row start width n
samples_split bytes piece before row start width n long within =
    samples_after_rows bytes piece before row start width n long ∙ ap (λ l. l ++ samples_at piece row start width n) (samples_front bytes piece row start width before within (omega (arith, long)))

-- those in the middle of three parts
pub samples_between : (done piece later : List ℕ) (before row start width n m : ℕ) → length done ≡ before * row → length piece ≡ n * row → start + width ≤ row
    → take n (drop before (samples_at (done ++ (piece ++ later)) row start width (before + (n + m)))) ≡ samples_at piece row start width n
samples_between done piece later before row start width n m long wide within =
    let first = samples_at done row start width before in
    let here = samples_at piece row start width n in
    let last = samples_at later row start width m in
    let all : samples_at (done ++ (piece ++ later)) row start width (before + (n + m)) ≡ first ++ (here ++ last) =
    samples_split done (piece ++ later) before row start width (n + m) long within ∙ ap (λ l. first ++ l) (samples_split piece later n row start width m wide within) in
    ap (λ l. take n (drop before l)) all
    ∙ ap (λ k. take n (drop k (first ++ (here ++ last)))) (sym (samples_long done row start width before))
    ∙ ap (take n) (drop-append_seam first (here ++ last))
    ∙ ap (λ k. take k (here ++ last)) (sym (samples_long piece row start width n))
    ∙ take-append_seam here last

-- ---- channels

pub channels_many : (bytes : List ℕ) (rows row width n : ℕ) → length (channels_at bytes rows row width n) ≡ n
unfolding channels_at
channels_many bytes rows row width zero = refl
channels_many bytes rows row width (suc n) = omega (arith, length_push (channels_at bytes rows row width n) (samples_at bytes row (n * width) width rows), channels_many bytes rows row width n)

pub channel_is : (bytes : List ℕ) (rows row width n c : ℕ) → c < n → get_or (channels_at bytes rows row width n) c [] ≡ samples_at bytes row (c * width) width rows
unfolding channels_at
channel_is bytes rows row width zero c lt = absurd (omega (arith, lt))
channel_is bytes rows row width (suc n) c lt =
    let many = channels_many bytes rows row width n in
    let last = samples_at bytes row (n * width) width rows in
    elim (cases_lt c n) [
      | inl low ↦ get_or_append_left (channels_at bytes rows row width n) (last ∷ []) [] c (omega (arith, low, many)) ∙ channel_is bytes rows row width n c low
      | inr over ↦
          let same : c ≡ n = omega (arith, lt, over) in
          let one : samples_at bytes row (n * width) width rows ≡ samples_at bytes row (c * width) width rows = ap (λ k. samples_at bytes row (k * width) width rows) (sym same) in
          get_or_push (channels_at bytes rows row width n) last [] c (omega (arith, many, same)) ∙ one
    ]

-- the block in the middle of three parts is cut out of all channels
pub channels_between : (done piece later : List ℕ) (before row width n m count : ℕ) → length done ≡ before * row → length piece ≡ n * row → count * width ≤ row
    → map (λ c. take n (drop before c)) (channels_at (done ++ (piece ++ later)) (before + (n + m)) row width count) ≡ channels_at piece n row width count
unfolding channels_at
channels_between done piece later before row width n m zero long wide within = refl
channels_between done piece later before row width n m (suc count) long wide within =
    let e : suc count * width ≡ count * width + width = omega arith in
    let cut : List ℤ → List ℤ = λ c. take n (drop before c) in
    let all = done ++ (piece ++ later) in
    let rows = before + (n + m) in
    map-append cut (channels_at all rows row width count) (samples_at all row (count * width) width rows ∷ [])
    ∙ ap (λ l. l ++ cut (samples_at all row (count * width) width rows) ∷ []) (channels_between done piece later before row width n m count long wide (omega (arith, within, e)))
    ∙ ap (λ x. channels_at piece n row width count ++ x ∷ []) (samples_between done piece later before row (count * width) width n m long wide (omega (arith, within, e)))

-- ---- a test of each sample

apart : (a b c d : Bool) → ((a && b) && ((c && d) && true)) ≡ ((a && (c && true)) && (b && (d && true)))
apart true true true true = refl
apart true true true false = refl
apart true true false true = refl
apart true true false false = refl
apart true false true true = refl
apart true false true false = refl
apart true false false true = refl
apart true false false false = refl
apart false b c d = refl

-- each sample passes it if each of the first part does, and each of the second
pub tests_split : (p : ℤ → Bool) (bytes piece : List ℕ) (before row width n count : ℕ) → length bytes ≡ before * row → count * width ≤ row
    → list_all (λ c. list_all p c) (channels_at (bytes ++ piece) (before + n) row width count)
    ≡ (list_all (λ c. list_all p c) (channels_at bytes before row width count) && list_all (λ c. list_all p c) (channels_at piece n row width count))
unfolding channels_at
tests_split p bytes piece before row width n zero long within = refl
tests_split p bytes piece before row width n (suc count) long within =
    let e : suc count * width ≡ count * width + width = omega arith in
    let q : List ℤ → Bool = λ c. list_all p c in
    let all = channels_at (bytes ++ piece) (before + n) row width count in
    let first = channels_at bytes before row width count in
    let second = channels_at piece n row width count in
    let x = samples_at (bytes ++ piece) row (count * width) width (before + n) in
    let y = samples_at bytes row (count * width) width before in
    let z = samples_at piece row (count * width) width n in
    let rest : list_all q all ≡ (list_all q first && list_all q second) = tests_split p bytes piece before row width n count long (omega (arith, within, e)) in
    let one : q x ≡ (q y && q z) = ap q (samples_split bytes piece before row (count * width) width n long (omega (arith, within, e))) ∙ list_all-append p y z in
    list_all-append q all (x ∷ [])
    ∙ ap (λ b. b && (q x && true)) rest
    ∙ ap (λ b. (list_all q first && list_all q second) && (b && true)) one
    ∙ apart (list_all q first) (list_all q second) (q y) (q z)
    ∙ ap (λ b. b && (list_all q second && (q z && true))) (sym (list_all-append q first (y ∷ [])))
    ∙ ap (λ b. list_all q (first ++ y ∷ []) && b) (sym (list_all-append q second (z ∷ [])))
