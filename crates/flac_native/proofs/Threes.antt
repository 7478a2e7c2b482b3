-- Samples of three bytes, which are taken from the lanes of a vector.
use Rattle.std.proofs.Common.{◌≡◌, ◌<◌, ◌+◌, ◌*◌, ◌/◌, ◌%◌, ◌∷◌, ◌++◌, [], ℕ, ℤ, List, length, take, pos, sym, ap, ◌∙◌, append_assoc, of_z, to_z, w32, SFits, arith}
use Rattle.std.proofs.lemmas.List.{append-nil}
use Rattle.std.proofs.lemmas.Int.{to_z-of_z}
use Rattle.std.proofs.Math.Facts.{Fits-of_z}
use Rattle.std.specs.Prelude.{slice_index_or}
use Rattle.flac_native.specs.Message.{sample_bytes, row_bytes, rows_bytes}
use Rattle.flac_native.proofs.Messages.{rows_split}

-- the lowest three bytes of a number
abbrev pub three : ℕ → List ℕ
three x = x % 256 ∷ x / 256 % 256 ∷ x / 65536 % 256 ∷ []

-- those of the first of several words of 32 bits, and what is made of the others
abbrev pub three_and : ℕ → (ℕ → List ℕ) → List ℕ
three_and x rest = x % 256 ∷ x / 256 % 256 ∷ x / 256 / 256 % 256 ∷ rest (x / 256 / 256 / 256 / 256)

three_first : (x r : ℕ) (rest : ℕ → List ℕ) → x < 4294967296 → three_and (x + 4294967296 * r) rest ≡ three x ++ rest r
three_first x r rest small =
    let one : (x + 4294967296 * r) % 256 ≡ x % 256 = omega (arith, small) in
    let two : (x + 4294967296 * r) / 256 % 256 ≡ x / 256 % 256 = omega (arith, small) in
    let thrice : (x + 4294967296 * r) / 256 / 256 % 256 ≡ x / 65536 % 256 = omega (arith, small) in
    let on : (x + 4294967296 * r) / 256 / 256 / 256 / 256 ≡ r = omega (arith, small) in
    λ i. one i ∷ two i ∷ thrice i ∷ rest (on i)

-- those of four words
abbrev pub threes_of : ℕ → List ℕ
threes_of x = three_and x (λ y. three_and y (λ z. three_and z (λ w. three_and w (λ _. []))))

pub four_threes : (a b c d : ℕ) → a < 4294967296 → b < 4294967296 → c < 4294967296 → d < 4294967296
    → threes_of (a + 4294967296 * (b + 4294967296 * (c + 4294967296 * (d + 4294967296 * 0)))) ≡ three a ++ (three b ++ (three c ++ three d))
four_threes a b c d p q r s =
    three_first a _ (λ y. three_and y (λ z. three_and z (λ w. three_and w (λ _. [])))) p
    ∙ ap (λ l. three a ++ l) (three_first b _ (λ z. three_and z (λ w. three_and w (λ _. []))) q
    ∙ ap (λ l. three b ++ l) (three_first c _ (λ w. three_and w (λ _. [])) r
    ∙ ap (λ l. three c ++ l) (three_first d 0 (λ _. []) s)))

-- four rows
pub four_rows : (channels : List (List ℤ)) (i : ℕ) → rows_bytes 3 channels 4 i
    ≡ row_bytes 3 channels i ++ (row_bytes 3 channels (i + 1) ++ (row_bytes 3 channels (i + 2) ++ row_bytes 3 channels (i + 3)))
unfolding rows_bytes
four_rows channels i =
    let two : i + 1 + 1 ≡ i + 2 = omega arith in
    let three : i + 1 + 1 + 1 ≡ i + 3 = omega arith in
    rw (sym two, sym three) (λ j. row_bytes 3 channels i ++ (row_bytes 3 channels (i + 1) ++ (row_bytes 3 channels (i + 1 + 1) ++ append-nil (row_bytes 3 channels (i + 1 + 1 + 1)) j)))

-- a sample as it is passed on
abbrev pub passed : ℤ → ℤ
passed z = to_z w32 (of_z w32 z)

-- four samples as a number: the lanes of a vector
abbrev pub word_of : ℤ → ℤ → ℤ → ℤ → ℕ
word_of a b c d = of_z w32 a + 4294967296 * (of_z w32 b + 4294967296 * (of_z w32 c + 4294967296 * (of_z w32 d + 4294967296 * 0)))

-- that a number is a channel's sample at an index
abbrev pub IsSample : List (List ℤ) → ℕ → ℕ → ℤ → Type 0
IsSample channels c i z = SFits w32 z × (z ≡ slice_index_or (slice_index_or channels c []) i (pos 0))

-- two rows of two channels
pub two_threes : (channels : List (List ℤ)) (i k : ℕ) (a b c d : ℤ) → length channels ≡ 2 → IsSample channels 0 i a → IsSample channels 1 i b → IsSample channels 0 k c → IsSample channels 1 k d
    → threes_of (word_of (passed a) (passed b) (passed c) (passed d)) ≡ row_bytes 3 channels i ++ row_bytes 3 channels k
unfolding row_bytes
two_threes [] i k a b c d two p q r s = absurd (omega (arith, two))
two_threes (x ∷ []) i k a b c d two p q r s = absurd (omega (arith, two))
two_threes (x ∷ y ∷ z ∷ zs) i k a b c d two p q r s = absurd (omega (arith, two))
two_threes (x ∷ y ∷ []) i k a b c d two p q r s =
    let ea = to_z-of_z w32 a p.0 in
    let eb = to_z-of_z w32 b q.0 in
    let ec = to_z-of_z w32 c r.0 in
    let ed = to_z-of_z w32 d s.0 in
    (λ j. threes_of (word_of (ea j) (eb j) (ec j) (ed j)))
    ∙ four_threes (of_z w32 a) (of_z w32 b) (of_z w32 c) (of_z w32 d) (Fits-of_z p.0).fits (Fits-of_z q.0).fits (Fits-of_z r.0).fits (Fits-of_z s.0).fits
    ∙ (λ j. sample_bytes 3 (p.1 j) ++ (sample_bytes 3 (q.1 j) ++ (sample_bytes 3 (r.1 j) ++ sample_bytes 3 (s.1 j))))

-- four rows, two after two
pub rows_put : (at i : ℕ) (channels : List (List ℤ)) (out mid new low high : List ℕ)
    → take (at + 12) mid ≡ take at out ++ low → low ≡ row_bytes 3 channels i ++ row_bytes 3 channels (i + 1)
    → take (at + 12 + 12) new ≡ take (at + 12) mid ++ high → high ≡ row_bytes 3 channels (i + 2) ++ row_bytes 3 channels (i + 3)
    → take (at + 24) new ≡ take at out ++ rows_bytes 3 channels 4 i
rows_put at i channels out mid new low high first l second h =
    let front = take at out in
    let e : at + 24 ≡ at + 12 + 12 = omega arith in
    let a = row_bytes 3 channels i in
    let b = row_bytes 3 channels (i + 1) in
    let c = row_bytes 3 channels (i + 2) ++ row_bytes 3 channels (i + 3) in
    ap (λ n. take n new) e ∙ second ∙ ap (λ x. take (at + 12) mid ++ x) h ∙ ap (λ x. x ++ c) (first ∙ ap (λ x. front ++ x) l)
    ∙ append_assoc front (a ++ b) c ∙ ap (λ x. front ++ x) (append_assoc a b c ∙ sym (four_rows channels i))

-- four rows more
pub fours_more : (channels : List (List ℤ)) (i start : ℕ) (out new : List ℕ) → take (24 * i) out ≡ rows_bytes 3 channels (4 * i) start
    → take (24 * i + 24) new ≡ take (24 * i) out ++ rows_bytes 3 channels 4 (start + 4 * i) → take (24 * (i + 1)) new ≡ rows_bytes 3 channels (4 * (i + 1)) start
fours_more channels i start out new before put =
    let place : 24 * (i + 1) ≡ 24 * i + 24 = omega arith in
    let count : 4 * (i + 1) ≡ 4 * i + 4 = omega arith in
    let rows = rows_split 3 channels (4 * i) 4 start in
    ap (λ n. take n new) place ∙ put ∙ ap (λ l. l ++ rows_bytes 3 channels 4 (start + 4 * i)) before ∙ sym rows ∙ ap (λ n. rows_bytes 3 channels n start) (sym count)
