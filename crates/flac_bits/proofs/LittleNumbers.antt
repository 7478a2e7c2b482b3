-- Four bytes, and the number of which they are the bytes, the lowest first.
use Rattle.std.proofs.Common.{◌≡◌, ℕ, ◌+◌, ◌*◌, List, [], ◌∷◌, ◌++◌, Result, Ok, Err, refl, sym, ap, ◌∙◌, arith}
use Rattle.byteorder.specs.Endian.{little_number, little_bytes}
use Rattle.flac_bits.specs.State.{Cursor}
use Rattle.flac_bits.specs.Layout.{bits, run, Reason, and_then, number_at}
use Rattle.flac_bits.specs.Lists.{list_of}
use Rattle.flac_bits.specs.LittleEndian.{little_32, little_bits}
use Rattle.flac_bits.specs.Bits.{bits_of}

abbrev number_of : List ℕ → Cursor → Result (ℕ × Cursor) Reason
number_of xs d = Ok (little_number 4 xs, d)

abbrev after_byte : ℕ → List ℕ → Cursor → Result (List ℕ × Cursor) Reason
after_byte a xs d = Ok (a ∷ xs, d)

abbrev number_of_bytes : ℕ → ℕ → ℕ → ℕ → Cursor → Result (ℕ × Cursor) Reason
number_of_bytes a b e f d = Ok (a + 256 * b + 65536 * e + 16777216 * f, d)

same_number : (a b e f : ℕ) → a + 256 * b + 65536 * e + 16777216 * f ≡ a + 256 * (b + 256 * (e + 256 * (f + 0)))
same_number a b e f = omega arith

fourth : (a b e : ℕ) (r : Result (ℕ × Cursor) Reason)
    → and_then r (number_of_bytes a b e)
    ≡ and_then (and_then (and_then (and_then (and_then r (λ f d. and_then (run (list_of 0 (bits 8)) d) (after_byte f))) (after_byte e)) (after_byte b)) (after_byte a)) number_of
unfolding list_of
fourth a b e (Ok x) = ap (λ (n : ℕ). okay (n, x.1)) (same_number a b e x.0)
  where
    okay : ℕ × Cursor → Result (ℕ × Cursor) Reason
    okay y = Ok y
fourth a b e (Err why) = refl

third : (a b : ℕ) (r : Result (ℕ × Cursor) Reason)
    → and_then r (λ e d. and_then (number_at 8 d) (number_of_bytes a b e))
    ≡ and_then (and_then (and_then (and_then r (λ e d. and_then (run (list_of 1 (bits 8)) d) (after_byte e))) (after_byte b)) (after_byte a)) number_of
unfolding list_of
third a b (Ok x) = fourth a b x.0 (number_at 8 x.1)
third a b (Err why) = refl

second : (a : ℕ) (r : Result (ℕ × Cursor) Reason)
    → and_then r (λ b d. and_then (number_at 8 d) (λ e d'. and_then (number_at 8 d') (number_of_bytes a b e)))
    ≡ and_then (and_then (and_then r (λ b d. and_then (run (list_of 2 (bits 8)) d) (after_byte b))) (after_byte a)) number_of
unfolding list_of
second a (Ok x) = third a x.0 (number_at 8 x.1)
second a (Err why) = refl

first : (r : Result (ℕ × Cursor) Reason)
    → and_then r (λ a d. and_then (number_at 8 d) (λ b d'. and_then (number_at 8 d') (λ e d''. and_then (number_at 8 d'') (number_of_bytes a b e))))
    ≡ and_then (and_then r (λ a d. and_then (run (list_of 3 (bits 8)) d) (after_byte a))) number_of
unfolding list_of
first (Ok x) = second x.0 (number_at 8 x.1)
first (Err why) = refl

-- what is read as four bytes is the number
pub bytes_are_little_32 : (c : Cursor) → run little_32 c ≡ and_then (run (list_of 4 (bits 8)) c) number_of
unfolding little_32 list_of
bytes_are_little_32 c = first (number_at 8 c)

-- the bytes of a number are its spelling
pub little_bits_are : (v : ℕ) (bytes : List ℕ) → bytes ≡ little_bytes 4 v ++ [] → bits_of bytes ≡ little_bits v
unfolding little_bits
little_bits_are v bytes is = ap bits_of is

-- such a number, read as four bytes, and why it cannot be
pub little_read : (v : ℕ) (xs : List ℕ) (c d : Cursor) → run (list_of 4 (bits 8)) c ≡ Ok (xs, d) → v ≡ little_number 4 xs
    → run little_32 c ≡ Ok (v, d)
little_read v xs c d read is = bytes_are_little_32 c ∙ ap (λ r. and_then r number_of) read ∙ ap (λ k. Ok (k, d)) (sym is)

pub little_cut : (why : Reason) (c : Cursor) → run (list_of 4 (bits 8)) c ≡ Err why → run little_32 c ≡ Err why
little_cut why c cut = bytes_are_little_32 c ∙ ap (λ r. and_then r number_of) cut
