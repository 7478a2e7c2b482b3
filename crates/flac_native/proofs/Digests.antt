-- A digest is 16 bytes.
use Rattle.std.proofs.Common.{ℕ, zero, suc, ◌*◌, ◌/◌, List, [], ◌∷◌, ◌++◌, length, length-append, refl, arith}
use Rattle.std.specs.Prelude.{slice_index}
use Rattle.std.specs.Int.{w32, to_le_bytes}
use Rattle.flac_bits.specs.Forms.{AreBytes, IsBytes}
use Rattle.md5.specs.Md5.{md5, digest_bytes, hash_after, padded_message}

bytes_append : (xs ys : List ℕ) → AreBytes xs → AreBytes ys → AreBytes (xs ++ ys)
bytes_append [] ys h k = k
bytes_append (x ∷ xs) ys h k = (h.0, bytes_append xs ys h.1 k)

word_bytes : (v : ℕ) → IsBytes 4 (to_le_bytes w32 v)
word_bytes v = record { many = refl; small = (omega arith, (omega arith, (omega arith, (omega arith, tt)))) }

words_bytes : (h : List ℕ) (n : ℕ) → IsBytes (4 * n) (digest_bytes h n)
unfolding digest_bytes
words_bytes h zero = record { many = refl; small = tt }
words_bytes h (suc n) =
    let front = words_bytes h n in
    let word = word_bytes (slice_index h n) in
    record {
      many = omega (arith, length-append (digest_bytes h n) (to_le_bytes w32 (slice_index h n)), front.many, word.many);
      small = bytes_append (digest_bytes h n) (to_le_bytes w32 (slice_index h n)) front.small word.small;
    }

pub digest_is_bytes : (m : List ℕ) → IsBytes 16 (md5 m)
unfolding md5
digest_is_bytes m = words_bytes (hash_after (padded_message m) (length (padded_message m) / 64)) 4
