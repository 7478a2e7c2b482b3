-- The bits of a number one by one, and of bytes.
use Rattle.std.proofs.Common.{◌≡◌, ℕ, suc, ◌+◌, ◌-◌, ◌/◌, ◌^◌, ◌<◌, nat_eq, List, [], ◌∷◌, ◌++◌, bit_and, sym, ap, ◌∙◌, arith, append_assoc}
use Rattle.std.proofs.lemmas.List.{append-nil}
use Rattle.std.proofs.lemmas.Nat.Bits.{shr_and_one}
use Rattle.flac_bits.specs.Bits.{unsigned, bits_of}

pub bits_of-snoc : (xs : List ℕ) (b : ℕ) → bits_of (xs ++ b ∷ []) ≡ bits_of xs ++ unsigned 8 b
bits_of-snoc [] b = append-nil (unsigned 8 b)
bits_of-snoc (x ∷ xs) b = ap (λ bs. unsigned 8 x ++ bs) (bits_of-snoc xs b) ∙ sym (append_assoc (unsigned 8 x) (bits_of xs) (unsigned 8 b))

-- the bits of a number after the first i
pub number_rest : (n i value : ℕ) → i < n → unsigned (n - i) value ≡ nat_eq (bit_and (value / 2 ^ (n - 1 - i)) 1) 1 ∷ unsigned (n - (i + 1)) value
number_rest n i value lt =
    let k : n - i ≡ suc (n - (i + 1)) = omega arith in
    let j : n - 1 - i ≡ n - (i + 1) = omega arith in
    ap (λ x. unsigned x value) k ∙ ap (λ d. nat_eq d 1 ∷ unsigned (n - (i + 1)) value) (sym (shr_and_one value (n - (i + 1)))) ∙ ap (λ x. nat_eq (bit_and (value / 2 ^ x) 1) 1 ∷ unsigned (n - (i + 1)) value) (sym j)
