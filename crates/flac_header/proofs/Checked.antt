-- Parts of a text with their remainder after them.
use Rattle.std.proofs.Common.{◌≡◌, ℕ, zero, suc, ◌*◌, ◌%◌, ◌<◌, ◌^◌, cond, bit_xor, length, Bool, true, false, nat_eq, List, [], ◌∷◌, ◌++◌, refl, sym, ap, ◌∙◌, append_assoc, arith}
use Rattle.std.proofs.lemmas.List.{append-nil}
use Rattle.std.specs.Int.{bit_at}
use Rattle.std.proofs.lemmas.Nat.{xor_of_8}
use Rattle.flac_bits.specs.Bits.{unsigned}
use Rattle.flac_bits.specs.State.{Mark, past}
use Rattle.flac_bits.specs.Check.{remainder, power}
use Rattle.flac_bits.specs.Forms.{joined}
use Rattle.flac_bits.proofs.Readings.{past-append}
use Rattle.flac_bits.proofs.Check.{check8_is}

-- the parts one after another, with more after them
abbrev pub before : List (List Bool) → List Bool → List Bool
before [] text = text
before (part ∷ parts) text = part ++ before parts text

-- after the parts, one after another
abbrev pub pasts : List (List Bool) → Mark → Mark
pasts [] m = m
pasts (part ∷ parts) m = pasts parts (past part m)

pub before_is : (parts : List (List Bool)) (text : List Bool) → before parts text ≡ joined parts ++ text
before_is [] text = refl
before_is (part ∷ parts) text = ap (λ k. part ++ k) (before_is parts text) ∙ sym (append_assoc part (joined parts) text)

pub pasts_is : (parts : List (List Bool)) (m : Mark) → past (joined parts) m ≡ pasts parts m
pasts_is [] m = refl
pasts_is (part ∷ parts) m = past-append part (joined parts) m ∙ pasts_is parts (past part m)

-- the remainder that is known after the parts is theirs
pub parts_check : (parts : List (List Bool)) (m : Mark) → m.check8 ≡ 0 → (pasts parts m).check8 ≡ remainder 8 7 (joined parts)
parts_check parts m z = ap (λ (k : Mark). k.check8) (sym (pasts_is parts m)) ∙ check8_is (joined parts) m z

-- parts with a check after them that is their remainder
pub with_check : (parts : List (List Bool)) (m : Mark) (check : ℕ) → m.check8 ≡ 0 → check ≡ (pasts parts m).check8
    → before parts (unsigned 8 check ++ []) ≡ joined parts ++ unsigned 8 (remainder 8 7 (joined parts))
with_check parts m check z is =
    ap (λ k. before parts k) (append-nil (unsigned 8 check)) ∙ before_is parts (unsigned 8 check) ∙ ap (λ k. joined parts ++ unsigned 8 k) (is ∙ parts_check parts m z)

-- a remainder is a byte
choice_small : (b : Bool) (x y : ℕ) → x < 2 ^ 8 → y < 2 ^ 8 → cond b x y < 2 ^ 8
choice_small true x y h k = h
choice_small false x y h k = k

power_small : (j : ℕ) → power 8 7 j < 2 ^ 8
power_small zero = omega arith
power_small (suc j) =
    let c = power 8 7 j in
    let low : 2 * c % 2 ^ 8 < 2 ^ 8 = omega arith in
    choice_small (nat_eq (bit_at c 7) 1) (bit_xor (2 * c % 2 ^ 8) 7) (2 * c % 2 ^ 8) (xor_of_8 (2 * c % 2 ^ 8) 7 low (omega arith)) low

pub check_small : (bs : List Bool) → remainder 8 7 bs < 2 ^ 8
check_small [] = omega arith
check_small (b ∷ bs) = xor_of_8 (cond b (power 8 7 (length bs)) 0) (remainder 8 7 bs) (choice_small b (power 8 7 (length bs)) 0 (power_small (length bs)) (omega arith)) (check_small bs)
