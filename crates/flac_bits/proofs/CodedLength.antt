-- How long the spelling of a coded number is, and which form it has then.
use Rattle.std.proofs.Common.{◌≡◌, ℕ, zero, suc, ◌+◌, ◌-◌, ◌*◌, ◌/◌, ◌%◌, ◌^◌, ◌<◌, cond, nat_eq, Bool, List, length, length-append, refl, sym, ap, ◌∙◌, arith, inl, inr}
use Rattle.std.proofs.lemmas.Bool.{cases_lt}
use Rattle.std.proofs.lemmas.List.{append-nil}
use Rattle.flac_bits.specs.Bits.{unsigned}
use Rattle.flac_bits.specs.Coded.{six_bits, in_bytes, number_spelling}
use Rattle.flac_bits.proofs.Words.{length-unsigned}
use Rattle.flac_bits.proofs.CodedTie.{spelled_0, spelled_1, spelled_2, spelled_3, spelled_4, spelled_5, spelled_6}

six_long : (n v : ℕ) → length (six_bits n v) ≡ 8 * n
unfolding six_bits
six_long zero v = refl
six_long (suc n) v = omega (arith, length-append (unsigned 8 (128 + v / 64 ^ n % 64)) (six_bits n v), length-unsigned 8 (128 + v / 64 ^ n % 64), six_long n v)

pub in_long : (lead n v : ℕ) → length (in_bytes lead n v) ≡ 8 * (n + 1)
in_long lead n v = omega (arith, length-append (unsigned 8 (lead + v / 64 ^ n)) (six_bits n v), length-unsigned 8 (lead + v / 64 ^ n), six_long n v)

-- the bits of a lead byte that say how many bytes follow it
abbrev pub lead_bits : ℕ → ℕ
lead_bits n = cond (nat_eq n 0) 0 (256 - 128 / 2 ^ n)

-- the form of a number, with n bytes after the lead byte
pub record HasForm (v n : ℕ) : Type 0 where
  pub spelled : number_spelling v ≡ in_bytes (lead_bits n) n v
  pub fits : v < 2 ^ 36 → lead_bits n + v / 64 ^ n < 256

alone : (v : ℕ) → v < 2 ^ 7 → number_spelling v ≡ in_bytes 0 0 v
unfolding six_bits
alone v lt = spelled_0 v lt ∙ ap (unsigned 8) (omega arith) ∙ sym (append-nil (unsigned 8 (0 + v / 64 ^ 0)))

has : (v n k : ℕ) → length (number_spelling v) ≡ 8 * (n + 1) → number_spelling v ≡ in_bytes (lead_bits k) k v → (v < 2 ^ 36 → lead_bits k + v / 64 ^ k < 256) → HasForm v n
has v n k long spelled fits =
    let e : n ≡ k = omega (arith, long, ap (λ (bs : List Bool). length bs) spelled, in_long (lead_bits k) k v) in
    rw e (record { spelled = spelled; fits = fits })

-- the length shows it
pub form_is : (v n : ℕ) → length (number_spelling v) ≡ 8 * (n + 1) → HasForm v n
form_is v n long = elim (cases_lt v (2 ^ 7)) [
  | inl lt ↦ has v n 0 long (alone v lt) (λ small. omega arith)
  | inr a ↦ elim (cases_lt v (2 ^ 11)) [
    | inl lt ↦ has v n 1 long (spelled_1 v a lt) (λ small. omega arith)
    | inr b ↦ elim (cases_lt v (2 ^ 16)) [
      | inl lt ↦ has v n 2 long (spelled_2 v b lt) (λ small. omega arith)
      | inr d ↦ elim (cases_lt v (2 ^ 21)) [
        | inl lt ↦ has v n 3 long (spelled_3 v d lt) (λ small. omega arith)
        | inr e ↦ elim (cases_lt v (2 ^ 26)) [
          | inl lt ↦ has v n 4 long (spelled_4 v e lt) (λ small. omega arith)
          | inr f ↦ elim (cases_lt v (2 ^ 31)) [
            | inl lt ↦ has v n 5 long (spelled_5 v f lt) (λ small. omega arith)
            | inr h ↦ has v n 6 long (spelled_6 v h) (λ small. omega arith)
          ]
        ]
      ]
    ]
  ]
]
