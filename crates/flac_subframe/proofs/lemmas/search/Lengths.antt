-- How long what is spelled is.
use Rattle.std.proofs.Common.{◌≡◌, ◌∙◌, refl, sym, ap, ℕ, zero, suc, ◌+◌, ◌-◌, ◌*◌, ◌/◌, ◌%◌, ◌^◌, arith, List, [], ◌∷◌, ◌++◌, length, take, drop, replicate, Bool, true, false, ℤ, length-append, flat_map}
use Rattle.std.specs.List.{sum_by}
use Rattle.std.proofs.lemmas.List.{length-replicate, append-nil}
use Rattle.std.proofs.Math.Nat.{mul-suc}
use Rattle.std.proofs.lemmas.List.Sums.{sum_by-cons}
use Rattle.flac_bits.specs.Bits.{unsigned}
use Rattle.flac_bits.specs.Signed.{signed, modulo}
use Rattle.flac_bits.specs.Meaning.{unary_bits}
use Rattle.flac_bits.specs.Forms.{joined}
use Rattle.flac_subframe.specs.declared.format.coding.Coding.{Coding}
use Rattle.flac_subframe.specs.declared.format.coding.Coding.TheVariants.{Rice, Escape}
use Rattle.flac_bits.specs.Rice.{folded}
use Rattle.flac_subframe.specs.format.Spelling.{value_spelling, coding_spelling, partition_spelling, residual_spelling, predictor_spelling}
use Rattle.flac_subframe.specs.format.Subframe.{Predictor}
use Rattle.flac_subframe.specs.format.Cost.{Codings}
use Rattle.flac_subframe.specs.format.inner.Cost.{value_cost, coding_cost, partitions_cost, residual_cost}
use Rattle.flac_subframe.specs.format.Bodies.{cut, residual_of}

pub length-unsigned : (n v : ℕ) → length (unsigned n v) ≡ n
length-unsigned zero v = refl
length-unsigned (suc n) v = ap suc (length-unsigned n v)

pub length-unary : (q : ℕ) → length (unary_bits q) ≡ q + 1
length-unary q = length-append (replicate q false) (true ∷ []) ∙ ap (λ (n : ℕ). n + 1) (length-replicate q false)

pub length-signed : (n : ℕ) (z : ℤ) → length (signed n z) ≡ n
length-signed n z = length-unsigned n (modulo n z)

-- the lengths of the parts
pub length-two : (a b : List Bool) → length (joined (a ∷ b ∷ [])) ≡ length a + length b
length-two a b = length-append a (b ++ []) ∙ rw (append-nil b) refl

pub length-three : (a b c : List Bool) → length (joined (a ∷ b ∷ c ∷ [])) ≡ length a + (length b + length c)
length-three a b c = length-append a (joined (b ∷ c ∷ [])) ∙ rw (length-two b c) refl

length-value : (k : ℕ) (r : ℤ) → length (value_spelling k r) ≡ value_cost k r
unfolding value_spelling
length-value k r = length-two (unary_bits (folded r / 2 ^ k)) (unsigned k (folded r % 2 ^ k)) ∙ rw (length-unary (folded r / 2 ^ k), length-unsigned k (folded r % 2 ^ k)) refl

pub length-flat_map : {X : Type 0} (f : X → List Bool) (cost : X → ℕ) → ((x : X) → length (f x) ≡ cost x) → (xs : List X) → length (flat_map f xs) ≡ sum_by cost xs
length-flat_map f cost each [] = refl
length-flat_map f cost each (x ∷ xs) = length-append (f x) (flat_map f xs) ∙ rw (each x, length-flat_map f cost each xs) (sym (sum_by-cons cost x xs))

pub sum_by-same : {X : Type 0} (n : ℕ) (xs : List X) → sum_by (λ (x : X). n) xs ≡ n * length xs
sum_by-same n [] = omega arith
sum_by-same n (x ∷ xs) = sum_by-cons (λ x. n) x xs ∙ rw (sum_by-same n xs) (omega (arith, mul-suc n (length xs)))

pub length-samples : (d : ℕ) (s : List ℤ) → length (flat_map (signed d) s) ≡ d * length s
length-samples d s = length-flat_map (signed d) (λ r. d) (length-signed d) s ∙ sum_by-same d s

length-coding : (w : ℕ) (c : Coding) (rs : List ℤ) → length (coding_spelling w c rs) ≡ w + coding_cost c rs
unfolding coding_spelling
length-coding w (Rice k) rs = length-two (unsigned w k) (flat_map (value_spelling k) rs) ∙ rw (length-unsigned w k, length-flat_map (value_spelling k) (value_cost k) (length-value k) rs) refl
length-coding w (Escape n) rs =
    length-three (unsigned w (2 ^ w - 1)) (unsigned 5 n) (flat_map (signed n) rs) ∙ rw (length-unsigned w (2 ^ w - 1), length-unsigned 5 n, length-samples n rs) refl

length-partitions : (w first size : ℕ) (rs : List ℤ) (cs : List Coding) → length (flat_map (partition_spelling w) (cut first size rs cs)) ≡ partitions_cost w first size rs cs
unfolding cut partitions_cost
length-partitions w first size rs [] = refl
length-partitions w first size rs (c ∷ cs) =
    length-append (coding_spelling w c (take first rs)) (flat_map (partition_spelling w) (cut size size (drop first rs) cs)) ∙ rw (length-coding w c (take first rs), length-partitions w size size (drop first rs) cs) refl

pub length-residual : (order : ℕ) (rs : List ℤ) (f : Codings) → 4 + (f.parameter_bits - 4) ≡ f.parameter_bits → length (residual_spelling (residual_of order rs f)) ≡ residual_cost order rs f
unfolding residual_spelling
length-residual order rs f e =
    let size : ℕ = (length rs + order) / 2 ^ f.partition_order in
    length-two (joined (unsigned 2 (f.parameter_bits - 4) ∷ unsigned 4 f.partition_order ∷ [])) (flat_map (partition_spelling (4 + (f.parameter_bits - 4))) (cut (size - order) size rs f.codings))
    ∙ rw (length-two (unsigned 2 (f.parameter_bits - 4)) (unsigned 4 f.partition_order), length-unsigned 2 (f.parameter_bits - 4), length-unsigned 4 f.partition_order, e, length-partitions f.parameter_bits (size - order) size rs f.codings) refl

pub length-predictor : (p : Predictor) → length (predictor_spelling p) ≡ 9 + p.precision * length p.coefficients
unfolding predictor_spelling
length-predictor p = length-three (unsigned 4 (p.precision - 1)) (unsigned 5 p.shift) (flat_map (signed p.precision) p.coefficients)
    ∙ rw (length-unsigned 4 (p.precision - 1), length-unsigned 5 p.shift, length-samples p.precision p.coefficients) (omega arith)
