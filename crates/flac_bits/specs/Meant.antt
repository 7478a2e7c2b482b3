-- What the calls that read a field return, by the meaning of layouts: a value is the one that a prefix of the input
-- spells, and a reason is one that a prefix of the input shows, or the input ends inside.
use Rattle.std.specs.Prelude.{ℕ, ℤ, Bool, List, length, Option, Result, ⊤}
use Rattle.flac_bits.specs.State.{State}
use Rattle.flac_bits.specs.Layout.{bits, unary, align}
use Rattle.flac_bits.specs.Lists.{list_of}
use Rattle.flac_bits.specs.Reading.{Reads, Means}
use Rattle.flac_bits.specs.Rice.{rice_value}
use Rattle.flac_bits.specs.Signed.{signed_field}
use Rattle.flac_bits.specs.declared.why.Why.{Why}

pub record FieldsAreMeant : Type 0 where
  pub numbers : (n : ℕ) (old new : State) (result : Result ℕ Why) → Reads (λ v. v) (bits n) old new result → Means (λ v. v) (bits n) old new result
  pub signed_numbers : (n : ℕ) (old new : State) (result : Result ℤ Why) → Reads (λ v. v) (signed_field n) old new result → Means (λ v. v) (signed_field n) old new result
  pub zeros : (limit : ℕ) (old new : State) (result : Result (Option ℕ) Why) → Reads (λ v. v) (unary limit) old new result → Means (λ v. v) (unary limit) old new result
  pub alignments : (old new : State) (result : Result Bool Why) → Reads (λ b. b) align old new result → Means (λ b. b) align old new result
  pub bytes : (out : List ℕ) (old new : State) (result : Result ⊤ Why) → Reads (λ _. out) (list_of (length out) (bits 8)) old new result → Means (λ _. out) (list_of (length out) (bits 8)) old new result
  pub rice_partitions : (k : ℕ) (values : List ℤ) (old new : State) (result : Result ⊤ Why)
      → Reads (λ _. values) (list_of (length values) (rice_value k)) old new result → Means (λ _. values) (list_of (length values) (rice_value k)) old new result
  pub signed_partitions : (n : ℕ) (values : List ℤ) (old new : State) (result : Result ⊤ Why)
      → Reads (λ _. values) (list_of (length values) (signed_field n)) old new result → Means (λ _. values) (list_of (length values) (signed_field n)) old new result
