-- For proofs of the search: what the codings of a residual cost, in bits, and which a residual may have.
use Rattle.std.specs.Prelude.{ℕ, ℤ, ◌≡◌, ◌+◌, ◌-◌, ◌*◌, ◌/◌, ◌^◌, ◌<◌, List, [], ◌∷◌, length, take, drop}
use Rattle.std.specs.List.{sum_by}
use Rattle.flac_subframe.specs.declared.format.coding.Coding.{Coding}
use Rattle.flac_subframe.specs.declared.format.coding.Coding.TheVariants.{Rice, Escape}
use Rattle.flac_subframe.specs.declared.format.content.ChoiceView.{ChoiceView}
use Rattle.flac_bits.specs.Rice.{folded}
use Rattle.flac_subframe.specs.format.Cost.{MayCodeEach, Codings, MayWrite, codings_of}

-- a folded number under a Rice parameter: its quotient in zeros, a one, and k bits
abbrev pub folded_cost : ℕ → ℕ → ℕ
folded_cost k n = n / 2 ^ k + 1 + k

abbrev pub value_cost : ℕ → ℤ → ℕ
value_cost k r = folded_cost k (folded r)

-- a partition without its parameter
abbrev pub coding_cost : Coding → List ℤ → ℕ
coding_cost (Rice k) rs = sum_by (value_cost k) rs
coding_cost (Escape n) rs = 5 + n * length rs

unfoldable pub partitions_cost : ℕ → ℕ → ℕ → List ℤ → List Coding → ℕ
partitions_cost w first size rs [] = 0
partitions_cost w first size rs (c ∷ cs) = w + coding_cost c (take first rs) + partitions_cost w size size (drop first rs) cs

abbrev pub residual_cost : ℕ → List ℤ → Codings → ℕ
residual_cost order rs f =
    6 + partitions_cost f.parameter_bits ((length rs + order) / 2 ^ f.partition_order - order) ((length rs + order) / 2 ^ f.partition_order) rs f.codings

-- one coding for each of n partitions
abbrev pub Partitioned : ℕ → ℕ → ℕ → ℕ → List ℤ → List Coding → Type 0
Partitioned w first size n rs cs = (length cs ≡ n) × MayCodeEach w first size rs cs

-- the coding has a byte
abbrev pub HasByte : Coding → Type 0
HasByte (Rice k) = k < 32
HasByte (Escape n) = n < 32

-- the codings of a choice that is borrowed
abbrev pub codings_lent : ChoiceView → Codings
codings_lent c = codings_of c.form.residual c.codings.now

-- the forms of one method and partition order, and of one method
abbrev pub HalvedTo : ℕ → ℕ → ℕ → ℕ → List ℤ → Codings → Type 0
HalvedTo w p most order rs f = (f.parameter_bits ≡ w) × (f.partition_order ≡ p) × MayWrite most order rs f

abbrev pub ByMethod : ℕ → ℕ → ℕ → List ℤ → Codings → Type 0
ByMethod w most order rs f = (f.parameter_bits ≡ w) × MayWrite most order rs f
