-- For proofs of the search: the number of an entry of its tables.
use Rattle.std.specs.Prelude.{ℕ, ◌+◌, ◌-◌, ◌*◌, ◌/◌, ◌%◌, ◌^◌}

-- A Rice parameter and the bits that a partition takes under it, in one number: the smaller of two has fewer bits, or
-- as many and the smaller parameter.
abbrev pub entry_number : ℕ → ℕ → ℕ
entry_number parameter bits = 32 * bits + parameter

-- the number before any parameter is compared
abbrev pub no_entry : ℕ
no_entry = 2 ^ 64 - 1

abbrev pub parameter_in : ℕ → ℕ
parameter_in e = e % 32

abbrev pub bits_in : ℕ → ℕ
bits_in e = e / 32
