use Rattle.std.proofs.Common.{ℕ, ◌≡◌, ◌+◌, ◌<◌, bit_xor}
use Rattle.flac_bits.specs.inner.Divided.{value_at, mixed_at, lower_32}
use Rattle.flac_bits.proofs.crc_32_division.put_rest.Given as goal

abbrev pub invariant-loop-j : goal.invariant-loop-j
invariant-loop-j l = (j : ℕ) → j < l.j → value_at l.rest j ≡ bit_xor (value_at l.bytes (j + l.from)) (mixed_at lower_32 (value_at l.quotient) (j + l.from))
