use Rattle.std.proofs.Common.{ℕ, ◌≡◌, ◌≤◌, ◌<◌}
use Rattle.flac_bits.specs.inner.Divided.{value_at, lower_32, Divided}
use Rattle.flac_bits.proofs.crc_32_division.divide.Given as goal

abbrev pub invariant-loop-i : goal.invariant-loop-i
invariant-loop-i l = (x : ℕ → ℕ) → ((p : ℕ) → l.from ≤ p → p < l.to → x p ≡ value_at l.bytes p) → Divided 300 lower_32 x l.initial.quotient l.from → Divided 300 lower_32 x l.quotient l.i
