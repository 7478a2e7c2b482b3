use Rattle.std.proofs.Common.{ℕ, ◌≡◌, ◌≤◌, ◌<◌}
use Rattle.flac_bits.specs.inner.Divided.{value_at, lower_both, Divided}
use Rattle.flac_bits.proofs.crc_8_16_division.divide.Given as goal

abbrev pub invariant-loop-i : goal.invariant-loop-i
invariant-loop-i l = (x : ℕ → ℕ) → ((p : ℕ) → l.from ≤ p → p < l.to → x p ≡ value_at l.bytes p) → Divided 285 lower_both x l.initial.quotient l.from → Divided 285 lower_both x l.quotient l.i
