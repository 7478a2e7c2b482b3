use Rattle.std.proofs.Common.{◌≡◌, ◌-◌}
use Rattle.flac_bits.specs.Bits.{unsigned}
use Rattle.flac_bits.specs.Check.{fed}
use Rattle.flac_bits.proofs.crc_of_bytes.bits_checked16.Given as goal

abbrev pub invariant-loop-i : goal.invariant-loop-i
invariant-loop-i l = fed 16 32773 l.check (unsigned (l.n - l.i) l.value) ≡ fed 16 32773 l.initial.check (unsigned l.n l.value)
