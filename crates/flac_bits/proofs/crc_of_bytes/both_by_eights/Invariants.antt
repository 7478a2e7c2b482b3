use Rattle.std.proofs.Common.{◌≡◌, ◌*◌, take}
use Rattle.flac_bits.specs.Bits.{bits_of}
use Rattle.flac_bits.specs.Check.{fed}
use Rattle.flac_bits.proofs.crc_of_bytes.both_by_eights.Given as goal

abbrev pub invariant-loop-i : goal.invariant-loop-i
invariant-loop-i l = record {
  eight : l.checks.0 ≡ fed 8 7 l.initial.checks.0 (bits_of (take (8 * l.i) l.bytes));
  sixteen : l.checks.1 ≡ fed 16 32773 l.initial.checks.1 (bits_of (take (8 * l.i) l.bytes));
}
