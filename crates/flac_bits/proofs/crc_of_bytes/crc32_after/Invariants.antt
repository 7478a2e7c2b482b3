use Rattle.std.proofs.Common.{◌≡◌, ◌*◌, take}
use Rattle.flac_bits.specs.Bits.{bits_of}
use Rattle.flac_bits.specs.Check.{fed}
use Rattle.flac_bits.proofs.crc_of_bytes.crc32_after.Given as goal

abbrev pub invariant-loop-i : goal.invariant-loop-i
invariant-loop-i l = l.check ≡ fed 32 79764919 l.initial.check (bits_of (take (8192 * l.i) l.bytes))
