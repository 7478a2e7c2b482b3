use Rattle.std.proofs.Common.{◌*◌, drop}
use Rattle.flac_bits.specs.Bits.{bits_of}
use Rattle.flac_bits.proofs.Writing.{Towards}
use Rattle.flac_bits.proofs.writer.BitWriter.put_bytes.Given as goal

abbrev pub invariant-loop-i : goal.invariant-loop-i
invariant-loop-i g l = Towards (bits_of (drop (8 * l.i) l.bytes)) (bits_of l.bytes) l.fn.self l.self

abbrev pub invariant-loop-i-2 : goal.invariant-loop-i-2
invariant-loop-i-2 g l = Towards (bits_of (drop l.i l.bytes)) (bits_of l.bytes) l.fn.self l.self
