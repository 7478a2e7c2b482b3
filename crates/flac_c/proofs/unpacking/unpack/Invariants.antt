use Rattle.flac_c.specs.inner.Unpacked.{Unpacking}
use Rattle.flac_c.proofs.unpacking.unpack.Given as goal

abbrev pub invariant-loop-count : goal.invariant-loop-count
invariant-loop-count l = Unpacking l.fn.bits l.bits l.before l.count l.list.items
