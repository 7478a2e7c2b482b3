use Rattle.flac_subframe.proofs.lemmas.format.PackedSums.{Packs, PacksOn}
use Rattle.flac_subframe.proofs.format.packed.restore_packed.Given as goal

abbrev pub invariant-loop-i : goal.invariant-loop-i
invariant-loop-i l = Packs l.half l.coefficients l.samples l.words l.i

abbrev pub invariant-loop-i-2 : goal.invariant-loop-i-2
invariant-loop-i-2 l = PacksOn l.half l.coefficients l.shift l.bits l.fn.samples l.samples l.words l.i
