use Rattle.std.proofs.Common.{length, map}
use Rattle.flac_wave.proofs.Pieces.{CutSoFar}
use Rattle.flac_wave.proofs.cuts.cut_onto.Given as goal

abbrev pub invariant-loop-rest : goal.invariant-loop-rest
invariant-loop-rest l = CutSoFar (map (λ p. p.items) l.fn.pieces.items) (map (λ p. p.items) l.pieces.items) l.bytes l.rest

abbrev pub decreases-loop-rest : goal.decreases-loop-rest
decreases-loop-rest l = length l.rest
