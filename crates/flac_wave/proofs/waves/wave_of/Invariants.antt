use Rattle.std.proofs.Common.{length, map}
use Rattle.flac_wave.proofs.Walks.{Walked}
use Rattle.flac_wave.proofs.waves.wave_of.Given as goal

abbrev pub invariant-chunks : goal.invariant-chunks
invariant-chunks l = Walked l.to_end l.bytes (map (λ p. p.items) l.pieces.items) l.rest l.seen l.count

abbrev pub decreases-chunks : goal.decreases-chunks
decreases-chunks l = length l.rest
