use Rattle.std.proofs.Common.{◌≡◌, map, take}
use Rattle.flac_wave.specs.Wave.{all_of}
use Rattle.flac_c.proofs.wave_head.joined.Given as goal

abbrev pub invariant-loop-piece : goal.invariant-loop-piece
invariant-loop-piece l = l.bytes.items ≡ all_of (map (λ p. p.items) (take l.piece-index l.pieces))
