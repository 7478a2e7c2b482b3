use Rattle.std.proofs.Common.{◌≡◌, ◌++◌, map, take}
use Rattle.flac_cli.specs.Waves.{riff_block}
use Rattle.flac_cli.proofs.encode_wave.keep.Given as goal

abbrev pub invariant-loop-piece : goal.invariant-loop-piece
invariant-loop-piece l = l.blocks.items ≡ l.fn.blocks.items ++ map (λ p. riff_block p.items) (take l.piece-index l.pieces)
