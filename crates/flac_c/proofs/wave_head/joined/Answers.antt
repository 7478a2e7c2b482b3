use Rattle.std.proofs.Common.{◌++◌, ◌∙◌, ap, sym, List, ℕ, map, take}
use Rattle.flac_wave.specs.Wave.{all_of}
use Rattle.flac_c.proofs.WaveHeads.{items, joined_next}
use Rattle.flac_c.proofs.wave_head.joined.Goals as goal

pub loop-piece-preserved : goal.loop-piece-preserved
loop-piece-preserved c =
    c.in_ok-extend_from_slice.ensures.items ∙ (ap (λ (l : List ℕ). l ++ c.as_slice.result.now) c.loop-piece.invariant
    ∙ (ap (λ (l : List ℕ). all_of (map items (take c.loop-piece.piece-index c.args.pieces.now)) ++ l) c.as_slice.ensures.value
    ∙ sym (joined_next c.args.pieces.now c.loop-piece.piece-index c.piece-item.result c.loop-piece-test.true c.piece-item.is)))
