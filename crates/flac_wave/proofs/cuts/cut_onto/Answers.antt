use Rattle.std.proofs.Common.{map}
use Rattle.flac_wave.proofs.Pieces.{cut_last, empty_rest}
use Rattle.flac_wave.proofs.cuts.cut_onto.Goals as goal

pub returns : goal.returns
returns c = cut_last (map (λ p. p.items) c.args.pieces.now.items) _ c.args.bytes.now c.loop-rest.rest.now c.loop-rest.invariant (empty_rest c.loop-rest.rest.now _ c.is_empty.ensures c.loop-rest-test.false)
