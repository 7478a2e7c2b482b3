use Rattle.std.proofs.Common.{◌∙◌, ◌++◌, ap, sym, slice_set, get_or, map, take, drop, add-one}
use Rattle.flac_cli.specs.Waves.{turned}
use Rattle.flac_cli.proofs.Waved.{turn_next}
use Rattle.flac_cli.proofs.decode_wave.turn.Goals as goal

pub loop-i-preserved : goal.loop-i-preserved
loop-i-preserved c =
    ap (λ l. slice_set l c.loop-i.i (turned (get_or l c.loop-i.i 0))) c.loop-i.invariant
    ∙ (turn_next c.args.bytes.now c.loop-i.i c.loop-i-test.true ∙ ap (λ k. map turned (take k c.args.bytes.now) ++ drop k c.args.bytes.now) (sym (add-one c.loop-i.i)))
