use Rattle.std.proofs.lemmas.Result.{err_from_is_err_and}
use Rattle.flac_native.proofs.FixedBuffers.{next_failed, next_written}
use Rattle.flac_native.proofs.chosen_frames.write_next.Goals as goal

pub returns-in_err-write_chosen-clause-wrote : goal.returns-in_err-write_chosen-clause-wrote
returns-in_err-write_chosen-clause-wrote g c =
    let p = err_from_is_err_and c.from_residual.result c.from_residual.ensures.1 in
    let w = c.in_err-write_chosen.ensures.wrote in
    rw (p.1, p.2) (next_failed (Unit {0}) c.args.plan.now c.args.audio.now c.args.number c.args.writer.now c.write_chosen.new.writer w.0 _ w.1 w.2)

pub returns-clause-wrote : goal.returns-clause-wrote
returns-clause-wrote g c =
    let w = c.in_ok-write_chosen.ensures.wrote in
    next_written c.args.plan.now c.args.audio.now c.args.number c.args.writer.now c.write_chosen.new.writer c.finish.new.self w.0 c.finish.result w.1 c.requires.whole w.2 c.finish.ensures.writes c.finish.ensures.whole
