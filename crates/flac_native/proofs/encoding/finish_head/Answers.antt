use Rattle.std.proofs.Common.{◌++◌}
use Rattle.std.proofs.lemmas.Result.{err_from_is_err_and}
use Rattle.flac_native.specs.Seeking.{table_of}
use Rattle.flac_native.specs.Writing.{head_spelling}
use Rattle.flac_native.proofs.WholeBytes.{head_whole}
use Rattle.flac_native.proofs.WrittenFrames.{on_added, on_failed, on_sent, fault_sent}
use Rattle.flac_native.proofs.encoding.finish_head.Goals as goal

pub returns-in_err-write_head : goal.returns-in_err-write_head
returns-in_err-write_head g c =
    let p = err_from_is_err_and c.from_residual.result c.from_residual.ensures.1 in
    let list = c.args.list.now ++ table_of c.args.points.items in
    rw (p.1, p.2) (fault_sent (on_failed (head_spelling c.args.info list) c.args.writer.now c.write_head.new.writer _ c.in_err-write_head.ensures))

pub returns : goal.returns
returns g c =
    let list = c.args.list.now ++ table_of c.args.points.items in
    on_sent c.finish.new.self c.finish.result (on_added (head_spelling c.args.info list) c.args.writer.now c.write_head.new.writer c.requires.whole (head_whole c.args.info list).bytes c.in_ok-write_head.ensures) c.finish.ensures.writes c.finish.ensures.whole
