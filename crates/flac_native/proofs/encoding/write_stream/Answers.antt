use Rattle.std.proofs.Common.{◌++◌, subst, sym}
use Rattle.std.proofs.lemmas.Result.{err_from_is_err_and}
use Rattle.flac_bits.specs.Forms.{joined}
use Rattle.flac_native.specs.Seeking.{table_of}
use Rattle.flac_native.specs.Writing.{head_spelling, AreChoices}
use Rattle.flac_native.proofs.WholeBytes.{head_whole}
use Rattle.flac_native.proofs.WrittenFrames.{have_frames, on_added, on_failed, on_then, on_fault, on_sent, fault_sent}
use Rattle.flac_native.proofs.encoding.write_stream.Goals as goal

pub write_frames-requires-clause-choices : goal.write_frames-requires-clause-choices
write_frames-requires-clause-choices g c = subst (AreChoices c.args.plan.now c.args.audio.now) (sym c.as_slice.ensures.value) c.requires.choices

pub write_frames-requires-clause-frames : goal.write_frames-requires-clause-frames
write_frames-requires-clause-frames g c = have_frames c.args.plan.now c.args.audio.now _ _ _ c.requires.counted

pub write_frames-requires-clause-whole : goal.write_frames-requires-clause-whole
write_frames-requires-clause-whole g c =
    let list = c.args.list.now ++ table_of c.args.frames.points.items in
    (on_added (head_spelling c.info-info.result list) c.args.writer.now c.write_head.new.writer c.requires.whole (head_whole c.info-info.result list).bytes c.in_ok-write_head.ensures).whole

pub returns-in_err-write_head : goal.returns-in_err-write_head
returns-in_err-write_head g c =
    let p = err_from_is_err_and c.from_residual.result c.from_residual.ensures.1 in
    let have = c.requires.counted in
    let list = c.args.list.now ++ table_of c.args.frames.points.items in
    rw (p.1, p.2, ← c.info-info.ensures) (
      have.frames,
      have.are,
      have.are_least,
      fault_sent (on_fault (joined have.frames) (on_failed (head_spelling c.info-info.result list) c.args.writer.now c.write_head.new.writer _ c.in_err-write_head.ensures)),
    )

pub returns-in_err-write_frames : goal.returns-in_err-write_frames
returns-in_err-write_frames g c =
    let p = err_from_is_err_and c.from_residual-in_err-write_frames.result c.from_residual-in_err-write_frames.ensures.1 in
    let list = c.args.list.now ++ table_of c.args.frames.points.items in
    let head = on_added (head_spelling c.info-info.result list) c.args.writer.now c.write_head.new.writer c.requires.whole (head_whole c.info-info.result list).bytes c.in_ok-write_head.ensures in
    let w = c.in_err-write_frames.ensures in
    rw (p.1, p.2, ← c.info-info.ensures) (w.0, w.1, w.2, fault_sent (on_then _ head w.3))

pub returns : goal.returns
returns g c =
    let list = c.args.list.now ++ table_of c.args.frames.points.items in
    let head = on_added (head_spelling c.info-info.result list) c.args.writer.now c.write_head.new.writer c.requires.whole (head_whole c.info-info.result list).bytes c.in_ok-write_head.ensures in
    let w = c.in_ok-write_frames.ensures in
    rw (← c.info-info.ensures) (w.0, w.1, w.2, on_sent c.finish.new.self c.finish.result (on_then _ head w.3) c.finish.ensures.writes c.finish.ensures.whole)
