use Rattle.std.proofs.lemmas.Result.{err_from_is_err_and}
use Rattle.flac_frame.specs.Chosen.{forms_by_plane}
use Rattle.flac_frame.specs.Encoding.{block_of}
use Rattle.flac_frame.specs.PlaneLists.{lists_of, lists_kept}
use Rattle.flac_frame.specs.Spelling.{subframes_spelling}
use Rattle.flac_frame.specs.Stereo.{kept_as}
use Rattle.flac_frame.proofs.Encoded.{failed}
use Rattle.flac_frame.proofs.Wholes.{header_stops, parts_stop, ends}
use Rattle.flac_frame.proofs.Written.{frame_written}
use Rattle.flac_frame.proofs.encode.write_first.Goals as goal

pub header-header-requires-clause-chosen : goal.header-header-requires-clause-chosen
header-header-requires-clause-chosen g c = (c.requires.chosen.form.header, c.requires.chosen.header)

pub returns-in_err-write_header-clause-wrote : goal.returns-in_err-write_header-clause-wrote
returns-in_err-write_header-clause-wrote g c =
    let p = err_from_is_err_and c.from_residual.result c.from_residual.ensures.1 in
    let s = c.args.subject.now in
    let a = s.audio.now in
    let text = subframes_spelling a.bits c.args.choice.now.code 0 (forms_by_plane (lists_kept c.args.choice.now.code (lists_of s.predictors.now)) c.args.choice.now.subframes.items (kept_as c.args.choice.now.code (block_of s.start s.size a.channels))) in
    rw (p.1, p.2) (frame_written (lists_of s.predictors.now) a s.size s.number (block_of s.start s.size a.channels) c.args.choice.now c.requires.chosen c.header-header.result c.header-header.ensures c.args.writer.now c.write_header.new.writer (failed c.in_err-write_header.field-0.0) c.requires.whole
    (header_stops c.header-header.result text c.args.writer.now c.write_header.new.writer _ c.in_err-write_header.ensures))

pub returns-in_err-write_subframes-clause-wrote : goal.returns-in_err-write_subframes-clause-wrote
returns-in_err-write_subframes-clause-wrote g c =
    let p = err_from_is_err_and c.from_residual-in_err-write_subframes.result c.from_residual-in_err-write_subframes.ensures.1 in
    let s = c.args.subject.now in
    let a = s.audio.now in
    let text = subframes_spelling a.bits c.args.choice.now.code 0 (forms_by_plane (lists_kept c.args.choice.now.code (lists_of s.predictors.now)) c.args.choice.now.subframes.items (kept_as c.args.choice.now.code (block_of s.start s.size a.channels))) in
    rw (p.1, p.2) (frame_written (lists_of s.predictors.now) a s.size s.number (block_of s.start s.size a.channels) c.args.choice.now c.requires.chosen c.header-header.result c.header-header.ensures c.args.writer.now c.write_subframes.new.writer (failed c.in_err-write_subframes.field-0.0) c.requires.whole
    (parts_stop c.header-header.result text c.args.writer.now c.write_header.new.writer c.write_subframes.new.writer _ c.in_ok-write_header.ensures c.in_err-write_subframes.ensures.text))

pub returns-clause-wrote : goal.returns-clause-wrote
returns-clause-wrote g c =
    let s = c.args.subject.now in
    let a = s.audio.now in
    let text = subframes_spelling a.bits c.args.choice.now.code 0 (forms_by_plane (lists_kept c.args.choice.now.code (lists_of s.predictors.now)) c.args.choice.now.subframes.items (kept_as c.args.choice.now.code (block_of s.start s.size a.channels))) in
    frame_written (lists_of s.predictors.now) a s.size s.number (block_of s.start s.size a.channels) c.args.choice.now c.requires.chosen c.header-header.result c.header-header.ensures c.args.writer.now c.write_end.new.writer c.write_end.result c.requires.whole
    (ends c.header-header.result text c.args.writer.now c.write_header.new.writer c.write_subframes.new.writer c.write_end.new.writer c.write_end.result c.in_ok-write_header.ensures c.in_ok-write_subframes.ensures.text c.write_end.ensures)
