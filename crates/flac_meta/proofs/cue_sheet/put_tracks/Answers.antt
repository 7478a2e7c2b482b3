use Rattle.std.proofs.Common.{◌+◌, drop}
use Rattle.std.proofs.lemmas.Result.{err_from_is_err_and}
use Rattle.flac_bits.proofs.Writing.{towards_more, towards_end, towards_fail}
use Rattle.flac_meta.specs.Spelling as s
use Rattle.flac_meta.proofs.Steps.{each_step, each_end}
use Rattle.flac_meta.proofs.Lengths as lengths
use Rattle.flac_meta.proofs.cue_sheet.put_tracks.Goals as goal

pub returns-in_err-put_track : goal.returns-in_err-put_track
returns-in_err-put_track g c =
    let p = err_from_is_err_and c.from_residual.result c.from_residual.ensures.1 in
    let xs = c.args.tracks.now in
    let i = c.loop-track.track-index in
    rw (p.1, p.2) (towards_fail (s.track_spelling c.track-item.result) (s.each_spelled s.track_spelling (drop (i + 1) xs)) (each_step s.track_spelling xs i c.track-item.result c.loop-track-test.true c.track-item.is) c.loop-track.invariant.1 c.in_err-put_track.ensures)

pub loop-track-preserved : goal.loop-track-preserved
loop-track-preserved g c =
    let xs = c.args.tracks.now in
    let i = c.loop-track.track-index in
    ((lengths.tracks_step xs i c.track-item.result c.loop-track-test.true c.track-item.is c.loop-track.invariant.0).1, towards_more (s.each_spelled s.track_spelling (drop (i + 1) xs)) (each_step s.track_spelling xs i c.track-item.result c.loop-track-test.true c.track-item.is) c.loop-track.invariant.1 c.in_ok-put_track.ensures)

pub returns : goal.returns
returns g c = towards_end (each_end s.track_spelling c.args.tracks.now c.loop-track.track-index c.loop-track-test.false) c.loop-track.invariant.1
