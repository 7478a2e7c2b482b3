use Rattle.std.proofs.Common.{◌∙◌, ◌+◌, ◌/◌, ◌^◌, ◌-◌, ap, sym, subst, refl, length}
use Rattle.std.specs.Prelude.{max, min}
use Rattle.flac_cli.specs.inner.WaveSurvey.{HasDepth}
use Rattle.flac_cli.proofs.Surveys.{found_more, depth_both}
use Rattle.flac_cli.proofs.Waved.{are_wave_bytes}
use Rattle.flac_cli.proofs.wave_survey.with_piece.Goals as goal

pub returns-clause-room : goal.returns-clause-room
returns-clause-room c =
    let f = c.args.format.now in
    let deep = c.max.ensures ∙ ap (max c.args.found.depth) c.depth_of.ensures in
    subst (HasDepth f) (sym deep) (depth_both f c.requires.range c.args.found.depth c.args.piece.now c.requires.room)

pub returns-clause-more : goal.returns-clause-more
returns-clause-more c = λ bytes rows long is.
    let f = c.args.format.now in
    let piece = c.args.piece.now in
    let old = c.args.found in
    found_more f c.requires.range bytes piece rows old _ long c.requires.whole (are_wave_bytes piece c.bytes_fit.ensures) is
    (c.max.ensures ∙ ap (max old.depth) c.depth_of.ensures) (c.saturating_add.ensures ∙ ap (λ r. min (old.total + length piece / r) (2 ^ 64 - 1)) c.row.ensures) refl refl
