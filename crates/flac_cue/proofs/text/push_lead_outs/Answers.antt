use Rattle.std.proofs.Common.{◌∙◌, ap, ◌++◌}
use Rattle.flac_cue.specs.Text.{lead_out_line}
use Rattle.flac_cue.proofs.Pushed.{piece_pushed}
use Rattle.flac_cue.proofs.text.push_lead_outs.Goals as goal

pub loop-track-preserved : goal.loop-track-preserved
loop-track-preserved c =
    piece_pushed lead_out_line c.args.tracks.now c.loop-track.track-index c.track-item.result c.loop-track.text.items c.push_lead_out.new.text.items _ c.loop-track-test.true c.loop-track.invariant
    (c.in_ok-push_lead_out.ensures ∙ ap (λ t. c.loop-track.text.items ++ lead_out_line t) c.track-item.is)
