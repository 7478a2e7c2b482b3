use Rattle.std.proofs.Common.{◌≡◌, ◌++◌, drop, flat_map}
use Rattle.flac_cue.specs.Text.{lead_out_line}
use Rattle.flac_cue.proofs.text.push_lead_outs.Given as goal

abbrev pub invariant-loop-track : goal.invariant-loop-track
invariant-loop-track l = l.text.items ++ flat_map lead_out_line (drop l.track-index l.tracks) ≡ l.fn.text.items ++ flat_map lead_out_line l.tracks
