use Rattle.std.proofs.Common.{◌≡◌, ◌++◌, drop, flat_map}
use Rattle.flac_cue.specs.Text.{track_text}
use Rattle.flac_cue.proofs.text.push_tracks.Given as goal

abbrev pub invariant-loop-track : goal.invariant-loop-track
invariant-loop-track l = l.text.items ++ flat_map (track_text l.cd) (drop l.track-index l.tracks) ≡ l.fn.text.items ++ flat_map (track_text l.cd) l.tracks
