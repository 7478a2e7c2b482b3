use Rattle.std.proofs.Common.{◌≡◌, ◌≤◌, ◌+◌, min, drop}
use Rattle.flac_meta.specs.Spelling.{tracks_length}
use Rattle.flac_meta.proofs.cue_sheet.tracks_after.Given as goal

abbrev pub invariant-loop-track : goal.invariant-loop-track
invariant-loop-track l = (l.total ≤ 16777216) × (min (l.total + tracks_length (drop l.track-index l.tracks)) 16777216 ≡ min (l.before + tracks_length l.tracks) 16777216)
