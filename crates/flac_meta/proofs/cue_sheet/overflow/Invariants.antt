use Rattle.std.proofs.Common.{◌≡◌, drop}
use Rattle.flac_meta.specs.Listed.{overflows}
use Rattle.flac_meta.proofs.cue_sheet.overflow.Given as goal

abbrev pub invariant-loop-track : goal.invariant-loop-track
invariant-loop-track l = overflows (drop l.track-index l.tracks) ≡ overflows l.tracks
