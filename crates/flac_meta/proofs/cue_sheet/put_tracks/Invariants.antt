use Rattle.std.proofs.Common.{◌≡◌, false, drop}
use Rattle.flac_bits.proofs.Writing.{Towards}
use Rattle.flac_meta.specs.Spelling as s
use Rattle.flac_meta.specs.Listed.{overflows}
use Rattle.flac_meta.proofs.cue_sheet.put_tracks.Given as goal

abbrev pub invariant-loop-track : goal.invariant-loop-track
invariant-loop-track g l = (overflows (drop l.track-index l.tracks) ≡ false) × Towards (s.each_spelled s.track_spelling (drop l.track-index l.tracks)) (s.each_spelled s.track_spelling l.tracks) l.initial.writer l.writer
