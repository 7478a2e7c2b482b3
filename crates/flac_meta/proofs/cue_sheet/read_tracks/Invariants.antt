use Rattle.std.proofs.Common.{◌≤◌, ◌-◌}
use Rattle.flac_bits.specs.Layout.{run, and_then}
use Rattle.flac_bits.specs.Lists.{after}
use Rattle.flac_bits.specs.inner.Reading.{Goes}
use Rattle.flac_meta.specs.CueSheet.{cue_tracks}
use Rattle.flac_meta.proofs.cue_sheet.read_tracks.Given as goal

abbrev pub invariant-loop-i : goal.invariant-loop-i
invariant-loop-i g l = (l.left ≤ l.initial.left) × (l.bits.most ≤ l.initial.bits.most) × Goes l.initial.bits l.bits (and_then (run (cue_tracks (l.count - l.i) l.left) l.bits.cursor) (after l.tracks.items)) (run (cue_tracks l.count l.initial.left) l.initial.bits.cursor)
