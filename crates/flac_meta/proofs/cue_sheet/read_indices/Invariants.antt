use Rattle.std.proofs.Common.{◌≡◌, ◌≤◌, ◌-◌, length}
use Rattle.flac_bits.specs.Layout.{run, and_then}
use Rattle.flac_bits.specs.Lists.{list_of, after}
use Rattle.flac_bits.specs.inner.Reading.{Goes}
use Rattle.flac_meta.specs.CueSheet.{cue_index}
use Rattle.flac_meta.proofs.cue_sheet.read_indices.Given as goal

abbrev pub invariant-loop-i : goal.invariant-loop-i
invariant-loop-i g l = (length l.items.items ≡ l.i) × (l.bits.most ≤ l.initial.bits.most) × Goes l.initial.bits l.bits (and_then (run (list_of (l.count - l.i) cue_index) l.bits.cursor) (after l.items.items)) (run (list_of l.count cue_index) l.initial.bits.cursor)
