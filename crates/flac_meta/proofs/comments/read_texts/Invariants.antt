use Rattle.std.proofs.Common.{◌≤◌, ◌-◌}
use Rattle.flac_bits.specs.Layout.{run, and_then}
use Rattle.flac_bits.specs.Lists.{after}
use Rattle.flac_bits.specs.inner.Reading.{Goes}
use Rattle.flac_meta.specs.Comments.{texts}
use Rattle.flac_meta.proofs.comments.read_texts.Given as goal

abbrev pub invariant-loop-i : goal.invariant-loop-i
invariant-loop-i g l = (l.left ≤ l.initial.left) × (l.bits.most ≤ l.initial.bits.most) × Goes l.initial.bits l.bits (and_then (run (texts (l.count - l.i) l.left) l.bits.cursor) (after l.list.items)) (run (texts l.count l.initial.left) l.initial.bits.cursor)
