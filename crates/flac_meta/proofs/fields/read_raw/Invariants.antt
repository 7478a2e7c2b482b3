use Rattle.std.proofs.Common.{◌≡◌, ◌≤◌, ◌-◌, length}
use Rattle.flac_bits.specs.Layout.{bits, run, and_then}
use Rattle.flac_bits.specs.Lists.{list_of, after}
use Rattle.flac_bits.specs.inner.Reading.{Goes}
use Rattle.flac_meta.proofs.fields.read_raw.Given as goal

abbrev pub invariant-loop-i : goal.invariant-loop-i
invariant-loop-i g l = (length l.bytes.items ≡ l.i) × (l.bits.most ≤ l.initial.bits.most) × Goes l.initial.bits l.bits (and_then (run (list_of (l.size - l.i) (bits 8)) l.bits.cursor) (after l.bytes.items)) (run (list_of l.size (bits 8)) l.initial.bits.cursor)
