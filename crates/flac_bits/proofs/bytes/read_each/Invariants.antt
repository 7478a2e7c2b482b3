use Rattle.std.proofs.Common.{length, take, ◌-◌, ◌+◌, ◌*◌, ◌≤◌}
use Rattle.flac_bits.specs.Layout.{bits, run, and_then}
use Rattle.flac_bits.specs.Lists.{list_of, after}
use Rattle.flac_bits.specs.inner.Reading.{Goes}
use Rattle.flac_bits.proofs.bytes.read_each.Given as goal

abbrev pub invariant-loop-i : goal.invariant-loop-i
invariant-loop-i g l = record {
  held : l.initial.bits.held ≤ l.bits.held + 8 * l.i;
  spent : l.bits.most + 8 * l.i ≤ l.initial.bits.most;
  goes : Goes l.initial.bits l.bits (and_then (run (list_of (length l.initial.out - l.i) (bits 8)) l.bits.cursor) (after (take l.i l.out))) (run (list_of (length l.initial.out) (bits 8)) l.initial.bits.cursor);
}
