use Rattle.std.proofs.Common.{ℕ, ◌≤◌, ◌<◌, length, take, get_or, ◌-◌, pos}
use Rattle.flac_bits.specs.Layout.{run, and_then}
use Rattle.flac_bits.specs.Lists.{list_of, after}
use Rattle.flac_bits.specs.inner.Reading.{Goes, Draws}
use Rattle.flac_bits.specs.Reading.{HeldEnds}
use Rattle.flac_bits.specs.Rice.{rice_value}
use Rattle.flac_bits.specs.Rice.{IsResidual}
use Rattle.flac_bits.proofs.reader.BitReader.rice_partition.Given as goal

abbrev pub invariant-loop-i : goal.invariant-loop-i
invariant-loop-i g l = record {
  goes : Goes l.initial.self l.self (and_then (run (list_of (length l.initial.values - l.i) (rice_value l.k)) l.self.cursor) (after (take l.i l.values))) (run (list_of (length l.initial.values) (rice_value l.k)) l.initial.self.cursor);
  drawn : Draws l.initial.self l.self (HeldEnds (list_of (length l.initial.values - l.i) (rice_value l.k)) l.self) (HeldEnds (list_of (length l.initial.values) (rice_value l.k)) l.initial.self);
  fits : (j : ℕ) → j < l.i → IsResidual (get_or l.values j (pos 0));
  spent : l.self.most ≤ l.initial.self.most;
}

abbrev pub decreases-loop-i : goal.decreases-loop-i
decreases-loop-i g l = length l.initial.values - l.i
