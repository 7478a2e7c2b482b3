use Rattle.std.proofs.Common.{ℕ, ◌≤◌, ◌<◌, length, take, get_or, ◌-◌, ◌+◌, ◌*◌, pos}
use Rattle.flac_bits.specs.Layout.{run, and_then}
use Rattle.flac_bits.specs.Lists.{list_of, after}
use Rattle.flac_bits.specs.inner.Reading.{Goes}
use Rattle.flac_bits.specs.Signed.{signed_field}
use Rattle.flac_bits.specs.Signed.{FitsBits}
use Rattle.flac_bits.proofs.reader.BitReader.signed_partition.Given as goal

abbrev pub invariant-loop-i : goal.invariant-loop-i
invariant-loop-i g l = record {
  goes : Goes l.initial.self l.self (and_then (run (list_of (length l.initial.values - l.i) (signed_field l.n)) l.self.cursor) (after (take l.i l.values))) (run (list_of (length l.initial.values) (signed_field l.n)) l.initial.self.cursor);
  fits : (j : ℕ) → j < l.i → FitsBits l.n (get_or l.values j (pos 0));
  held : l.initial.self.held ≤ l.self.held + l.n * l.i;
  spent : l.self.most ≤ l.initial.self.most;
}
