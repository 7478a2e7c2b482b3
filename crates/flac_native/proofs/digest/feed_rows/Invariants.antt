use Rattle.std.proofs.Common.{◌≤◌, ◌-◌, ◌++◌, ℕ, List}
use Rattle.flac_native.specs.Message.{rows_bytes}
use Rattle.md5.specs.Md5.{Holds}
use Rattle.flac_native.proofs.digest.feed_rows.Given as goal

abbrev pub invariant-loop-fed : goal.invariant-loop-fed
invariant-loop-fed g l = record {
  within : l.fed ≤ l.len;
  fed : (m : List ℕ) → Holds l.initial.hasher m → Holds l.hasher (m ++ rows_bytes l.width (g.C.Channels.lists l.samples) l.fed l.start);
}

abbrev pub decreases-loop-fed : goal.decreases-loop-fed
decreases-loop-fed g l = l.len - l.fed
