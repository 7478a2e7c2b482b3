use Rattle.std.proofs.Common.{◌≡◌, ◌≤◌, ◌+◌, ◌*◌, ◌++◌, take}
use Rattle.flac_native.specs.Message.{row_bytes}
use Rattle.flac_native.proofs.sample_bytes.put_row.Given as goal

abbrev pub invariant-loop-i : goal.invariant-loop-i
invariant-loop-i g l = record {
  end : l.place ≤ l.at + 4 * l.i;
  bytes : take l.place l.out ≡ take l.at l.initial.out ++ row_bytes l.width (take l.i (g.C.Channels.lists l.samples)) l.index;
}
