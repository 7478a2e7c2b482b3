use Rattle.std.proofs.Common.{◌≡◌, ◌≤◌, ◌*◌, take}
use Rattle.flac_native.specs.Message.{rows_bytes}
use Rattle.flac_native.proofs.sample_bytes.put_pairs.Given as goal

abbrev pub invariant-loop-i : goal.invariant-loop-i
invariant-loop-i g l = take (24 * l.i) l.out ≡ rows_bytes 3 (g.C.Channels.lists l.samples) (4 * l.i) l.start

abbrev pub invariant-loop-i-2 : goal.invariant-loop-i-2
invariant-loop-i-2 g l = record {
  end : l.at ≤ 32 * l.i;
  bytes : take l.at l.out ≡ rows_bytes 3 (g.C.Channels.lists l.samples) l.i l.start;
}
