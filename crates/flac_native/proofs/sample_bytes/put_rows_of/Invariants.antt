use Rattle.std.proofs.Common.{◌≡◌, ◌≤◌, ◌*◌, take}
use Rattle.flac_native.specs.Message.{rows_bytes}
use Rattle.flac_native.proofs.sample_bytes.put_rows_of.Given as goal

abbrev pub invariant-loop-i : goal.invariant-loop-i
invariant-loop-i g l = record {
  end : l.at ≤ 32 * l.i;
  bytes : take l.at l.out ≡ rows_bytes l.width (g.C.Channels.lists l.samples) l.i l.start;
}
