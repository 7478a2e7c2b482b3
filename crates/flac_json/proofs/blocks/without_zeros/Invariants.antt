use Rattle.std.proofs.Common.{◌≤◌, length}
use Rattle.flac_json.proofs.Zeros.{Trims}
use Rattle.flac_json.proofs.blocks.without_zeros.Given as goal

abbrev pub invariant-loop-end : goal.invariant-loop-end
invariant-loop-end l = record {
  within : l.end ≤ length l.bytes;
  trims : Trims l.bytes l.end;
}

abbrev pub decreases-loop-end : goal.decreases-loop-end
decreases-loop-end l = l.end
