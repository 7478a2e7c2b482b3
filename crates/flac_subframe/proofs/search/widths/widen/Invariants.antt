use Rattle.std.proofs.Common.{◌^◌, ◌≤◌}
use Rattle.flac_subframe.proofs.lemmas.search.Greater.{WidthsFrom}
use Rattle.flac_subframe.proofs.search.widths.widen.Given as goal

abbrev pub invariant-loop-at : goal.invariant-loop-at
invariant-loop-at l = record {
  within : l.at ≤ 2 ^ l.residual.partition_order;
  some : 1 ≤ l.at;
  widths : WidthsFrom l.residual.order l.residual.values.now l.residual.partition_order l.at l.widths;
}

abbrev pub decreases-loop-at : goal.decreases-loop-at
decreases-loop-at l = l.at
