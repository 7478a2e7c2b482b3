use Rattle.std.proofs.Common.{◌≡◌, length, All}
use Rattle.flac_native.specs.Given.{plane_lists}
use Rattle.flac_predict.specs.Found.{IsFoundAfter}
use Rattle.flac_predict.proofs.finder.pair_lists.Given as goal

abbrev pub invariant-loop-plane : goal.invariant-loop-plane
invariant-loop-plane l = record {
  after : All (IsFoundAfter l.given) (plane_lists l.lists.items);
  many : length l.lists.items ≡ l.plane;
}
