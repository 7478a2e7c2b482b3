use Rattle.std.proofs.Common.{◌≡◌, length, All}
use Rattle.flac_native.specs.Given.{plane_lists}
use Rattle.flac_predict.specs.Found.{IsFoundAfter}
use Rattle.flac_predict.proofs.finder.Finder.lists.Given as goal

abbrev pub invariant-loop-channel : goal.invariant-loop-channel
invariant-loop-channel l = record {
  after : All (IsFoundAfter l.given) (plane_lists l.lists.items);
  many : length l.lists.items ≡ l.channel;
  room : l.self ≡ l.fn.self;
}
