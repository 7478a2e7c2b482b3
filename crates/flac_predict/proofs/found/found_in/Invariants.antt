use Rattle.std.proofs.Common.{◌≡◌, length}
use Rattle.flac_frame.specs.Encoding.{order_limit}
use Rattle.flac_native.specs.Given.{frame_lists, AreFoundWithin}
use Rattle.flac_predict.specs.Found.{AllBegin}
use Rattle.flac_predict.proofs.found.found_in.Given as goal

abbrev pub invariant-loop-number : goal.invariant-loop-number
invariant-loop-number l = record {
  room : l.finder ≡ l.block_size;
  many : length l.frames.items ≡ l.number;
  begins : AllBegin l.given (frame_lists l.frames.items);
  orders : AreFoundWithin (order_limit l.audio) (frame_lists l.frames.items);
}
