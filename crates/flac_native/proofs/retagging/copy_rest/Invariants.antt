use Rattle.std.proofs.Common.{◌≡◌, ◌++◌, true, Bool, List, length}
use Rattle.flac_bits.specs.Bits.{bits_of}
use Rattle.flac_bits.proofs.Handing.{Went}
use Rattle.flac_native.proofs.retagging.copy_rest.Given as goal

abbrev pub invariant-loop-count : goal.invariant-loop-count
invariant-loop-count g l = record {
  whole : l.reader.cursor.mark.unread ≡ 0;
  room : length l.piece ≡ 4096;
  went : Went l.initial.reader l.reader;
  known : g.W.Target.known l.initial.target ≡ true → g.W.Target.known l.target ≡ true;
  errors : g.W.Target.errors l.target ≡ g.W.Target.errors l.initial.target;
  names : g.W.Target.names l.target ≡ g.W.Target.names l.initial.target;
  copied : l.initial.reader.known ≡ true → g.W.Target.known l.initial.target ≡ true
      → (front : List Bool) × (bits_of (g.W.Target.sent l.target) ≡ bits_of (g.W.Target.sent l.initial.target) ++ front) × (front ++ l.reader.cursor.left ≡ l.initial.reader.cursor.left);
}

abbrev pub decreases-loop-count : goal.decreases-loop-count
decreases-loop-count g l = l.reader.most
