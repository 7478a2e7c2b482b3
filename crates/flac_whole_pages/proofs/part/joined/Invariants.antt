use Rattle.std.proofs.Common.{◌≡◌, ◌++◌, length, drop}
use Rattle.flac_whole_pages.specs.Parts.{joined, AreInside}
use Rattle.flac_whole_pages.proofs.part.joined.Given as goal

abbrev pub invariant-loop-part : goal.invariant-loop-part
invariant-loop-part l = record {
  so_far : l.left.items ++ joined l.bytes (drop l.part-index l.parts) ≡ joined l.bytes l.parts;
  inside : AreInside (length l.bytes) (drop l.part-index l.parts);
}
