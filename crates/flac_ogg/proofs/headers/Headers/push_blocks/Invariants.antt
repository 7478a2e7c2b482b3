use Rattle.std.proofs.Common.{◌≡◌, ◌≤◌, ◌∷◌, [], Bool, List, length, take}
use Rattle.flac_ogg.specs.Headers.{AreHeaders}
use Rattle.flac_ogg.specs.Native.{block_spellings}
use Rattle.flac_ogg.proofs.headers.Headers.push_blocks.Given as goal

abbrev pub invariant-loop-i : goal.invariant-loop-i
invariant-loop-i l = record {
  few : l.i ≤ length l.blocks;
  put : (first : List Bool) → AreHeaders (first ∷ []) l.initial.self → AreHeaders (first ∷ take l.i (block_spellings l.blocks)) l.self;
  serial : l.self.serial ≡ l.initial.self.serial;
}
