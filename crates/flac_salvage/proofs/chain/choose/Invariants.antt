use Rattle.std.proofs.Common.{◌≡◌, ◌≤◌, ◌<◌, ◌++◌, ℕ, length, drop, max}
use Rattle.flac_salvage.specs.Chain.{chain, samples_of, Rise}
use Rattle.flac_salvage.specs.inner.Values.{AreMost}
use Rattle.flac_salvage.proofs.chain.choose.Given as goal

abbrev pub invariant-loop-index : goal.invariant-loop-index
invariant-loop-index l = record {
  kept : l.kept.items ++ chain l.limit l.from (drop l.index l.frames) ≡ chain l.limit 0 l.frames;
  left : l.left ≡ samples_of (chain l.limit l.from (drop l.index l.frames));
}
