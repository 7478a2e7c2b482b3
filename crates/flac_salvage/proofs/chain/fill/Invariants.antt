use Rattle.std.proofs.Common.{◌≡◌, ◌≤◌, ◌<◌, ◌++◌, ℕ, length, drop, max}
use Rattle.flac_salvage.specs.Chain.{chain, samples_of, Rise}
use Rattle.flac_salvage.specs.inner.Values.{AreMost}
use Rattle.flac_salvage.proofs.chain.fill.Given as goal

abbrev pub invariant-back : goal.invariant-back
invariant-back l = record {
  within : l.index ≤ length l.frames;
  same : length l.most ≡ length l.frames;
  known : AreMost l.limit l.frames l.index l.most;
  any : l.any ≡ samples_of (chain l.limit 0 (drop l.index l.frames));
}

abbrev pub decreases-back : goal.decreases-back
decreases-back l = l.index
