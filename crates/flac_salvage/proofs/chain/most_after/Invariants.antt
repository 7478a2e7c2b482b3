use Rattle.std.proofs.Common.{◌≡◌, ◌≤◌, ◌<◌, ◌++◌, ℕ, length, drop, max}
use Rattle.flac_salvage.specs.Chain.{chain, samples_of, Rise}
use Rattle.flac_salvage.specs.inner.Values.{AreMost}
use Rattle.flac_salvage.proofs.chain.most_after.Given as goal

abbrev pub invariant-loop-j : goal.invariant-loop-j
invariant-loop-j l = max l.top (samples_of (chain l.limit l.from (drop l.j l.frames))) ≡ samples_of (chain l.limit l.from (drop l.begin l.frames))
