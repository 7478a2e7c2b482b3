use Rattle.std.proofs.Common.{◌≡◌, ◌≤◌, ◌<◌, ◌++◌, ℕ, length, drop, max}
use Rattle.flac_salvage.specs.Chain.{chain, samples_of, Rise}
use Rattle.flac_salvage.specs.inner.Values.{AreMost}
use Rattle.flac_salvage.proofs.chain.all_rise.Given as goal

abbrev pub invariant-loop-frame : goal.invariant-loop-frame
invariant-loop-frame l = Rise l.limit l.from (drop l.frame-index l.frames) → Rise l.limit 0 l.frames
