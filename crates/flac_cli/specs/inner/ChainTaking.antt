-- For proofs: what a sink of the samples of several streams makes of an item.
use Rattle.std.specs.Prelude.{◌≡◌, ℕ, ◌+◌, None}
use Rattle.flac_bits.specs.declared.target.Target as target
use Rattle.flac_native.specs.Item.{Item}
use Rattle.flac_cli.specs.inner.ChainSamples.{FormatAfter, TakesSamples}
use Rattle.flac_cli.specs.declared.chain_samples.ChainWriter.{ChainWriter}

pub record TakesInChain {T : Type 0} (h : target.Ghosts T) (old : ChainWriter T h) (item : Item) (new : ChainWriter T h) : Type 0 where
  pub writer : TakesSamples h old.writer item new.writer
  pub format : FormatAfter old.format item new.format
  pub others : new.others ≡ old.others
  pub failures : new.writer.failures.count ≡ old.writer.failures.count

-- it has seen no stream
pub record IsFresh {T : Type 0} {h : target.Ghosts T} (s : ChainWriter T h) : Type 0 where
  pub asked : s.writer.asked ≡ 0
  pub depth : s.writer.depth ≡ 0
  pub format : s.format ≡ None
  pub others : s.others ≡ 0
  pub failures : s.writer.failures.count ≡ 0

-- how often it failed
abbrev pub failures_of : {T : Type 0} {h : target.Ghosts T} → ChainWriter T h → ℕ
failures_of s = s.others + s.writer.failures.count
