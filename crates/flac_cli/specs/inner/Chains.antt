-- For proofs: what was read of streams one after another.
use Rattle.std.specs.Prelude.{◌≡◌, ◌≢◌, List, Option, Some, IfOk, IfErr}
use Rattle.flac_bits.specs.declared.source.Source as source
use Rattle.flac_bits.specs.declared.why.Why.TheVariants as why
use Rattle.flac_header.specs.declared.subset.Profile.{Profile}
use Rattle.flac_cli.specs.Chains.{IsChainOf, ReadsAsChain}
use Rattle.flac_cli.specs.Streams.{Tells}
use Rattle.flac_cli.specs.inner.Taking.{HasCounted}
use Rattle.flac_cli.specs.declared.chain.ChainCounts.{ChainCounts}

-- at Ok they are a chain, and these are its counts
abbrev pub CountsChain : {S : Type 0} (g : source.Ghosts S) → Profile → (from : S) → ChainCounts S → Type 0
CountsChain g profile from read = Tells g from read.source → IfOk read.outcome (λ c. IsChainOf g profile from (HasCounted c))

-- at Err they are refused, unless memory ran out
abbrev pub RefusesCounts : {S : Type 0} (g : source.Ghosts S) → Profile → (from : S) → ChainCounts S → Type 0
RefusesCounts g profile from read = Tells g from read.source → IfErr read.outcome (λ f. f.fault.why ≢ why.Memory → ReadsAsChain profile (g.coming from) (Some f))
