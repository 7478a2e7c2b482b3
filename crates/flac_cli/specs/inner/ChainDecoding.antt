-- For proofs: what a decoding of several streams to raw samples has done.
use Rattle.std.specs.Prelude.{◌≡◌, ◌≢◌, true, List, ◌++◌, Some, OnOk, IfErr}
use Rattle.flac_bits.specs.declared.source.Source as source
use Rattle.flac_bits.specs.declared.target.Target as target
use Rattle.flac_bits.specs.declared.why.Why.TheVariants as why
use Rattle.flac_header.specs.declared.subset.Profile.{Profile}
use Rattle.flac_cli.specs.ChainFormats.{AreOfOneFormat}
use Rattle.flac_cli.specs.Chains.{ReadsAsChain, IsChainOf}
use Rattle.flac_cli.specs.Samples.{all_samples}
use Rattle.flac_cli.specs.Streams.{Tells}
use Rattle.flac_cli.specs.declared.chain_samples.ChainSamples.{ChainSamples}
use Rattle.flac_cli.specs.declared.chain_samples.Failing.TheVariants.{Nothing}

abbrev pub SendsAll : {S T : Type 0} (g : source.Ghosts S) (h : target.Ghosts T) → Profile → (from : S) → (old new : T) → ChainSamples S → Type 0
SendsAll g h profile from old new read =
    Tells g from read.source → OnOk read.outcome (IsChainOf g profile from (λ parts. AreOfOneFormat parts × (h.known old ≡ true → h.sent new ≡ h.sent old ++ all_samples 0 parts)))

abbrev pub RefusesAll : {S : Type 0} (g : source.Ghosts S) → Profile → (from : S) → ChainSamples S → Type 0
RefusesAll g profile from read =
    Tells g from read.source → read.failing ≡ Nothing → IfErr read.outcome (λ f. f.fault.why ≢ why.Memory → ReadsAsChain profile (g.coming from) (Some f))
