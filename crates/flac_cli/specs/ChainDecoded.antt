-- Decoding Ogg streams one after another to raw samples: what is written, and what is reported.
use Rattle.std.specs.Prelude.{◌≡◌, ◌⊎◌, ℕ, List, ◌++◌, codes, Some, None}
use Rattle.flac_bits.specs.declared.source.Source as source
use Rattle.flac_bits.specs.declared.target.Target as target
use Rattle.flac_bits.specs.declared.why.Why.TheVariants as why
use Rattle.flac_header.specs.declared.subset.Profile.{Profile}
use Rattle.flac_chain.specs.declared.chain.ChainFault.{ChainFault}
use Rattle.flac_cli.specs.Calls.{Passed, HasServed, old_of, new_of}
use Rattle.flac_cli.specs.ChainFormats.{AreOfOneFormat}
use Rattle.flac_cli.specs.Chains.{IsChainOf, ReadsAsChain, stream_path, SendsOfChain}
use Rattle.flac_cli.specs.Outcomes.{IsAnswer}
use Rattle.flac_cli.specs.Reports.{AddsLine}
use Rattle.flac_cli.specs.Samples.{all_samples}
use Rattle.flac_cli.specs.Streams.{Tells}
use Rattle.flac_cli.specs.declared.chain.ChainDone.{ChainDone}
use Rattle.flac_cli.specs.declared.chain_samples.ChainPaths.{ChainPaths}
use Rattle.flac_cli.specs.declared.chain_samples.Failing.{Failing}
use Rattle.flac_cli.specs.declared.chain_samples.Failing.TheVariants.{Nothing, Format, Target}

-- after status 0 the streams have one format, and exactly the samples of all of them were written, in order
abbrev pub WritesChainSamples : {S T : Type 0} (g : source.Ghosts S) (h : target.Ghosts T) → Profile → (from : S) → ChainDone S → Passed T → Type 0
WritesChainSamples g h profile from done target = SendsOfChain g h profile AreOfOneFormat (all_samples 0) from done target

-- All was written; or a stream is refused; or the stream of this number has another format than those before it; or the
-- output could not be written, at this place.
pub data SamplesOutcome : Type 0 where
  written : SamplesOutcome
  refused : ChainFault → SamplesOutcome
  other_format : (stream : ℕ) → SamplesOutcome
  unwritten : ChainFault → SamplesOutcome

-- the status, and the line that was added to standard error
abbrev pub IsSamplesAnswer : SamplesOutcome → ChainPaths → (status : ℕ) → (before after : List ℕ) → Type 0
IsSamplesAnswer written paths status before after = IsAnswer None paths.input.now status before after
IsSamplesAnswer (refused f) paths status before after = IsAnswer (Some (Some f.fault.at, f.fault.why)) (stream_path paths.input.now f.stream) status before after
IsSamplesAnswer (other_format stream) paths status before after = (status ≡ 1) × AddsLine (stream_path paths.input.now stream) (codes "95 OtherFormat") before after
IsSamplesAnswer (unwritten f) paths status before after = IsAnswer (Some (Some f.fault.at, f.fault.why)) (stream_path paths.output.now f.stream) status before after

-- what the input is then: a chain of one format, or refused so, unless memory ran out
abbrev pub FitsSamples : {S : Type 0} (g : source.Ghosts S) → Profile → S → SamplesOutcome → Type 0
FitsSamples g profile from written = IsChainOf g profile from AreOfOneFormat
FitsSamples g profile from (refused f) = (f.fault.why ≡ why.Memory) ⊎ ReadsAsChain profile (g.coming from) (Some f)
FitsSamples g profile from other = Unit {0}

-- if neither the source nor standard error failed
abbrev pub ReportsChainSamples : {S E : Type 0} (g : source.Ghosts S) (k : target.Ghosts E) → Profile → ChainPaths → (from : S) → ChainDone S → Passed E → Type 0
ReportsChainSamples g k profile paths from done err =
    Tells g from done.source → HasServed k err
    → (outcome : SamplesOutcome) × IsSamplesAnswer outcome paths done.status (k.sent (old_of err)) (k.sent (new_of err)) × FitsSamples g profile from outcome

-- the outcome of a fault, by what failed
abbrev pub outcome_by : Failing → ChainFault → SamplesOutcome
outcome_by Nothing f = refused f
outcome_by Format f = other_format f.stream
outcome_by Target f = unwritten f
