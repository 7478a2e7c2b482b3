-- For proofs: what a sink of the samples of several streams does.
use Rattle.std.specs.Prelude.{◌≡◌, ◌≢◌, ℕ, true, List, ◌++◌, Option, Some, None, Result, OnOk, IfErr}
use Rattle.flac_bits.specs.declared.source.Source as source
use Rattle.flac_bits.specs.declared.target.Target as target
use Rattle.flac_bits.specs.declared.why.Why.TheVariants as why
use Rattle.flac_header.specs.declared.subset.Profile.{Profile}
use Rattle.flac_native.specs.Item.{Item, metadata, frame}
use Rattle.flac_native.specs.Samples.{depth_after_item, samples_in}
use Rattle.flac_native.specs.declared.sinks.SampleWriter.{SampleWriter}
use Rattle.flac_chain.specs.declared.chain.ChainRead.{ChainRead}
use Rattle.flac_cli.specs.Chains.{ReadsAsChain, IsChainOf}
use Rattle.flac_cli.specs.ChainFormats.{TakesFormat, AreOfOneFormat}
use Rattle.flac_cli.specs.Samples.{all_samples}
use Rattle.flac_cli.specs.Streams.{Tells}
use Rattle.flac_cli.specs.declared.stream_format.StreamFormat.{StreamFormat}

-- the format after this item
abbrev pub FormatAfter : Option StreamFormat → Item → Option StreamFormat → Type 0
FormatAfter old (metadata b) new = TakesFormat old b new
FormatAfter old (frame f) new = new ≡ old

-- a writer of samples took this item
pub record TakesSamples {T : Type 0} (h : target.Ghosts T) (old : SampleWriter T h) (item : Item) (new : SampleWriter T h) : Type 0 where
  pub known : h.known old.target ≡ true → h.known new.target ≡ true
  pub asked : new.asked ≡ old.asked
  pub depth : new.depth ≡ depth_after_item old.depth item
  pub sent : h.known old.target ≡ true → h.sent new.target ≡ h.sent old.target ++ samples_in old.asked old.depth item

-- at Ok they are a chain of one format, whose samples were sent
abbrev pub SendsChain : {S T : Type 0} (g : source.Ghosts S) (h : target.Ghosts T) → Profile → (from : S) → (old new : T) → ChainRead S → Type 0
SendsChain g h profile from old new read =
    Tells g from read.source → OnOk read.outcome (IsChainOf g profile from (λ parts. AreOfOneFormat parts × (h.known old ≡ true → h.sent new ≡ h.sent old ++ all_samples 0 parts)))

-- at Err they are refused, if the sink did not fail, unless memory ran out
abbrev pub RefusesSamples : {S : Type 0} (g : source.Ghosts S) → Profile → (from : S) → (failures : ℕ) → ChainRead S → Type 0
RefusesSamples g profile from failures read =
    Tells g from read.source → failures ≡ 0 → IfErr read.outcome (λ f. f.fault.why ≢ why.Memory → ReadsAsChain profile (g.coming from) (Some f))
