-- What a call that reads a chain returns, and what its sink took.
use Rattle.std.specs.Prelude.{◌≡◌, ◌≢◌, true, List, ◌++◌, length, OnOk, IfErr}
use Rattle.flac_bits.specs.Handing.{TakesAll}
use Rattle.flac_bits.specs.declared.source.Source as source
use Rattle.flac_bits.specs.declared.why.Why.TheVariants as why
use Rattle.flac_header.specs.declared.subset.Profile.{Profile}
use Rattle.flac_native.specs.Decoding.{taken}
use Rattle.flac_native.specs.Stream.{Piece}
use Rattle.flac_native.specs.declared.decoding.Sink as sink
use Rattle.flac_chain.specs.Calls.{Tells}
use Rattle.flac_chain.specs.Chained.{all_parts, IsChain, IsChainRefused}
use Rattle.flac_chain.specs.Steady.{IsSteady}
use Rattle.flac_chain.specs.declared.chain.ChainRead.{ChainRead}

module _ {S K : Type 0} (g : source.Ghosts S) (k : sink.Ghosts K) (profile : Profile) where
  -- If the source did not fail: at Ok its bytes are a chain, and the sink took the items of its streams, in order.
  abbrev pub ReadsChain : (old : S) (before after : K) → ChainRead S → Type 0
  ReadsChain old before after read =
      IsSteady k → Tells g old read.source → k.known before ≡ true
      → OnOk read.outcome ((parts : List (List Piece)) × IsChain profile (g.coming old) parts × TakesAll (taken k.takes) before (all_parts parts) after)

  -- If the sink did not fail, either: it is refused as it is, in the stream of this number, after exactly the items that the
  -- sink took, unless memory ran out.
  abbrev pub RefusesChain : (old : S) (before after : K) → ChainRead S → Type 0
  RefusesChain old before after read =
      IsSteady k → Tells g old read.source → k.known before ≡ true → k.errors after ≡ k.errors before
      → IfErr read.outcome (λ f. f.fault.why ≢ why.Memory
      → (parts : List (List Piece)) × (items : List Piece) × IsChainRefused profile (g.coming old) parts items f.fault.at f.fault.why × (f.stream ≡ length parts) × TakesAll (taken k.takes) before (all_parts parts ++ items) after)
