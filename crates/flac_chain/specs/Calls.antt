-- What calls that read one stream of a chain, or all, do to their source and their sink.
use Rattle.std.specs.Prelude.{◌≡◌, ◌≢◌, true, List, OnOk, IfErr}
use Rattle.flac_bits.specs.Handing.{TakesAll}
use Rattle.flac_bits.specs.declared.source.Source as source
use Rattle.flac_bits.specs.declared.why.Why.TheVariants as why
use Rattle.flac_header.specs.declared.subset.Profile.{Profile}
use Rattle.flac_native.specs.Decoding.{taken}
use Rattle.flac_native.specs.Stream.{Piece}
use Rattle.flac_native.specs.declared.decoding.Sink as sink
use Rattle.flac_around.specs.Chains.{first_link, later_links}
use Rattle.flac_chain.specs.Chained.{link_reading, IsLinkRefused}
use Rattle.flac_chain.specs.declared.link.LinkRead.{LinkRead}

-- the bytes of the source are known, and it returned no error
abbrev pub Tells : {S : Type 0} (g : source.Ghosts S) (old new : S) → Type 0
Tells g old new = (g.known old ≡ true) × (g.errors new ≡ g.errors old) × (g.raised new ≡ g.raised old)

-- at Ok the source has the streams after the first
abbrev pub KeepsLater : {S : Type 0} (g : source.Ghosts S) (old : S) → LinkRead S → Type 0
KeepsLater g old read = Tells g old read.source → OnOk read.outcome ((g.known read.source ≡ true) × (g.coming read.source ≡ later_links (g.coming old)))

module _ {S K : Type 0} (g : source.Ghosts S) (k : sink.Ghosts K) (profile : Profile) where
  -- At Ok the first stream that comes is one of FLAC, whose items the sink took.
  abbrev pub ReadsLink : (old : S) (before after : K) → LinkRead S → Type 0
  ReadsLink old before after read =
      Tells g old read.source → k.known before ≡ true
      → OnOk read.outcome ((parts : List Piece) × (link_reading profile (first_link (g.coming old))).whole parts × TakesAll (taken k.takes) before parts after)

  -- It is refused as it is, after exactly the items that the sink took, unless memory ran out.
  abbrev pub RefusesLink : (old : S) (before after : K) → LinkRead S → Type 0
  RefusesLink old before after read =
      Tells g old read.source → k.known before ≡ true → k.errors after ≡ k.errors before
      → IfErr read.outcome (λ f. f.why ≢ why.Memory → (items : List Piece) × IsLinkRefused profile (g.coming old) items f.at f.why × TakesAll (taken k.takes) before items after)
