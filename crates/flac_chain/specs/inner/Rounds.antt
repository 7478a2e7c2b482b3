-- For proofs: what one round of reading a chain does.
use Rattle.std.specs.Prelude.{◌≡◌, ◌≢◌, true, List, OnOk, IfOk, IfErr}
use Rattle.flac_bits.specs.Handing.{TakesAll}
use Rattle.flac_bits.specs.declared.source.Source as source
use Rattle.flac_bits.specs.declared.why.Why.TheVariants as why
use Rattle.flac_header.specs.declared.subset.Profile.{Profile}
use Rattle.flac_native.specs.Decoding.{taken}
use Rattle.flac_native.specs.Stream.{Piece}
use Rattle.flac_native.specs.declared.decoding.Sink as sink
use Rattle.flac_ogg.specs.declared.decoding.Fronted.{Fronted}
use Rattle.flac_around.specs.Chains.{first_link, later_links}
use Rattle.flac_chain.specs.Calls.{Tells}
use Rattle.flac_chain.specs.Chained.{link_reading, IsLinkRefused}
use Rattle.flac_chain.specs.inner.Going.{follows_in, bytes_of}
use Rattle.flac_chain.specs.declared.chain.Round.{Round}

module _ {S K : Type 0} (g : source.Ghosts S) (k : sink.Ghosts K) (profile : Profile) where
  -- at Ok the next stream is one of FLAC, whose items the sink took
  abbrev pub ReadsRound : (old : Fronted S) (before after : K) → Round S → Type 0
  ReadsRound old before after round =
      Tells g old.source round.fronted.source → k.known before ≡ true
      → OnOk round.outcome ((parts : List Piece) × (link_reading profile (first_link (bytes_of g old))).whole parts × TakesAll (taken k.takes) before parts after)

  abbrev pub RefusesRound : (old : Fronted S) (before after : K) → Round S → Type 0
  RefusesRound old before after round =
      Tells g old.source round.fronted.source → k.known before ≡ true → k.errors after ≡ k.errors before
      → IfErr round.outcome (λ f. f.why ≢ why.Memory → (items : List Piece) × IsLinkRefused profile (bytes_of g old) items f.at f.why × TakesAll (taken k.takes) before items after)

-- the source has the streams after it, and what follows is said
abbrev pub FollowsRound : {S : Type 0} (g : source.Ghosts S) → (old : Fronted S) → Round S → Type 0
FollowsRound g old round =
    Tells g old.source round.fronted.source
    → IfOk round.outcome (λ f. (g.known round.fronted.source ≡ true) × (bytes_of g round.fronted ≡ later_links (bytes_of g old)) × (f ≡ follows_in (later_links (bytes_of g old))))
