-- For proofs: a stream of a chain of which nothing is left.
use Rattle.std.specs.Prelude.{◌≡◌, ◌<◌, true}
use Rattle.flac_bits.specs.declared.source.Source as source
use Rattle.flac_around.specs.Chains.{later_links}
use Rattle.flac_around.specs.declared.chain_link.ChainLink.{ChainLink}

-- If the bytes of the source were known at the start of the stream, and it returned no error since, it has those after the
-- stream.
abbrev pub IsPassed : {S : Type 0} {g : source.Ghosts S} → (old new : ChainLink S g) → Type 0
IsPassed {g = g} old new =
    let began = old.began.value in
    g.known began ≡ true → g.raised new.source ≡ g.raised began → (g.known new.source ≡ true) × (g.coming new.source ≡ later_links (g.coming began))

-- If they were known, and the source had returned none, it returned one now.
abbrev pub RisesOnce : {S : Type 0} {g : source.Ghosts S} → (old new : ChainLink S g) → Type 0
RisesOnce {g = g} old new =
    let began = old.began.value in
    g.known began ≡ true → g.raised old.source ≡ g.raised began → g.raised old.source < g.raised new.source
