-- For proofs: the source after one stream of a chain.
use Rattle.std.specs.Prelude.{◌≡◌, ◌<◌, true}
use Rattle.flac_bits.specs.declared.source.Source as source
use Rattle.flac_around.specs.Chains.{later_links}
use Rattle.flac_around.specs.declared.chain_link.ChainLink.{ChainLink}

-- if its bytes were known when the stream began, and it returned no error since, it has those after the stream
abbrev pub IsPassedTo : {S : Type 0} {g : source.Ghosts S} → ChainLink S g → (now : S) → Type 0
IsPassedTo {g = g} link now =
    let began = link.began.value in
    g.known began ≡ true → g.raised now ≡ g.raised began → (g.known now ≡ true) × (g.coming now ≡ later_links (g.coming began))

-- if they were known, and it had returned none, it returned one now
abbrev pub RisesTo : {S : Type 0} {g : source.Ghosts S} → ChainLink S g → (now : S) → Type 0
RisesTo {g = g} link now =
    let began = link.began.value in
    g.known began ≡ true → g.raised link.source ≡ g.raised began → g.raised link.source < g.raised now
