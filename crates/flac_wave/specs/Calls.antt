-- What a call did to its source, as clauses say it. `g` is what is known of sources of its type.
use Rattle.std.specs.Prelude.{◌≡◌, true, List, ℕ, ◌++◌}
use Rattle.flac_bits.specs.declared.source.Source as source

-- if the bytes of the source are known, it gave these, and the others are still to come
abbrev pub Gave : {S : Type 0} (g : source.Ghosts S) (old new : S) → (bytes : List ℕ) → Type 0
Gave g old new bytes = g.known old ≡ true → g.coming old ≡ bytes ++ g.coming new

-- this holds if the bytes of the source are known, and it returned no error in the call
abbrev pub IfRead : {S : Type 0} (g : source.Ghosts S) (old new : S) → Type 0 → Type 0
IfRead g old new Says = g.known old ≡ true → g.raised new ≡ g.raised old → Says

-- the source returned no error in the call
abbrev pub NoneRaised : {S : Type 0} (g : source.Ghosts S) (old new : S) → Type 0
NoneRaised g old new = (g.errors new ≡ g.errors old) × (g.raised new ≡ g.raised old)
