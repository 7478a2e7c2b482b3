-- For proofs: bytes that pass, and what the source below is after them.
use Rattle.std.specs.Prelude.{◌≡◌, ◌<◌, ℕ, true, List, ◌++◌, length}
use Rattle.flac_bits.specs.declared.source.Source as source
use Rattle.flac_around.specs.Chains.{past, later_links}
use Rattle.flac_around.specs.Walks.{end_for}
use Rattle.flac_around.specs.inner.Standing.{IsFurther}
use Rattle.flac_around.specs.declared.walk.Walk.{Walk}

-- these bytes passed
abbrev pub Passes : (old new : Walk) → (bytes : List ℕ) → Type 0
Passes old new bytes = (coming : List ℕ) → IsFurther (length bytes) (end_for old (bytes ++ coming)) (end_for new coming)

-- ---- the source below, since a stream began

-- It returned no error.
abbrev pub IsCalm : {S : Type 0} → source.Ghosts S → (began now : S) → Type 0
IsCalm g began now = (g.errors now ≡ g.errors began) × (g.raised now ≡ g.raised began)

-- It returned one.
abbrev pub HasRisen : {S : Type 0} → source.Ghosts S → (began now : S) → Type 0
HasRisen g began now = g.known began ≡ true → g.raised began < g.raised now

-- Its bytes are still known, and after the stream the same ones come.
abbrev pub IsStill : {S : Type 0} → source.Ghosts S → (began now : S) → Walk → Type 0
IsStill g began now walk = g.known began ≡ true → (g.known now ≡ true) × (past (end_for walk (g.coming now)) (g.coming now) ≡ later_links (g.coming began))
