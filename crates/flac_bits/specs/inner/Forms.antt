-- For proofs of the spellings: that a layout spells exactly the valid forms.
use Rattle.std.specs.Prelude.{◌≡◌, Bool, List}
use Rattle.flac_bits.specs.State.{Mark}
use Rattle.flac_bits.specs.Layout.{Layout}
use Rattle.flac_bits.specs.Meaning.{Spells}

-- the layout spells exactly the valid forms, each of them in one way
pub record Ties {A : Type 0} (l : Layout A) (m : Mark) (Valid : A → Type 0) (spelling : A → List Bool) : Type 0 where
  pub only : (text : List Bool) (x : A) → Spells l m text x → Valid x × (text ≡ spelling x)
  pub each : (x : A) → Valid x → Spells l m (spelling x) x
