-- For proofs: what steps of a comparison find.
use Rattle.std.specs.Prelude.{◌≡◌, ◌≢◌, ◌⊎◌, ℕ, ◌+◌, ◌-◌, Bool, false, ℤ, List, [], ◌∷◌, ◌++◌, length, Option, Some, None, Result, Ok, Err}
use Rattle.flac_bits.specs.declared.why.Why.{Why}
use Rattle.flac_bits.specs.declared.why.Why.TheVariants.{Memory}
use Rattle.flac_native.specs.Item.{Item, fault_pair}
use Rattle.flac_native.specs.declared.fault.Place.{Place}
use Rattle.flac_native.specs.declared.container.Container as container
use Rattle.flac_reader.specs.declared.reader.Reader.{Reader}
use Rattle.flac_compare.specs.Compared.{counted, DiffersIn}
use Rattle.flac_compare.specs.inner.Stepping.{left_in, SamplesLeft, IsCalmIn, IsKnown}
use Rattle.flac_compare.specs.declared.difference.Difference.{Difference}
use Rattle.flac_compare.specs.declared.difference.Difference.TheVariants.{Length}
use Rattle.flac_compare.specs.declared.difference.Unread.{Unread}
use Rattle.flac_compare.specs.declared.difference.Unread.TheVariants.{First, Second}

-- what comes stays; if one reader is at its end, nothing more comes of it
abbrev pub AreEntered : {C D : Type 0} {g : container.Ghosts C} {h : container.Ghosts D} → Reader C g → ℕ → Reader D h → ℕ → Reader C g → ℕ → Reader D h → ℕ → Bool → Type 0
AreEntered first left second other next more later others going = (xs ys : List (List ℤ)) (end stop : Option (Place × Why)) → SamplesLeft first left xs end → SamplesLeft second other ys stop
    → SamplesLeft next more xs end × SamplesLeft later others ys stop × (going ≡ false → (xs ≡ []) ⊎ (ys ≡ []))

-- both readers went to their next frames if nothing was left; or one of them is refused
abbrev pub EntersBoth : {C D : Type 0} {g : container.Ghosts C} {h : container.Ghosts D} → Reader C g → ℕ → Reader D h → ℕ → Reader C g → ℕ → Reader D h → ℕ → Result Bool Unread → Type 0
EntersBoth first left second other next more later others (Ok going) = IsKnown first → IsKnown second → AreEntered first left second other next more later others going
EntersBoth first left second other next more later others (Err (First f)) = IsCalmIn first next → f.why ≢ Memory → (xs : List (List ℤ)) (end : Option (Place × Why)) → SamplesLeft first left xs end → (xs ≡ []) × (end ≡ Some (fault_pair f))
EntersBoth first left second other next more later others (Err (Second f)) = IsCalmIn second later → f.why ≢ Memory → (ys : List (List ℤ)) (stop : Option (Place × Why)) → SamplesLeft second other ys stop → (ys ≡ []) × (stop ≡ Some (fault_pair f))

-- two lists begin with the same n, and these come after them
pub record Share (n : ℕ) (xs left ys other : List (List ℤ)) : Type 0 where
  pub common : List (List ℤ)
  pub first : xs ≡ common ++ left
  pub second : ys ≡ common ++ other
  pub long : length common ≡ n

-- two lists begin with the same k, and then one differs in this channel
pub record DifferAfter (k channel : ℕ) (xs ys : List (List ℤ)) : Type 0 where
  pub x : List ℤ
  pub y : List ℤ
  pub left : List (List ℤ)
  pub other : List (List ℤ)
  pub share : Share k xs (x ∷ left) ys (y ∷ other)
  pub differs : DiffersIn channel x y

-- what is left of two frames begins with the same n, or differs before
abbrev pub FindsDifference : Option Item → (left : ℕ) → Option Item → (other n : ℕ) → Option (ℕ × ℕ) → Type 0
FindsDifference held left holds other n None = Share n (left_in held left) (left_in held (left - n)) (left_in holds other) (left_in holds (other - n))
FindsDifference held left holds other n (Some p) = DifferAfter p.0 p.1 (left_in held left) (left_in holds other)

-- what a comparison of the lengths says, where these are still to come, and nothing of one of them
abbrev pub SaysRest : ℕ → (xs ys : List (List ℤ)) (end stop : Option (Place × Why)) → Result (Option Difference) Unread → Type 0
SaysRest count xs ys end stop (Ok None) = (xs ≡ ys) × (end ≡ None) × (stop ≡ None)
SaysRest count xs ys end stop (Ok (Some (Length n m))) = (n ≡ counted (count + counted (length xs))) × (m ≡ counted (count + counted (length ys))) × (xs ≢ ys) × (end ≡ None) × (stop ≡ None)
SaysRest count xs ys end stop (Ok (Some other)) = ⊥
SaysRest count xs ys end stop (Err (First f)) = f.why ≢ Memory → end ≡ Some (fault_pair f)
SaysRest count xs ys end stop (Err (Second f)) = f.why ≢ Memory → stop ≡ Some (fault_pair f)

abbrev pub ComparesRest : {C D : Type 0} {g : container.Ghosts C} {h : container.Ghosts D} → Reader C g → ℕ → Reader D h → ℕ → ℕ → Reader C g → Reader D h → Result (Option Difference) Unread → Type 0
ComparesRest first left second other count next later result = IsCalmIn first next → IsCalmIn second later → (xs ys : List (List ℤ)) (end stop : Option (Place × Why))
    → SamplesLeft first left xs end → SamplesLeft second other ys stop → (xs ≡ []) ⊎ (ys ≡ []) → SaysRest count xs ys end stop result
