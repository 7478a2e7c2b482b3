-- For proofs: where some inter-channel samples of two frames differ.
use Rattle.std.specs.Prelude.{◌≡◌, ◌<◌, ℕ, ◌+◌, ℤ, List, Option, MatchOption}
use Rattle.flac_frame.specs.Interleaved.{row}
use Rattle.flac_compare.specs.Samples.{samples_from}
use Rattle.flac_compare.specs.Compared.{DiffersIn}

-- among n, k are equal, and then one differs in this channel
pub record DiffersAfter (k channel n : ℕ) (first : List (List ℤ)) (i : ℕ) (second : List (List ℤ)) (j : ℕ) : Type 0 where
  pub within : k < n
  pub same : samples_from first k i ≡ samples_from second k j
  pub differs : DiffersIn channel (row first (i + k)) (row second (j + k))

-- two inter-channel samples are equal, or differ in this channel
abbrev pub FindsChannel : Option ℕ → (x y : List ℤ) → Type 0
FindsChannel found x y = MatchOption found (x ≡ y) (λ c. DiffersIn c x y)

-- n of each frame are equal, or so many are, and then one differs in this channel
abbrev pub FindsAfter : Option (ℕ × ℕ) → (n : ℕ) → (first : List (List ℤ)) → (i : ℕ) → (second : List (List ℤ)) → (j : ℕ) → Type 0
FindsAfter found n first i second j = MatchOption found (samples_from first n i ≡ samples_from second n j) (λ p. DiffersAfter p.0 p.1 n first i second j)
