-- How many samples chains have that begin with a frame.
use Rattle.std.specs.Prelude.{◌≡◌, ℕ, ◌≤◌, ◌<◌, cond, nat_le, List, [], ◌∷◌, length, drop, slice_index_or}
use Rattle.flac_salvage.specs.declared.find.WholeFrame.{WholeFrame}
use Rattle.flac_salvage.specs.declared.chain.Most.{Most}
use Rattle.flac_salvage.specs.Chain.{end_of, samples_of, chain}

-- the most samples of a chain that begins with the first frame; 0 if none does
unfoldable pub most_with : (limit : ℕ) → List WholeFrame → ℕ
most_with limit [] = 0
most_with limit (f ∷ more) = cond (nat_le (end_of f) limit) (samples_of (f ∷ chain limit (end_of f) more)) 0

-- these are the most samples of a chain that begins with the first frame, and of any of the frames
pub record IsMost (limit : ℕ) (frames : List WholeFrame) (m : Most) : Type 0 where
  pub first : m.first ≡ most_with limit frames
  pub any : m.any ≡ samples_of (chain limit 0 frames)

-- those of the frames from an index on
abbrev pub AreMost : (limit : ℕ) (frames : List WholeFrame) (from : ℕ) → List Most → Type 0
AreMost limit frames from most = (k : ℕ) → from ≤ k → k < length frames → IsMost limit (drop k frames) (slice_index_or most k (record { first = 0; any = 0 }))
