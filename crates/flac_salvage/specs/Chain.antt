-- Frames of one stream among those that were found: their samples rise (RFC 9639, section 9.1.5).
use Rattle.std.specs.Prelude.{◌≡◌, ◌⊎◌, ℕ, ◌+◌, ◌≤◌, Bool, ◌&&◌, cond, nat_le, List, [], ◌∷◌, ⊤}
use Rattle.flac_salvage.specs.declared.find.WholeFrame.{WholeFrame}

-- the number of the sample after its last one
abbrev pub end_of : WholeFrame → ℕ
end_of f = f.first + f.size

-- how many samples the frames have in each channel
unfoldable pub samples_of : List WholeFrame → ℕ
samples_of [] = 0
samples_of (f ∷ more) = f.size + samples_of more

-- None begins before the sample `from`, nor before the end of the one before it, and none ends past the limit.
abbrev pub Rise : (limit from : ℕ) → List WholeFrame → Type 0
Rise limit from [] = ⊤
Rise limit from (f ∷ more) = (from ≤ f.first) × ((end_of f ≤ limit) × Rise limit (end_of f) more)

-- some of the frames, in their order
abbrev pub IsPart : (some all : List WholeFrame) → Type 0
IsPart [] all = ⊤
IsPart (f ∷ some) [] = ⊥
IsPart (f ∷ some) (g ∷ all) = ((f ≡ g) × IsPart some all) ⊎ IsPart (f ∷ some) all

-- Some of the frames, which rise; and no others of them that rise have more samples.
pub record IsBest (limit from : ℕ) (all some : List WholeFrame) : Type 0 where
  pub part : IsPart some all
  pub rise : Rise limit from some
  pub most : (other : List WholeFrame) → IsPart other all → Rise limit from other → samples_of other ≤ samples_of some

-- whether the frame may come first
abbrev pub fits : (limit from : ℕ) → WholeFrame → Bool
fits limit from f = nat_le from f.first && nat_le (end_of f) limit

-- The chain that is chosen: a frame is in it if it may come next, and if there are at least as many samples with it as
-- without it. So of two chains with as many samples the one is chosen that has the earlier frame where they part.
unfoldable pub chain : (limit from : ℕ) → List WholeFrame → List WholeFrame
chain limit from [] = []
chain limit from (f ∷ more) =
    cond (fits limit from f && nat_le (samples_of (chain limit from more)) (samples_of (f ∷ chain limit (end_of f) more)))
    (f ∷ chain limit (end_of f) more)
    (chain limit from more)
