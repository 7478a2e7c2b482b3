-- Inter-channel samples: the samples of all channels at one index (RFC 9639, section 3).
use Rattle.std.specs.Prelude.{ℕ, zero, suc, ◌+◌, ℤ, List, [], ◌∷◌, ◌++◌}
use Rattle.flac_frame.specs.Frame.{Frame}
use Rattle.flac_frame.specs.Interleaved.{row}

-- n inter-channel samples of some channels, from an index on
unfoldable pub samples_from : List (List ℤ) → (n i : ℕ) → List (List ℤ)
samples_from channels zero i = []
samples_from channels (suc n) i = row channels i ∷ samples_from channels n (i + 1)

-- those of frames, one frame after another
unfoldable pub samples_of : List Frame → List (List ℤ)
samples_of [] = []
samples_of (f ∷ fs) = samples_from f.channels f.size 0 ++ samples_of fs
