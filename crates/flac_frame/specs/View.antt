-- Channels in one array, one after another, and the frame of a view.
use Rattle.std.specs.Prelude.{ℕ, zero, suc, List, [], ◌∷◌, take, drop, ℤ}
use Rattle.flac_header.specs.Header.{Header}
use Rattle.flac_frame.specs.Frame.{Frame}

-- c lists of length n, one after another
abbrev pub chunks : {A : Type 0} → ℕ → ℕ → List A → List (List A)
chunks zero n xs = []
chunks (suc c) n xs = take n xs ∷ chunks c n (drop n xs)

-- the frame of a header whose samples are the first in an array
abbrev pub frame_in : ℕ → Header → List ℤ → Frame
frame_in channels h samples = record { variable = h.variable; number = h.number; size = h.size; channels = chunks channels h.size samples }
