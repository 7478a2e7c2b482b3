-- The samples of all channels in one list: those at the first index, channel by channel, then those at the next, and so
-- on. This is the order of the MD5 input (RFC 9639, section 8.2).
use Rattle.std.specs.Prelude.{◌≡◌, ℕ, zero, suc, ◌+◌, ◌/◌, min, length, take, drop, ℤ, pos, List, [], ◌∷◌, ◌++◌, slice_index_or}
use Rattle.flac_frame.specs.Frame.{Frame}

-- the samples of all channels at one index
unfoldable pub row : List (List ℤ) → ℕ → List ℤ
row [] i = []
row (channel ∷ channels) i = slice_index_or channel i (pos 0) ∷ row channels i

-- the samples of all channels at n indices from i on
unfoldable pub rows : List (List ℤ) → ℕ → ℕ → List ℤ
rows channels zero i = []
rows channels (suc n) i = row channels i ++ rows channels n (i + 1)

-- all samples of a frame
abbrev pub interleaved : Frame → List ℤ
interleaved f = rows f.channels f.size 0

-- how many indices of a frame's samples fit into so many places
abbrev pub whole_rows : Frame → ℕ → ℕ
whole_rows f places = min f.size (places / length f.channels)

-- the samples at these indices
abbrev pub first_rows : Frame → ℕ → List ℤ
first_rows f places = rows f.channels (whole_rows f places) 0

-- the samples of all channels at one index were put after the first places, and what is after them stays
abbrev pub PutsRow : Frame → ℕ → ℕ → List ℤ → List ℤ → Type 0
PutsRow f i at old new = take (at + length f.channels) new ≡ take at old ++ row f.channels i

abbrev pub KeepsRest : Frame → ℕ → List ℤ → List ℤ → Type 0
KeepsRest f at old new = drop (at + length f.channels) new ≡ drop (at + length f.channels) old
