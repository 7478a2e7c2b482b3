-- What follows the samples of a WAV file, cut into pieces: its chunks, one by one; what is no whole chunk that can be
-- kept, in pieces as long as they can be.
use Rattle.std.specs.Prelude.{◌≡◌, ◌<◌, ℕ, ◌+◌, ◌++◌, min, ◌&&◌, cond, nat_lt, List, [], ◌∷◌, length, take, drop}
use Rattle.flac_wave.specs.Chunks.{chunk_len, most_kept}

-- how many bytes the next piece has
unfoldable pub piece_len : List ℕ → ℕ
piece_len bytes =
    cond (nat_lt 7 (length bytes) && (nat_lt (chunk_len bytes) (length bytes + 1) && nat_lt (chunk_len bytes) (most_kept + 1)))
    (chunk_len bytes) (min most_kept (length bytes))

-- these are the pieces
abbrev pub AreCuts : (pieces : List (List ℕ)) → (bytes : List ℕ) → Type 0
AreCuts [] bytes = bytes ≡ []
AreCuts (p ∷ ps) bytes = (0 < length bytes) × (p ≡ take (piece_len bytes) bytes) × AreCuts ps (drop (piece_len bytes) bytes)

-- these were added to the pieces before
abbrev pub AddsCuts : (old new : List (List ℕ)) → (bytes : List ℕ) → Type 0
AddsCuts old new bytes = (ps : List (List ℕ)) × (new ≡ old ++ ps) × AreCuts ps bytes
