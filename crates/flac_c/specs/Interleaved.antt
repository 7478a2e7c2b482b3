-- Samples of all channels in one list: those of each channel at the first index, then those at the next, and so on.
use Rattle.std.specs.Prelude.{ℕ, zero, suc, ◌+◌, ◌*◌, ◌/◌, ℤ, pos, List, [], ◌∷◌, ◌++◌, length, slice_index_or}

-- the first n samples of one of `count` channels
unfoldable pub channel_at : (samples : List ℤ) (count channel n : ℕ) → List ℤ
channel_at samples count channel zero = []
channel_at samples count channel (suc n) = channel_at samples count channel n ++ slice_index_or samples (n * count + channel) (pos 0) ∷ []

-- the samples of the first n of `count` channels, of `each` samples
unfoldable pub channels_at : (samples : List ℤ) (count each n : ℕ) → List (List ℤ)
channels_at samples count each zero = []
channels_at samples count each (suc n) = channels_at samples count each n ++ channel_at samples count n each ∷ []

-- those of all channels
abbrev pub all_channels : (samples : List ℤ) (count : ℕ) → List (List ℤ)
all_channels samples count = channels_at samples count (length samples / count) count
