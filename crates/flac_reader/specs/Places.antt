-- The samples of frames, one by one: interleaved, channel by channel at each index, as they are played (RFC 9639,
-- section 9.2).
use Rattle.std.specs.Prelude.{◌≡◌, ℕ, ◌-◌, Bool, true, false, cond, nat_lt, ℤ, List, [], ◌∷◌, ◌++◌, length, drop, Option, Some, None, MatchOption}
use Rattle.flac_frame.specs.Frame.{Frame}
use Rattle.flac_frame.specs.Interleaved.{rows, interleaved}
use Rattle.flac_native.specs.Item.{Item, metadata, frame}
use Rattle.flac_reader.specs.declared.spot.Spot.{Spot}
use Rattle.flac_reader.specs.declared.spot.Spot.TheVariants as spot

-- the samples of all frames, one frame after another
unfoldable pub all_samples : List Frame → List ℤ
all_samples [] = []
all_samples (f ∷ fs) = interleaved f ++ all_samples fs

-- the samples of a frame from that of a channel at an index on; none if there is no such channel
unfoldable pub samples_from : Frame → (channel index : ℕ) → List ℤ
samples_from f channel index = cond (nat_lt channel (length f.channels)) (drop channel (rows f.channels (f.size - index) index)) []

-- the first of them, and the channel and the index of the next one; none if there is no such channel or index
abbrev pub IsSampleAt : Frame → (channel index : ℕ) → Option (ℤ × ℕ × ℕ) → Type 0
IsSampleAt f channel index result = MatchOption result (samples_from f channel index ≡ []) (λ p. samples_from f channel index ≡ p.0 ∷ samples_from f p.1 p.2)

-- what is left of the frame that was read last
abbrev pub left_in : Option Item → (channel index : ℕ) → List ℤ
left_in None channel index = []
left_in (Some (metadata b)) channel index = []
left_in (Some (frame f)) channel index = samples_from f channel index

-- what is left of it after a spot
abbrev pub left_at : Spot → Option Item → List ℤ
left_at spot.Next held = []
left_at (spot.Inside channel index) held = left_in held channel index
left_at spot.Over held = []

-- nothing more is given
abbrev pub is_over : Spot → Bool
is_over spot.Next = false
is_over (spot.Inside channel index) = false
is_over spot.Over = true
