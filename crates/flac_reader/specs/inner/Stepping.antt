-- For proofs of the iterator over samples: what its steps do.
use Rattle.std.specs.Prelude.{◌≡◌, ℕ, Bool, true, false, ℤ, [], ◌∷◌, Option, Some, None, Result, Ok, Err}
use Rattle.flac_frame.specs.Frame.{Frame}
use Rattle.flac_native.specs.Item.{Item, frame}
use Rattle.flac_native.specs.declared.fault.Fault.{Fault}
use Rattle.flac_reader.specs.Places.{left_at}
use Rattle.flac_reader.specs.declared.spot.Spot.{Spot}
use Rattle.flac_reader.specs.declared.spot.Spot.TheVariants as spot

-- a sample was the first of what was left of the frame; or nothing was left of it, and the spot stays
abbrev pub TakesSample : Spot → Spot → Option Item → Option ℤ → Type 0
TakesSample old new held None = (left_at old held ≡ []) × (new ≡ old)
TakesSample old new held (Some x) = (channel : ℕ) × (index : ℕ) × (new ≡ spot.Inside channel index) × (left_at old held ≡ x ∷ left_at new held)

-- a frame comes, and its first sample is next; or there is none, and the samples are over
abbrev pub EntersFrame : Option Item → Spot → Result Bool Fault → Type 0
EntersFrame held new (Ok true) = (f : Frame) × (held ≡ Some (frame f)) × (new ≡ spot.Inside 0 0)
EntersFrame held new (Ok false) = (held ≡ None) × (new ≡ spot.Over)
EntersFrame held new (Err f) = new ≡ spot.Over
