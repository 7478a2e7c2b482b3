-- What the points of a seek table mean (RFC 9639, section 8.5.1).
use Rattle.std.specs.Prelude.{◌≡◌, ℕ, ◌+◌, ◌*◌, ◌<◌, ◌≤◌, Bool, true, List, length, take, None, Contains}
use Rattle.flac_bits.specs.Forms.{joined}
use Rattle.flac_meta.specs.Valid.{AllAre}
use Rattle.flac_meta.specs.declared.seek_table.SeekPoint.{SeekPoint}
use Rattle.flac_frame.specs.Audio.{Sound}
use Rattle.flac_native.specs.Given.{Cut, fits_plan, size_of, plan_fault}
use Rattle.flac_native.specs.Seeking.{points_of}
use Rattle.flac_native.specs.Writing.{AreFrames}

-- one of a point's samples has this number
pub record Holds (x : SeekPoint) (sample : ℕ) : Type 0 where
  pub first : x.sample ≤ sample
  pub after : sample < x.sample + x.length

-- A point names one of these frames: its first sample, the bytes before it, and its samples, of which one is a
-- multiple.
pub record NamesFrame (p : Cut) (frames : List (List Bool)) (x : SeekPoint) : Type 0 where
  pub number : ℕ
  pub among : number < length frames
  pub sample : x.sample ≡ p.block_size * number
  pub offset : 8 * x.offset ≡ length (joined (take number frames))
  pub samples : x.length ≡ size_of p.block_size p.total number
  pub multiple : ℕ
  pub holds : Holds x (p.seek_every * multiple)

-- Each point of the table of frames does this, and each multiple below the number of samples is in the frame of a
-- point.
abbrev pub PointsNameFrames : Type 0
PointsNameFrames = (p : Cut) (a : Sound) (frames : List (List Bool)) → plan_fault p ≡ None → fits_plan p a ≡ true → AreFrames p a frames
    → AllAre (NamesFrame p frames) (points_of p frames)
    × ((m : ℕ) → 0 < p.seek_every → p.seek_every * m < p.total → (x : SeekPoint) × Contains (points_of p frames) x × Holds x (p.seek_every * m))
