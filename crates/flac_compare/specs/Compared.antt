-- What a comparison of two streams says of their samples.
use Rattle.std.specs.Prelude.{◌≡◌, ◌≢◌, ◌⊎◌, ℕ, min, ℤ, List, ◌∷◌, ◌++◌, take, length, slice_get, Option, Some, None, Result, Ok, Err, ⊤}
use Rattle.flac_bits.specs.declared.why.Why.{Why}
use Rattle.flac_bits.specs.declared.why.Why.TheVariants.{Memory}
use Rattle.flac_frame.specs.Frame.{Frame}
use Rattle.flac_native.specs.Item.{fault_pair}
use Rattle.flac_native.specs.Giving.{stage_of}
use Rattle.flac_native.specs.declared.fault.Place.{Place}
use Rattle.flac_native.specs.declared.container.Container as container
use Rattle.flac_reader.specs.Coming.{FramesCome}
use Rattle.flac_reader.specs.declared.reader.Reader.{Reader}
use Rattle.flac_compare.specs.Samples.{samples_of}
use Rattle.flac_compare.specs.declared.difference.Difference.{Difference}
use Rattle.flac_compare.specs.declared.difference.Difference.TheVariants.{Sample, Length}
use Rattle.flac_compare.specs.declared.difference.Unread.{Unread}
use Rattle.flac_compare.specs.declared.difference.Unread.TheVariants.{First, Second}

-- a number as it is counted: at most 2^64 - 1
abbrev pub counted : ℕ → ℕ
counted n = min n 18446744073709551615

-- Two inter-channel samples are equal in all channels before this one, and differ in it; or only one of them has it.
pub record DiffersIn (channel : ℕ) (x y : List ℤ) : Type 0 where
  pub before : take channel x ≡ take channel y
  pub differs : slice_get x channel ≢ slice_get y channel

-- Two lists of inter-channel samples are equal before the one of this number, counted from 0, which differs, first in
-- this channel.
pub record DifferAt (number channel : ℕ) (xs ys : List (List ℤ)) : Type 0 where
  pub before : List (List ℤ)
  pub x : List ℤ
  pub y : List ℤ
  pub left : List (List ℤ)
  pub other : List (List ℤ)
  pub first : xs ≡ before ++ x ∷ left
  pub second : ys ≡ before ++ y ∷ other
  pub counts : number ≡ counted (length before)
  pub differs : DiffersIn channel x y

-- one list is the first part of the other, or all of it
abbrev pub OneBegins : (xs ys : List (List ℤ)) → Type 0
OneBegins xs ys = ((more : List (List ℤ)) × (ys ≡ xs ++ more)) ⊎ ((more : List (List ℤ)) × (xs ≡ ys ++ more))

-- One is a part of the other, and not all of it, and these are their lengths.
pub record HaveLengths (n m : ℕ) (xs ys : List (List ℤ)) : Type 0 where
  pub first : n ≡ counted (length xs)
  pub second : m ≡ counted (length ys)
  pub begins : OneBegins xs ys
  pub differ : xs ≢ ys

-- What a comparison says of two streams that have these inter-channel samples, before this end of each, which is a
-- refusal or none: that they are equal, and both end; in what they differ; or at what the first or the second is
-- refused, unless memory ran out.
abbrev pub SaysSamples : (xs ys : List (List ℤ)) (end stop : Option (Place × Why)) → Result (Option Difference) Unread → Type 0
SaysSamples xs ys end stop (Ok None) = (xs ≡ ys) × (end ≡ None) × (stop ≡ None)
SaysSamples xs ys end stop (Ok (Some (Sample number channel))) = DifferAt number channel xs ys
SaysSamples xs ys end stop (Ok (Some (Length n m))) = HaveLengths n m xs ys × (end ≡ None) × (stop ≡ None)
SaysSamples xs ys end stop (Ok (Some other)) = ⊤
SaysSamples xs ys end stop (Err (First f)) = f.why ≢ Memory → OneBegins xs ys × (end ≡ Some (fault_pair f))
SaysSamples xs ys end stop (Err (Second f)) = f.why ≢ Memory → OneBegins xs ys × (stop ≡ Some (fault_pair f))

-- This is so of the frames that two readers have to give.
abbrev pub ComparesFrames : {C D : Type 0} {g : container.Ghosts C} {h : container.Ghosts D} → Reader C g → Reader D h → Result (Option Difference) Unread → Type 0
ComparesFrames {g = g} {h = h} first second result = (frames others : List Frame) (end stop : Option (Place × Why))
    → FramesCome g first.ahead (stage_of first.decoder) frames end → FramesCome h second.ahead (stage_of second.decoder) others stop → SaysSamples (samples_of frames) (samples_of others) end stop result
