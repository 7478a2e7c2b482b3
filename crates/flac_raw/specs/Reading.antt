-- What reading raw samples part by part gives.
use Rattle.std.specs.Prelude.{◌≡◌, ◌≢◌, ◌<◌, ◌+◌, ◌*◌, ◌%◌, ℕ, ℤ, pos, true, List, [], ◌++◌, length, map, take, drop, Vec, All, slice_index_or, Option, None, Result, IfOk, IfSome}
use Rattle.std.specs.Global.{Global}
use Rattle.flac_bits.specs.Signed.{FitsBits}
use Rattle.flac_bits.specs.declared.source.Source as source
use Rattle.flac_frame.specs.Audio.{samples_each}
use Rattle.flac_native.specs.Message.{sample_bytes, rows_bytes}
use Rattle.flac_raw.specs.Raw.{samples_at, raw_channels}

-- ---- samples

-- the samples of each channel, as calls hold them
abbrev pub samples_in : List (Vec ℤ Global) → List (List ℤ)
samples_in lists = map (λ c. c.items) lists

-- These are the samples of one channel in inter-channel samples of `row` bytes: each has `width` bytes, from the byte
-- `start` of its inter-channel sample on.
pub record IsChannel (bytes : List ℕ) (rows row start width : ℕ) (samples : List ℤ) : Type 0 where
  pub long : length samples ≡ rows
  pub spelled : (i : ℕ) → i < rows → sample_bytes width (slice_index_or samples i (pos 0)) ≡ take width (drop (i * row + start) bytes)
  pub fits : All (FitsBits (8 * width)) samples
  pub numbers : samples ≡ samples_at bytes row start width rows

-- the same of these bytes, for any number of inter-channel samples
abbrev pub IsPart : (row start width : ℕ) → (bytes : List ℕ) (rows : ℕ) → List ℤ → Type 0
IsPart row start width bytes rows samples = IsChannel bytes rows row start width samples

-- each of `count` channels is that of `rows` inter-channel samples of these bytes
pub record AreParts (count width : ℕ) (bytes : List ℕ) (rows : ℕ) (channels : List (List ℤ)) : Type 0 where
  pub many : length channels ≡ count
  pub each : (c : ℕ) → c < count → IsChannel bytes rows (count * width) (c * width) width (slice_index_or channels c [])

-- what is true of whole inter-channel samples is then true of these bytes and `rows` more
abbrev pub IsMore : {X : Type 0} (Is : List ℕ → ℕ → X → Type 0) (piece : List ℕ) (row rows : ℕ) (old new : X) → Type 0
IsMore Is piece row rows old new = (bytes : List ℕ) (before : ℕ) → length bytes ≡ before * row → Is bytes before old → Is (bytes ++ piece) (before + rows) new

-- the samples of all channels of a piece of `count` inter-channel samples were added
abbrev pub AddsPiece : (width count : ℕ) (piece : List ℕ) (old new : List (Vec ℤ Global)) → Type 0
AddsPiece width count piece old new = IsMore (AreParts (length old) width) piece (length old * width) count (samples_in old) (samples_in new)

-- these are the samples of `count` channels, each of `width` bytes
pub record AreChannels (bytes : List ℕ) (count width : ℕ) (channels : List (List ℤ)) : Type 0 where
  pub many : length channels ≡ count
  pub long : All (λ c. length c ≡ samples_each channels) channels
  pub spelled : rows_bytes width channels (samples_each channels) 0 ≡ bytes
  pub fits : All (λ c. All (FitsBits (8 * width)) c) channels
  pub numbers : channels ≡ raw_channels count width bytes

-- the same, in the order in which calls name it
abbrev pub AreChannelsOf : (count width : ℕ) → Vec (Vec ℤ Global) Global → (bytes : List ℕ) → Type 0
AreChannelsOf count width lists bytes = AreChannels bytes count width (samples_in lists.items)

-- these bytes are whole inter-channel samples of `row` bytes each, or they end inside one
abbrev pub EndsWhole : (row : ℕ) (bytes : List ℕ) → Type 0
EndsWhole row bytes = length bytes % row ≡ 0

abbrev pub EndsInside : (row : ℕ) (bytes : List ℕ) → Type 0
EndsInside row bytes = length bytes % row ≢ 0

-- ---- blocks

-- A call took the next `rows` inter-channel samples of `count` channels from a source, `old` before it and `new` after it.
-- `channels` are their samples, channel by channel. `g` is what is known of sources of its type.
pub record TakesRows {S : Type 0} (g : source.Ghosts S) (count width rows : ℕ) (old new : S) (channels : List (List ℤ)) : Type 0 where
  pub piece : List ℕ
  pub gave : g.known old ≡ true → g.coming old ≡ piece ++ g.coming new
  pub long : length piece ≡ rows * (count * width)
  pub are : AreParts count width piece rows channels

-- The same of calls that hold the channels as lists, `before` and `after` the call.
abbrev pub TakesLists : {S : Type 0} (g : source.Ghosts S) (width rows : ℕ) (old new : S) (before after : List (Vec ℤ Global)) → Type 0
TakesLists g width rows old new before after = TakesRows g (length before) width rows old new (samples_in after)

-- ---- sources

-- A call read all bytes of its source, and what comes after them is as it was. `g` is what is known of sources of its
-- type.
pub record HasRead {S : Type 0} (g : source.Ghosts S) (old new : S) : Type 0 where
  pub known : g.known old ≡ true → g.known new ≡ true
  pub end : g.known old ≡ true → g.coming new ≡ []
  pub after : g.known old ≡ true → g.after new ≡ g.after old
  pub raised : g.raised new ≡ g.raised old

-- if the bytes of the source are known, this holds of those that it had to give
abbrev pub IfKnown : {S : Type 0} (g : source.Ghosts S) (from : S) → (List ℕ → Type 0) → Type 0
IfKnown g from Says = g.known from ≡ true → Says (g.coming from)

-- the same if it also returned no error in the call, foretold or not
abbrev pub IfRead : {S : Type 0} (g : source.Ghosts S) (old new : S) → (List ℕ → Type 0) → Type 0
IfRead g old new Says = g.known old ≡ true → g.raised new ≡ g.raised old → Says (g.coming old)

-- if a call returned a value, this holds of it and of the bytes that the source had to give, if these are known
abbrev pub IfSomeRead : {S X E : Type 0} (g : source.Ghosts S) (from : S) → (X → List ℕ → Type 0) → Result (Option X) E → Type 0
IfSomeRead g from Is result = IfOk result (λ o. IfSome o (λ x. g.known from ≡ true → Is x (g.coming from)))

-- if it returned none, this holds of those bytes
abbrev pub IfNoneRead : {S X E : Type 0} (g : source.Ghosts S) (from : S) → (List ℕ → Type 0) → Result (Option X) E → Type 0
IfNoneRead g from Is result = IfOk result (λ o. o ≡ None → g.known from ≡ true → Is (g.coming from))
