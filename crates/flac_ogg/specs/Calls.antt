-- What a call does that decodes what a source has to come into a sink, as an Ogg stream or as a stream in either
-- container.
use Rattle.std.specs.Prelude.{◌≡◌, ◌<◌, ◌++◌, ◌⊎◌, ℕ, Bool, true, Option, None, Result}
use Rattle.flac_bits.specs.Bits.{bits_of}
use Rattle.flac_bits.specs.Handing.{InputReading, Hands, Decides, outcome_of}
use Rattle.flac_bits.specs.declared.source.Source as source
use Rattle.flac_bits.specs.declared.why.Why.{Why}
use Rattle.flac_bits.specs.declared.why.Why.TheVariants.{Read}
use Rattle.flac_header.specs.declared.subset.Profile.{Profile}
use Rattle.flac_native.specs.Decoding.{start_mark, taken}
use Rattle.flac_native.specs.Item.{fault_pair}
use Rattle.flac_native.specs.Stream.{Piece}
use Rattle.flac_native.specs.declared.decoding.Sink as sink
use Rattle.flac_native.specs.declared.fault.Fault.{Fault}
use Rattle.flac_native.specs.declared.fault.Place.{Place}
use Rattle.flac_ogg.specs.Decoding.{ogg_reading_of}
use Rattle.flac_ogg.specs.Either.{begins_page, read_either, read_any}
use Rattle.flac_ogg.specs.Fronts.{front_bytes}

-- ---- the source

-- it returned no error in the call, announced or not
abbrev pub HadNoError : {R : Type 0} → source.Ghosts R → (old new : R) → Type 0
HadNoError g old new = (g.errors new ≡ g.errors old) × (g.raised new ≡ g.raised old)

-- what comes after its bytes is the same, if they are known and it returned no unannounced error
abbrev pub KeepsEnd : {R : Type 0} → source.Ghosts R → (old new : R) → Type 0
KeepsEnd g old new = g.known old ≡ true → g.errors new ≡ g.errors old → g.after new ≡ g.after old

-- the byte in front was the first of its bytes, if they are known
abbrev pub TakesFront : {R : Type 0} → source.Ghosts R → (old new : R) → Option ℕ → Type 0
TakesFront g old new front = g.known old ≡ true → g.coming old ≡ front_bytes front ++ g.coming new

-- with Read it returned an error, if its bytes are known and none was announced
abbrev pub HasReadError : {R : Type 0} → source.Ghosts R → (old new : R) → Why → Type 0
HasReadError g old new why = g.known old ≡ true → (g.after old).fails ≡ None → why ≡ Read → g.errors old < g.errors new

-- the same, where a call may also raise the count of all errors alone
abbrev pub HasAnyError : {R : Type 0} → source.Ghosts R → (old new : R) → Why → Type 0
HasAnyError g old new why = g.known old ≡ true → (g.after old).fails ≡ None → why ≡ Read → (g.errors old < g.errors new) ⊎ (g.raised old < g.raised new)

-- ---- how what it has to come is read

-- as an Ogg stream, or as a native one
abbrev pub reading_as : {R : Type 0} → source.Ghosts R → Profile → Bool → R → InputReading Piece Place
reading_as g profile is_ogg s = read_either profile is_ogg (start_mark (g.after s)) (bits_of (g.coming s))

-- by a call that chooses the container by the first byte
abbrev pub reading_of : {R : Type 0} → source.Ghosts R → Profile → R → InputReading Piece Place
reading_of g profile s = read_any profile (begins_page (g.coming s)) (start_mark (g.after s)) (bits_of (g.coming s))

-- ---- what the call returns, and what the sink took

-- If the source's bytes and the sink are known: at Ok what the source had to come is a stream, and the sink took
-- exactly its items; it is refused only as it is, after exactly the items before; and in each case the sink took whole
-- items, from the start.
module _ {R S X : Type 0} (g : source.Ghosts R) (k : sink.Ghosts S) (profile : Profile) where
  abbrev pub HandsOgg : (old new : R) → (before after : S) → Result X Fault → Type 0
  HandsOgg old new before after result =
      g.known old ≡ true → k.known before ≡ true → Hands (ogg_reading_of g profile old) (taken k.takes) k.errors (g.errors new ≡ g.errors old) before after (outcome_of fault_pair result)

  abbrev pub HandsAs : Bool → (old new : R) → (before after : S) → Result X Fault → Type 0
  HandsAs is_ogg old new before after result =
      g.known old ≡ true → k.known before ≡ true → Hands (reading_as g profile is_ogg old) (taken k.takes) k.errors (HadNoError g old new) before after (outcome_of fault_pair result)

  abbrev pub HandsAny : (old new : R) → (before after : S) → Result X Fault → Type 0
  HandsAny old new before after result =
      g.known old ≡ true → k.known before ≡ true → Hands (reading_of g profile old) (taken k.takes) k.errors (HadNoError g old new) before after (outcome_of fault_pair result)

  -- If also neither the source nor the sink returned an error: a stream is not refused, unless memory runs out, and the
  -- place and the reason are those that the bytes show.
  abbrev pub DecidesOgg : (old new : R) → (before after : S) → Result X Fault → Type 0
  DecidesOgg old new before after result =
      g.known old ≡ true → k.known before ≡ true → g.errors new ≡ g.errors old → k.errors after ≡ k.errors before → Decides (ogg_reading_of g profile old) (outcome_of fault_pair result)

  abbrev pub DecidesAs : Bool → (old new : R) → (before after : S) → Result X Fault → Type 0
  DecidesAs is_ogg old new before after result =
      g.known old ≡ true → k.known before ≡ true → g.errors new ≡ g.errors old → g.raised new ≡ g.raised old → k.errors after ≡ k.errors before → Decides (reading_as g profile is_ogg old) (outcome_of fault_pair result)

  abbrev pub DecidesAny : (old new : R) → (before after : S) → Result X Fault → Type 0
  DecidesAny old new before after result =
      g.known old ≡ true → k.known before ≡ true → g.errors new ≡ g.errors old → g.raised new ≡ g.raised old → k.errors after ≡ k.errors before → Decides (reading_of g profile old) (outcome_of fault_pair result)
