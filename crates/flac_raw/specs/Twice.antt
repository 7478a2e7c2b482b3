-- Raw samples that are read twice: judged first, and then encoded.
use Rattle.std.specs.Prelude.{◌≡◌, ◌≢◌, ◌⊎◌, ℕ, Bool, List, Option, Some, None}
use Rattle.flac_bits.specs.declared.source.Source as source
use Rattle.flac_bits.specs.declared.target.Target as target
use Rattle.flac_raw.specs.Reading.{IfKnown, IfRead}
use Rattle.flac_raw.specs.Encoded.{EncodesRaw, HasSent, IsOutside, refusal}
use Rattle.flac_raw.specs.declared.raw_fault.RawEncodeFault.{RawEncodeFault}
use Rattle.flac_raw.specs.declared.raw_fault.RawEncodeFault.TheVariants.{Changed}
use Rattle.flac_raw.specs.declared.two_passes.RawEncoding.{RawEncoding}

-- after the bits that were there, the stream that is asked for was written, of the samples that these bytes are
abbrev pub EncodesAsked : RawEncoding → (bytes : List ℕ) (before after : List Bool) → Type 0
EncodesAsked asked bytes before after = EncodesRaw asked.profile asked.format asked.search asked.predictors.items asked.list bytes before after

-- the target was sent the stream of the bytes of the second source, if both are known
abbrev pub SendsAsked : {S T : Type 0} (g : source.Ghosts S) (h : target.Ghosts T) → RawEncoding → (second : S) (old new : T) → Type 0
SendsAsked g h asked second old new = IfKnown g second (λ bytes. HasSent h old new (EncodesAsked asked bytes))

-- the first reason for which these bytes cannot be encoded so, if there is one
abbrev pub asked_refusal : RawEncoding → (bytes : List ℕ) → Option RawEncodeFault
asked_refusal asked bytes = refusal asked.profile asked.format asked.predictors.items asked.list bytes

-- there is none
abbrev pub AreAccepted : RawEncoding → (bytes : List ℕ) → Type 0
AreAccepted asked bytes = asked_refusal asked bytes ≡ None

-- Why it stops: memory ran out, or the target failed; or for the reason that there is for the bytes of the first source; or
-- the second source has other bytes. The bytes of both are known, and neither returned an error.
abbrev pub StopsBoth : {S T : Type 0} (g : source.Ghosts S) (h : source.Ghosts T) → RawEncoding → (old new : S) (from to : T) → RawEncodeFault → Type 0
StopsBoth g h asked old new from to e =
    IfRead g old new (λ bytes. IfRead h from to (λ others. IsOutside e ⊎ ((asked_refusal asked bytes ≡ Some e) ⊎ ((e ≡ Changed) × (others ≢ bytes)))))
