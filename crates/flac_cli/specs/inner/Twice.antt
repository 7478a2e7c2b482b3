-- For proofs of encodings of raw samples that are read twice.
use Rattle.std.specs.Prelude.{ℕ, List, Option, Some, None}
use Rattle.flac_bits.specs.declared.source.Source as source
use Rattle.flac_raw.specs.Faults.{AreSamples}
use Rattle.flac_raw.specs.declared.raw_fault.RawEncodeFault.{RawEncodeFault}
use Rattle.flac_raw.specs.declared.raw_fault.RawEncodeFault.TheVariants as fault
use Rattle.flac_cli.specs.Asked.{asked_of}
use Rattle.flac_cli.specs.Calls.{IfRead}
use Rattle.flac_cli.specs.Refusals.{refusal_as}
use Rattle.flac_cli.specs.Twice.{IsTwiceReason}
use Rattle.flac_cli.specs.declared.encode.Encoding.{Encoding}
use Rattle.flac_cli.specs.declared.encode.Refusal.{Refusal}
use Rattle.flac_cli.specs.declared.encode.Refusal.TheVariants.{Output}
use Rattle.flac_cli.specs.declared.encode_twice.TwiceFault.{TwiceFault}

-- the reason for which they are not encoded; `None` if other bytes came
abbrev pub reason_as : RawEncodeFault → Option Refusal
reason_as (fault.Raw f) = Some (refusal_as f)
reason_as (fault.Encode f) = Some (Output f)
reason_as fault.Changed = None

abbrev pub as_twice : Refusal → TwiceFault
as_twice r = record { reason = Some r }

-- these bytes are samples of the format that is asked for, `total` of each channel
abbrev pub AreSamplesFor : Encoding → (total : ℕ) (bytes : List ℕ) → Type 0
AreSamplesFor encoding total bytes = AreSamples encoding.profile encoding.format bytes total

-- this is why it stops, if the bytes of both sources are known and neither returned an error
abbrev pub StopsFor : {S T : Type 0} (g : source.Ghosts S) (h : source.Ghosts T) → Encoding → (old new : S) (from to : T) → TwiceFault → Type 0
StopsFor g h encoding old new from to fault = IfRead g old new (λ bytes. IfRead h from to (λ others. IsTwiceReason (asked_of encoding) bytes others fault.reason))
