-- For proofs of encodings: what is read and written for one, and why it is refused.
use Rattle.std.specs.Prelude.{◌≡◌, ◌⊎◌, ℕ, List, Bool, Option, Some, None, Result, IfErr}
use Rattle.flac_bits.specs.declared.source.Source as source
use Rattle.flac_bits.specs.declared.target.Target as target
use Rattle.flac_bits.specs.declared.why.Why.{Why}
use Rattle.flac_bits.specs.declared.why.Why.TheVariants as why
use Rattle.flac_meta.specs.Listed.{list_fault, info_seen}
use Rattle.flac_meta.specs.declared.block.Block.{Block}
use Rattle.flac_frame.specs.Audio.{Sound}
use Rattle.flac_native.specs.Given.{Cut}
use Rattle.flac_native.specs.declared.fault.EncodeFault.{EncodeFault}
use Rattle.flac_cli.specs.Asked.{Asked, asked_of}
use Rattle.flac_cli.specs.Calls.{HasWritten, IfRead}
use Rattle.flac_raw.specs.Raw.{IsRaw, raw_sound}
use Rattle.flac_cli.specs.Refusals.{input_fault, stream_fault, IsReason, IsOutside}
use Rattle.flac_cli.specs.declared.encode.Encoding.{Encoding}
use Rattle.flac_cli.specs.declared.encode.Refusal.{Refusal}
use Rattle.flac_cli.specs.declared.encode.Refusal.TheVariants.{Output}
use Rattle.flac_jobs.specs.declared.formats.ContainerKind.{ContainerKind}

-- ---- raw samples

-- these bytes are exactly these samples, in the profile and the format that are asked for
abbrev pub AreRawFor : Encoding → Sound → (bytes : List ℕ) → Type 0
AreRawFor encoding a bytes = IsRaw encoding.profile encoding.format bytes a

-- the samples of this format that these bytes are
abbrev pub sound_for : Encoding → (bytes : List ℕ) → Sound
sound_for encoding bytes = raw_sound encoding.profile encoding.format bytes

-- there is no reason not to take these bytes as such samples
abbrev pub CanBeInput : Encoding → (bytes : List ℕ) → Type 0
CanBeInput encoding bytes = input_fault (asked_of encoding) bytes ≡ None

-- ---- blocks

-- these blocks may come after STREAMINFO
abbrev pub AreAllowed : List Block → Type 0
AreAllowed list = list_fault info_seen list ≡ None

-- the first reason why they may not, or memory ran out
abbrev pub IsListFault : List Block → Why → Type 0
IsListFault list e = (e ≡ why.Memory) ⊎ (list_fault info_seen list ≡ Some e)

-- ---- what is written

-- what was written is as `Is` says of what the encoding asks for, if the bytes of the source and of the target are
-- known
abbrev pub WritesAs : {S T : Type 0} (g : source.Ghosts S) (h : target.Ghosts T) → (Is : Asked → List ℕ → (before after : List Bool) → Type 0) → Encoding → (from : S) (old new : T) → Type 0
WritesAs g h Is encoding from old new = HasWritten g h from old new (Is (asked_of encoding))

-- ---- errors: that of the source or of the target, out of memory, or the reason that is named here

-- the reason that there is for the bytes of the source, if they are known and it returned no error
abbrev pub RefusesRead : {S X : Type 0} (g : source.Ghosts S) (from to : S) → (fault : List ℕ → Option Refusal) → Result X Refusal → Type 0
RefusesRead g from to fault result = IfErr result (λ e. IfRead g from to (λ bytes. IsOutside e ⊎ (fault bytes ≡ Some e)))

-- the first reason for which they cannot be encoded as raw samples
abbrev pub RefusesAsRaw : {S X : Type 0} (g : source.Ghosts S) → Encoding → (from to : S) → Result X Refusal → Type 0
RefusesAsRaw g encoding from to result = IfErr result (λ e. IfRead g from to (λ bytes. IsOutside e ⊎ IsReason (asked_of encoding) bytes (Some e)))

-- the reason for which the container does not take these blocks
abbrev pub IsStreamFault : ContainerKind → Cut → List Block → EncodeFault → Type 0
IsStreamFault container plan list e = IsOutside (Output e) ⊎ (stream_fault container plan list ≡ Some e)
