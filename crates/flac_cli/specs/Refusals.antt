-- Which raw samples cannot be encoded as asked for, and for which first reason.
use Rattle.std.specs.Prelude.{◌≡◌, ◌⊎◌, ◌&&◌, not, is_some, ℕ, cond, List, codes, Err, Option, Some, None, option_map}
use Rattle.std.specs.Option.{option_or}
use Rattle.flac_bits.specs.Reasons as reasons
use Rattle.flac_bits.specs.declared.why.Why.TheVariants as why
use Rattle.flac_header.specs.declared.subset.Profile.{Profile}
use Rattle.flac_meta.specs.Listed.{list_fault, info_seen}
use Rattle.flac_meta.specs.declared.block.Block.{Block}
use Rattle.flac_subframe.specs.declared.format.linear.LinearPredictor.{LinearPredictor}
use Rattle.flac_frame.specs.Setup as setup
use Rattle.flac_native.specs.Given.{Cut, plan_fault}
use Rattle.flac_native.specs.Numbers as numbers
use Rattle.flac_native.specs.Seeking.{repeats_table}
use Rattle.flac_native.specs.declared.fault.EncodeFault.{EncodeFault}
use Rattle.flac_native.specs.declared.fault.EncodeFault.TheVariants as encode
use Rattle.flac_ogg.specs.Writing.{may_be_ogg}
use Rattle.flac_cli.specs.Asked.{Asked}
use Rattle.flac_cli.specs.Encoded.{comment_list, cut_as}
use Rattle.flac_cli.specs.Predictors.{predictors_in, AreListed}
use Rattle.flac_raw.specs.Faults as samples
use Rattle.flac_raw.specs.Raw.{raw_sound}
use Rattle.flac_raw.specs.declared.raw_fault.RawFault.{RawFault}
use Rattle.flac_raw.specs.declared.raw_fault.RawFault.TheVariants as raw
use Rattle.flac_cli.specs.declared.encode.Refusal.{Refusal}
use Rattle.flac_cli.specs.declared.predictors.ListFault.{ListFault}
use Rattle.flac_cli.specs.declared.predictors.ListFault.TheVariants as faults
use Rattle.flac_cli.specs.declared.encode.Refusal.TheVariants.{Input, Setup, NotRaw, RawLength, Line, Output}
use Rattle.flac_jobs.specs.Kinds.{file_kind}
use Rattle.flac_jobs.specs.declared.formats.RawFormat.{RawFormat}
use Rattle.flac_jobs.specs.declared.formats.ContainerKind.{ContainerKind}
use Rattle.flac_jobs.specs.declared.formats.ContainerKind.TheVariants as container

-- the reason for which bytes are no samples, as the program has it
abbrev pub refusal_as : RawFault → Refusal
refusal_as (raw.Input why) = Input why
refusal_as (raw.Setup fault) = Setup fault
refusal_as raw.RawLength = RawLength

-- why these bytes are no samples of this format
abbrev pub raw_fault : Profile → RawFormat → (bytes : List ℕ) → Option Refusal
raw_fault profile format bytes = option_map refusal_as (samples.raw_fault profile format bytes)

-- Why these bytes are not taken as such samples: the format; then, unless any bytes are taken, that they begin as a
-- file that may hold a song, which would become noise; then their number and the samples.
unfoldable pub input_fault : Asked → (bytes : List ℕ) → Option Refusal
input_fault asked bytes =
    option_or (option_map Setup (samples.format_fault asked.profile asked.format))
    (cond (not asked.any && is_some (file_kind bytes)) (Some NotRaw)
    (raw_fault asked.profile asked.format bytes))

-- Why the calls that write a stream refuse these blocks: a native one has one seek table at most (section 8), and one
-- in Ogg none.
abbrev pub stream_fault : ContainerKind → Cut → List Block → Option EncodeFault
stream_fault container.Native p list = cond (repeats_table p list) (Some encode.RepeatedBlock) None
stream_fault (container.Ogg serial) p list = cond (may_be_ogg p list) None (Some encode.BadMapping)

-- The first reason for which these bytes cannot be encoded as asked for with these predictors, if there is one: the
-- samples; how they are cut into blocks; the predictors; the words as comments; the container.
unfoldable pub refusal : Asked → List LinearPredictor → (bytes : List ℕ) → Option Refusal
refusal asked ps bytes =
    option_or (input_fault asked bytes)
    (option_or (option_map Setup (plan_fault (cut_as asked (raw_sound asked.profile asked.format bytes) ps)))
    (option_or (option_map Input (list_fault info_seen (comment_list asked.words)))
    (option_map Output (stream_fault asked.container (cut_as asked (raw_sound asked.profile asked.format bytes) ps) (comment_list asked.words)))))

-- This is the first reason, if there is one: the first line of the list that is no predictor; else what holds of the
-- list's predictors.
abbrev pub IsReason : Asked → (bytes : List ℕ) → Option Refusal → Type 0
IsReason asked bytes reason =
    ((number : ℕ) × (predictors_in asked.list ≡ Err number) × (reason ≡ Some (Line number)))
    ⊎ ((ps : List LinearPredictor) × AreListed asked.list ps × (reason ≡ refusal asked ps bytes))

-- the number and the name of a reason
abbrev pub text_of : Refusal → List ℕ
text_of (Input why) = reasons.text_of why
text_of (Setup fault) = setup.text_of fault
text_of NotRaw = codes "56 NotRaw"
text_of RawLength = codes "48 RawLength"
text_of (Line number) = codes "53 PredictorLine"
text_of (Output fault) = numbers.text_of fault

-- why an encoding is refused whose list is
abbrev pub refusal_of : ListFault → Refusal
refusal_of faults.Memory = Input why.Memory
refusal_of (faults.Line number) = Line number

-- no fault of what was asked for: out of memory, or the target failed
abbrev pub IsOutside : Refusal → Type 0
IsOutside r = (r ≡ Input why.Memory) ⊎ ((r ≡ Output encode.Memory) ⊎ (r ≡ Output encode.Write))

-- there is no such reason if the job is an encoding
abbrev pub CanBeEncoded : Option Asked → (bytes : List ℕ) → Type 0
CanBeEncoded (Some asked) bytes = IsReason asked bytes None
CanBeEncoded None bytes = Unit {0}
