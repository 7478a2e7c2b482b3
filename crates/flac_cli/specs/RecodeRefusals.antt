-- Which streams cannot be encoded anew as asked for, for which first reason, and what is reported of it.
use Rattle.std.specs.Prelude.{◌≡◌, ◌⊎◌, ℕ, ℤ, List, [], ◌++◌, Err, Option, Some, None, option_map, unwrap_or, false, true}
use Rattle.std.specs.Option.{option_or}
use Rattle.flac_bits.specs.State.{After}
use Rattle.flac_bits.specs.declared.source.Source as source
use Rattle.flac_bits.specs.declared.target.Target as target
use Rattle.flac_bits.specs.declared.why.Why.TheVariants as why
use Rattle.flac_info.specs.Info.{Info}
use Rattle.flac_meta.specs.Listed.{list_fault, info_seen}
use Rattle.flac_meta.specs.declared.block.Block.{Block}
use Rattle.flac_header.specs.declared.subset.Profile.TheVariants.{Lax}
use Rattle.flac_frame.specs.Audio.{Sound, audio_fault}
use Rattle.flac_frame.specs.Frame.{Frame}
use Rattle.flac_subframe.specs.declared.format.linear.LinearPredictor.{LinearPredictor}
use Rattle.flac_native.specs.Given.{plan_fault}
use Rattle.flac_native.specs.Places.{fault_text}
use Rattle.flac_native.specs.Stream.{Piece}
use Rattle.flac_native.specs.declared.fault.Fault.{Fault}
use Rattle.flac_native.specs.declared.fault.Place.{Place}
use Rattle.flac_cli.specs.Asked.{Asked}
use Rattle.flac_cli.specs.Calls.{Passed, IfAllServe}
use Rattle.flac_cli.specs.Encoded.{cut_as}
use Rattle.flac_cli.specs.Outcomes.{input_reading, reason_text}
use Rattle.flac_cli.specs.Predictors.{predictors_in, AreListed}
use Rattle.flac_cli.specs.Recoded.{heard_in, sound_of, blocks_in, IsStreamOf, WritesAnew, BeginsAnew}
use Rattle.flac_cli.specs.Refusals.{stream_fault, IsOutside as IsOutsideOf}
use Rattle.flac_cli.specs.Reports.{Files, fault_line, AddsLine, path_of, line_text}
use Rattle.flac_cli.specs.Streams.{profile_of}
use Rattle.flac_cli.specs.declared.encode.Refusal.{Refusal}
use Rattle.flac_cli.specs.declared.encode.Refusal.TheVariants as refusal
use Rattle.flac_cli.specs.declared.recode.RecodeRefusal.{RecodeRefusal}
use Rattle.flac_cli.specs.declared.recode.RecodeRefusal.TheVariants.{Unread, Refused}
use Rattle.flac_jobs.specs.declared.recodings.Recoding.{Recoding}

-- ---- what is asked for

-- by these words, and with this text of a list of predictors; rate, channels and bits are those of the stream
abbrev pub asked_for : Recoding → (list : List ℕ) → Asked
asked_for r list = record {
  profile = profile_of r.lax;
  format = record { rate = 0; channels = 0; bits = 0; block = r.block; seek_every = r.seek_every };
  container = r.container;
  words = [];
  list = list;
  effort = r.effort;
  any = true;
  keep = false;
  to_end = false;
}

-- the paths of its files; that of the input in place of the list's if there is no list
abbrev pub files_for : Recoding → Files
files_for r = record { input = r.input.now; output = r.output.now; list = unwrap_or (option_map (λ path. path.now) r.predictors) r.input.now }

-- what was written is what a recoding with this list asks for
abbrev pub RecodesFile : {S T : Type 0} (g : source.Ghosts S) (h : target.Ghosts T) → Recoding → (list : List ℕ) → (from : S) (old new : T) → Type 0
RecodesFile g h r list from old new = WritesAnew g h (asked_for r list) from old new

-- nothing was written, or a prefix of that
abbrev pub BeginsRecode : {S T : Type 0} (g : source.Ghosts S) (h : target.Ghosts T) → Recoding → (list : List ℕ) → (from : S) (old new : T) → Type 0
BeginsRecode g h r list from old new = BeginsAnew g h (asked_for r list) from old new

-- ---- reasons

-- The first reason for which these samples and blocks cannot be written as asked for with these predictors, if there is
-- one: the samples; how they are cut into blocks; the predictors; the blocks; the container.
unfoldable pub sound_refusal : Asked → List LinearPredictor → Sound → List Block → Option Refusal
sound_refusal asked ps a list =
    option_or (option_map refusal.Setup (audio_fault a.profile a.rate a.bits a.channels))
    (option_or (option_map refusal.Setup (plan_fault (cut_as asked a ps)))
    (option_or (option_map refusal.Input (list_fault info_seen list))
    (option_map refusal.Output (stream_fault asked.container (cut_as asked a ps) list))))

-- the same of a stream with this STREAMINFO, these blocks and these channels of samples, or these frames
abbrev pub held_refusal : Asked → List LinearPredictor → Info → List Block → (channels : List (List ℤ)) → Option Refusal
held_refusal asked ps info list channels = sound_refusal asked ps (sound_of asked.profile info channels) (blocks_in asked.container list)

abbrev pub recoding_refusal : Asked → List LinearPredictor → Info → List Block → List Frame → Option Refusal
recoding_refusal asked ps info list frames = held_refusal asked ps info list (heard_in info frames)

-- This is the first reason, if there is one, if these are the predictors: where and why the bytes are no stream; else
-- what holds of the stream's samples and blocks.
abbrev pub IsInputReason : Asked → List LinearPredictor → (bytes : List ℕ) → After → Option RecodeRefusal → Type 0
IsInputReason asked ps bytes follows reason =
    ((fault : Fault) × ((items : List Piece) × (input_reading Lax bytes follows).refused items fault.at fault.why) × (reason ≡ Some (Unread fault)))
    ⊎ ((info : Info) × (list : List Block) × (frames : List Frame) × IsStreamOf bytes follows info list frames × (reason ≡ option_map Refused (recoding_refusal asked ps info list frames)))

-- This is the first reason, if there is one: the first line of the list that is no predictor; else that.
abbrev pub IsRecodeReason : Asked → (bytes : List ℕ) → After → Option RecodeRefusal → Type 0
IsRecodeReason asked bytes follows reason =
    ((number : ℕ) × (predictors_in asked.list ≡ Err number) × (reason ≡ Some (Refused (refusal.Line number))))
    ⊎ ((ps : List LinearPredictor) × AreListed asked.list ps × IsInputReason asked ps bytes follows reason)

-- if the bytes of the source are known, there is no such reason
abbrev pub CanBeRecoded : {S : Type 0} (g : source.Ghosts S) → Asked → S → Type 0
CanBeRecoded g asked from = g.known from ≡ true → IsRecodeReason asked (g.coming from) (g.after from) None

-- no fault of what was asked for: out of memory, or the target failed
abbrev pub IsOutside : RecodeRefusal → Type 0
IsOutside e = ((fault : Fault) × (e ≡ Unread fault) × (fault.why ≡ why.Memory)) ⊎ ((r : Refusal) × (e ≡ Refused r) × IsOutsideOf r)

-- ---- reports

-- the path of the file at fault, and the reason as it is printed
abbrev pub recode_path : Files → RecodeRefusal → List ℕ
recode_path files (Unread fault) = files.input
recode_path files (Refused r) = path_of files r

abbrev pub recode_text : RecodeRefusal → List ℕ
recode_text (Unread fault) = fault_text fault
recode_text (Refused r) = line_text r

-- exactly the line of this error was added
abbrev pub AddsRefusal : Files → RecodeRefusal → (before after : List ℕ) → Type 0
AddsRefusal files e before after = AddsLine (recode_path files e) (recode_text e) before after

-- The status, and what was added to standard error: 0 and nothing if there is no reason, else 1 and the line of the
-- reason.
abbrev pub IsRecodeAnswer : Option RecodeRefusal → Files → (status : ℕ) → (before after : List ℕ) → Type 0
IsRecodeAnswer None files status before after = (status ≡ 0) × (after ≡ before)
IsRecodeAnswer (Some e) files status before after = (status ≡ 1) × (after ≡ before ++ fault_line (recode_path files e) (recode_text e))

-- This is the report of the first reason for which these bytes cannot be encoded anew; or memory ran out, maybe at a
-- place of the stream: then the status is 1, and the line says that.
abbrev pub IsRecodeReport : Asked → (bytes : List ℕ) → After → Files → (status : ℕ) → (before after : List ℕ) → Type 0
IsRecodeReport asked bytes follows files status before after =
    ((reason : Option RecodeRefusal) × IsRecodeReason asked bytes follows reason × IsRecodeAnswer reason files status before after)
    ⊎ ((at : Option Place) × (status ≡ 1) × (after ≡ before ++ fault_line files.input (reason_text at why.Memory)))

-- the same, in the order in which calls name it
abbrev pub ReportsRecoding : Asked → Files → (status : ℕ) → List ℕ → After → (before after : List ℕ) → Type 0
ReportsRecoding asked files status bytes follows before after = IsRecodeReport asked bytes follows files status before after

-- the same of devices, if none of them failed; `list` is the text of the list of predictors
abbrev pub ReportsRecode : {S T E : Type 0} (g : source.Ghosts S) (h : target.Ghosts T) (k : target.Ghosts E) → Recoding → (list : List ℕ) → (status : ℕ) → Passed S → Passed T → Passed E → Type 0
ReportsRecode g h k recoding list status source target err = IfAllServe g h k source target err (ReportsRecoding (asked_for recoding list) (files_for recoding) status)

-- the line of a recoding that failed, of the file at fault
abbrev pub NamesRecoding : Files → (before after : List ℕ) → Type 0
NamesRecoding files before after = (e : RecodeRefusal) × (after ≡ before ++ fault_line (recode_path files e) (recode_text e))
