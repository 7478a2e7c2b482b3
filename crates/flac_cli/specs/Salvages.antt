-- What `flac salvage` writes of what is left of a stream, and what it reports.
use Rattle.std.specs.Prelude.{◌≡◌, ◌⊎◌, ◌&&◌, ℕ, ℤ, Bool, true, false, not, nat_lt, cond, List, [], ◌∷◌, ◌++◌, Option, Some, None, option_map}
use Rattle.std.specs.List.{filter}
use Rattle.flac_bits.specs.State.{After}
use Rattle.flac_bits.specs.declared.source.Source as source
use Rattle.flac_bits.specs.declared.target.Target as target
use Rattle.flac_bits.specs.declared.why.Why.TheVariants as why
use Rattle.flac_frame.specs.declared.setup.SetupFault.TheVariants as setup
use Rattle.flac_meta.specs.declared.block.Block.{Block}
use Rattle.flac_meta.specs.declared.block.Block.TheVariants as block_of
use Rattle.flac_native.specs.declared.fault.Place.{Place}
use Rattle.flac_rescue.specs.Placed.{left_text}
use Rattle.flac_rescue.specs.Salvaged.{AreSalvaged, is_too_long}
use Rattle.flac_rescue.specs.Survey.{IsSurvey, IsSurveyFault}
use Rattle.flac_rescue.specs.declared.missing.Gap.{Gap}
use Rattle.flac_rescue.specs.declared.salvage.SalvageFault.{SalvageFault}
use Rattle.flac_rescue.specs.declared.salvage.SalvageFault.TheVariants as salvaging
use Rattle.flac_rescue.specs.declared.survey.Survey.{Survey}
use Rattle.flac_rescue.specs.declared.survey.SurveyFault.{SurveyFault}
use Rattle.flac_rescue.specs.declared.survey.SurveyFault.TheVariants as surveying
use Rattle.flac_whole_pages.specs.Left.{IsNativeLeft}
use Rattle.flac_whole_pages.specs.declared.left.Left.{Left}
use Rattle.flac_subframe.specs.declared.format.linear.LinearPredictor.{LinearPredictor}
use Rattle.flac_jobs.specs.Salvages.{recoding_for}
use Rattle.flac_jobs.specs.declared.salvages.Filling.{Filling}
use Rattle.flac_jobs.specs.declared.salvages.Filling.TheVariants.{Silence, Nothing}
use Rattle.flac_jobs.specs.declared.salvages.Salvage.{Salvage}
use Rattle.flac_cli.specs.Asked.{Asked}
use Rattle.flac_cli.specs.Calls.{HasWritten, IfServed}
use Rattle.flac_cli.specs.Encoded.{EncodesIn, BeginsIn, AreFound, cut_found}
use Rattle.flac_cli.specs.Outcomes.{reason_text}
use Rattle.flac_cli.specs.Recoded.{blocks_in, sound_of}
use Rattle.flac_cli.specs.RecodeRefusals.{asked_for, files_for, held_refusal, recode_path, recode_text}
use Rattle.flac_cli.specs.Reports.{Files, fault_line}
use Rattle.flac_cli.specs.Waves.{is_riff}
use Rattle.flac_cli.specs.declared.encode.Refusal.TheVariants as refusal
use Rattle.flac_cli.specs.declared.recode.RecodeRefusal.{RecodeRefusal}
use Rattle.flac_cli.specs.declared.recode.RecodeRefusal.TheVariants.{Unread, Refused}

-- ---- what is asked for

-- the encoding: that of a recoding of the same paths, without a list of predictors
abbrev pub salvage_asks : Salvage → Asked
salvage_asks s = asked_for (recoding_for s) []

abbrev pub salvage_files : Salvage → Files
salvage_files s = files_for (recoding_for s)

-- missing samples are silence; else they are left out
abbrev pub fills : Filling → Bool
fills Silence = true
fills Nothing = false

-- ---- what is written

-- a piece of the WAV file that a stream keeps: with its head, which states how many samples it has
abbrev pub keeps_wave : Block → Bool
keeps_wave (block_of.Application id bytes) = is_riff id
keeps_wave other = false

-- samples are missing in one of these gaps
abbrev pub lack : List Gap → Bool
lack [] = false
lack (g ∷ more) = cond (nat_lt g.first g.next) true (lack more)

-- fewer samples are written than there were
abbrev pub is_shorter : (silence : Bool) → Survey → Bool
is_shorter silence s = not silence && lack s.gaps.items

-- the blocks that fit what is written: of fewer samples, no WAV file is kept
abbrev pub fitting : (shorter : Bool) → List Block → List Block
fitting shorter list = filter (λ b. not (shorter && keeps_wave b)) list

-- what was found in these bytes: the blocks after STREAMINFO that fit what is written, and the samples that are made of
-- the frames that are kept
pub record IsLeft (silence : Bool) (bytes : List ℕ) (s : Survey) (list : List Block) (channels : List (List ℤ)) : Type 0 where
  pub survey : IsSurvey bytes s
  pub more : List Block
  pub blocks : s.blocks.items ≡ block_of.StreamInfo s.info ∷ more
  pub fit : list ≡ fitting (is_shorter silence s) more
  pub samples : AreSalvaged bytes s silence channels
  pub bounded : is_too_long silence s ≡ false

-- After the bits that were there, a stream was written as it is asked for: of these samples, with these blocks but for
-- the seek table. Each frame is a shortest one, as `Recodes` says.
pub record Salvages (asked : Asked) (silence : Bool) (bytes : List ℕ) (before after : List Bool) : Type 0 where
  pub survey : Survey
  pub list : List Block
  pub channels : List (List ℤ)
  pub left : IsLeft silence bytes survey list channels
  pub found : List (List (List LinearPredictor))
  pub sought : AreFound asked.effort [] found
  pub encodes : EncodesIn asked.container (cut_found asked (sound_of asked.profile survey.info channels) [] found) (blocks_in asked.container list) (sound_of asked.profile survey.info channels) before after

-- After the bits that were there, a prefix of such a stream was written.
pub record BeginsSalvaged (asked : Asked) (silence : Bool) (bytes : List ℕ) (before after : List Bool) : Type 0 where
  pub survey : Survey
  pub list : List Block
  pub channels : List (List ℤ)
  pub left : IsLeft silence bytes survey list channels
  pub found : List (List (List LinearPredictor))
  pub sought : AreFound asked.effort [] found
  pub begins : BeginsIn asked.container (cut_found asked (sound_of asked.profile survey.info channels) [] found) (blocks_in asked.container list) (sound_of asked.profile survey.info channels) before after

-- nothing was written, or such a prefix
abbrev pub HasBegunSalvaged : Asked → (silence : Bool) → (bytes : List ℕ) → (before after : List Bool) → Type 0
HasBegunSalvaged asked silence bytes before after = (after ≡ before) ⊎ BeginsSalvaged asked silence bytes before after

-- This holds of the bytes of a native stream that are left in an input: of all of it, or of those that the whole pages of
-- an Ogg stream hold.
pub record OfLeft (Says : List ℕ → Type 0) (input : List ℕ) : Type 0 where
  pub left : Left
  pub native : IsNativeLeft input left
  pub says : Says left.bytes.items

-- such a stream was written of what is left in an input
abbrev pub SalvagesInput : Asked → (silence : Bool) → (input : List ℕ) → (before after : List Bool) → Type 0
SalvagesInput asked silence input before after = OfLeft (λ bytes. Salvages asked silence bytes before after) input

-- nothing was written, or a prefix of it
abbrev pub HasBegunInput : Asked → (silence : Bool) → (input : List ℕ) → (before after : List Bool) → Type 0
HasBegunInput asked silence input before after = (after ≡ before) ⊎ OfLeft (λ bytes. BeginsSalvaged asked silence bytes before after) input

-- what was written is what a salvage asks for of the bytes of the source
abbrev pub SalvagesFile : {S T : Type 0} (g : source.Ghosts S) (h : target.Ghosts T) → Salvage → (from : S) (old new : T) → Type 0
SalvagesFile g h s from old new = HasWritten g h from old new (SalvagesInput (salvage_asks s) (fills s.filling))

-- nothing was written, or a prefix of that
abbrev pub BeginsSalvage : {S T : Type 0} (g : source.Ghosts S) (h : target.Ghosts T) → Salvage → (from : S) (old new : T) → Type 0
BeginsSalvage g h s from old new = HasWritten g h from old new (HasBegunInput (salvage_asks s) (fills s.filling))

-- ---- reasons

-- the reason that is reported of a stream that is not surveyed
abbrev pub survey_refusal : SurveyFault → RecodeRefusal
survey_refusal (surveying.Head fault) = Unread fault
survey_refusal surveying.Memory = Refused (refusal.Input why.Memory)
survey_refusal surveying.Unordered = Refused (refusal.Input why.Sequence)

-- and of one of which no samples are made
abbrev pub salvage_refusal : SalvageFault → RecodeRefusal
salvage_refusal salvaging.Memory = Refused (refusal.Input why.Memory)
salvage_refusal salvaging.TooLong = Refused (refusal.Setup setup.TooLong)

-- This is the first reason, if there is one: that for which the bytes are not surveyed; that there would be too much
-- silence; else what holds of the samples and the blocks.
abbrev pub IsSalvageReason : Asked → (silence : Bool) → (bytes : List ℕ) → Option RecodeRefusal → Type 0
IsSalvageReason asked silence bytes reason =
    ((fault : SurveyFault) × IsSurveyFault bytes fault × (reason ≡ Some (survey_refusal fault)))
    ⊎ (((s : Survey) × IsSurvey bytes s × (is_too_long silence s ≡ true) × (reason ≡ Some (salvage_refusal salvaging.TooLong)))
    ⊎ ((s : Survey) × (list : List Block) × (channels : List (List ℤ)) × IsLeft silence bytes s list channels × (reason ≡ option_map Refused (held_refusal asked [] s.info list channels))))

-- the same of what is left in an input
abbrev pub IsInputReason : Asked → (silence : Bool) → (input : List ℕ) → Option RecodeRefusal → Type 0
IsInputReason asked silence input reason = OfLeft (λ bytes. IsSalvageReason asked silence bytes reason) input

-- there is no such reason
abbrev pub CanBeSalvaged : Asked → Salvage → (input : List ℕ) → Type 0
CanBeSalvaged asked s input = IsInputReason asked (fills s.filling) input None

-- ---- what is printed

-- The line of the first reason was added; or memory ran out, maybe at a place of the stream, and it says that.
abbrev pub IsSalvageRefusal : Asked → (silence : Bool) → Files → (input : List ℕ) → (before after : List ℕ) → Type 0
IsSalvageRefusal asked silence files input before after =
    ((e : RecodeRefusal) × IsInputReason asked silence input (Some e) × (after ≡ before ++ fault_line (recode_path files e) (recode_text e)))
    ⊎ ((at : Option Place) × (after ≡ before ++ fault_line files.input (reason_text at why.Memory)))

-- the same of what is asked for, in the order in which calls name it
abbrev pub RefusesSalvage : Salvage → List ℕ → After → (before after : List ℕ) → Type 0
RefusesSalvage s input follows before after = IsSalvageRefusal (salvage_asks s) (fills s.filling) (salvage_files s) input before after

-- the lines of what is missing, and nothing else
pub record TellsLeft (path input before after : List ℕ) : Type 0 where
  pub left : Left
  pub native : IsNativeLeft input left
  pub survey : Survey
  pub is : IsSurvey left.bytes.items survey
  pub printed : after ≡ before ++ left_text path left survey

-- if the bytes of the source are known, and standard error did not fail, it got these lines
abbrev pub TellsMissing : {S E : Type 0} (g : source.Ghosts S) (k : target.Ghosts E) → Salvage → (from : S) (before after : E) → Type 0
TellsMissing g k s from before after = g.known from ≡ true → IfServed k before after (TellsLeft s.input.now (g.coming from))
