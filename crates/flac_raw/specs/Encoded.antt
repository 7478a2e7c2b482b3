-- What an encoding of raw samples, block by block, has written.
use Rattle.std.specs.Prelude.{◌≡◌, ◌⊎◌, ℕ, Bool, true, cond, codes, List, Option, Some, None, option_map}
use Rattle.std.specs.Option.{option_or}
use Rattle.flac_bits.specs.Bits.{bits_of}
use Rattle.flac_bits.specs.declared.source.Source as source
use Rattle.flac_bits.specs.declared.target.Target as target
use Rattle.flac_bits.specs.declared.why.Why.TheVariants as why
use Rattle.flac_header.specs.declared.subset.Profile.{Profile}
use Rattle.flac_meta.specs.declared.block.Block.{Block}
use Rattle.flac_subframe.specs.declared.format.linear.LinearPredictor.{LinearPredictor}
use Rattle.flac_native.specs.Given.{Cut, cut_of, with_predictors, plan_fault}
use Rattle.flac_native.specs.Numbers as numbers
use Rattle.flac_native.specs.Seeking.{repeats_table}
use Rattle.flac_native.specs.declared.fault.EncodeFault.TheVariants as encode
use Rattle.flac_predict.specs.declared.search.Search.{Search}
use Rattle.flac_encoder.specs.Pushing.{Fails}
use Rattle.flac_native.specs.declared.fault.EncodeFault.{EncodeFault}
use Rattle.flac_ogg.specs.Writing.{may_be_ogg}
use Rattle.flac_draft.specs.Draft.{EncodesFound}
use Rattle.flac_draft.specs.OggDraft.{EncodesOggFound}
use Rattle.flac_jobs.specs.declared.formats.ContainerKind.{ContainerKind}
use Rattle.flac_jobs.specs.declared.formats.ContainerKind.TheVariants as container
use Rattle.flac_jobs.specs.declared.formats.RawFormat.{RawFormat}
use Rattle.flac_raw.specs.Raw.{IsRaw, raw_sound}
use Rattle.flac_raw.specs.Reading.{IfKnown}
use Rattle.flac_raw.specs.Faults.{raw_fault, raw_text, AreSamples}
use Rattle.flac_raw.specs.Planned.{Planned, raw_cut, table_fault}
use Rattle.flac_raw.specs.declared.raw_fault.RawFault.TheVariants.{Input, Setup}
use Rattle.flac_raw.specs.declared.raw_fault.RawEncodeFault.{RawEncodeFault}
use Rattle.flac_raw.specs.declared.raw_fault.RawEncodeFault.TheVariants.{Raw, Encode, Changed}

-- ---- what is written

-- The samples that these bytes are, cut as their format asks, with these predictors: what `encode` of flac_native is given.
abbrev pub cut_for : Profile → RawFormat → List LinearPredictor → (bytes : List ℕ) → Cut
cut_for profile format ps bytes = with_predictors (cut_of format.block (raw_sound profile format bytes) format.seek_every) ps

-- After the bits that were there, the stream of the samples that these bytes are was written, as an encoder writes it
-- whose head is written last: by `drafts_are_encoded` and `found_are_encoded` that is what `encode` writes. The samples are
-- these bytes again.
pub record EncodesRaw (profile : Profile) (format : RawFormat) (search : Option Search) (ps : List LinearPredictor) (list : List Block) (bytes : List ℕ) (before after : List Bool) : Type 0 where
  pub raw : IsRaw profile format bytes (raw_sound profile format bytes)
  pub encodes : EncodesFound search (cut_for profile format ps bytes) list (raw_sound profile format bytes) before after

-- the same by a plan
abbrev pub EncodesBy : Planned → List Block → (bytes : List ℕ) → (before after : List Bool) → Type 0
EncodesBy p list bytes before after = EncodesRaw p.profile p.format p.search p.predictors list bytes before after

-- The same in Ogg, with this serial number: what `encode_ogg` writes.
pub record EncodesRawOgg (serial : ℕ) (profile : Profile) (format : RawFormat) (search : Option Search) (ps : List LinearPredictor) (list : List Block) (bytes : List ℕ) (before after : List Bool) : Type 0 where
  pub raw : IsRaw profile format bytes (raw_sound profile format bytes)
  pub encodes : EncodesOggFound search serial (cut_for profile format ps bytes) list (raw_sound profile format bytes) before after

-- the same by a plan, in either container
abbrev pub EncodesByIn : ContainerKind → Planned → List Block → (bytes : List ℕ) → (before after : List Bool) → Type 0
EncodesByIn container.Native p list bytes before after = EncodesBy p list bytes before after
EncodesByIn (container.Ogg serial) p list bytes before after = EncodesRawOgg serial p.profile p.format p.search p.predictors list bytes before after

-- the target, if its bytes are known, was sent this
abbrev pub HasSent : {S : Type 0} → target.Ghosts S → (old new : S) → ((before after : List Bool) → Type 0) → Type 0
HasSent g old new Says = g.known old ≡ true → Says (bits_of (g.sent old)) (bits_of (g.sent new))

-- the target was sent the stream of the bytes of the source by a plan, if both are known
abbrev pub SendsBy : {S T : Type 0} (g : source.Ghosts S) (h : target.Ghosts T) → Planned → List Block → (from : S) (old new : T) → Type 0
SendsBy g h p list from old new = IfKnown g from (λ bytes. HasSent h old new (EncodesBy p list bytes))

abbrev pub SendsByIn : {S T : Type 0} (g : source.Ghosts S) (h : target.Ghosts T) → ContainerKind → Planned → List Block → (from : S) (old new : T) → Type 0
SendsByIn g h c p list from old new = IfKnown g from (λ bytes. HasSent h old new (EncodesByIn c p list bytes))

-- these bytes are as many samples as the plan was made for
abbrev pub ArePlanned : Planned → (bytes : List ℕ) → Type 0
ArePlanned p bytes = AreSamples p.profile p.format bytes p.total

-- ---- why nothing is

-- the number and the name of a reason
abbrev pub encode_text : RawEncodeFault → List ℕ
encode_text (Raw fault) = raw_text fault
encode_text (Encode fault) = numbers.text_of fault
encode_text Changed = codes "94 Changed"

-- no fault of what was given: out of memory, or the target failed
abbrev pub IsOutside : RawEncodeFault → Type 0
IsOutside e = (e ≡ Raw (Input why.Memory)) ⊎ ((e ≡ Encode encode.Memory) ⊎ (e ≡ Encode encode.Write))

-- These bytes are not encoded by a plan: the list has a second seek table, or they are not as many samples as the plan was
-- made for.
abbrev pub IsUnfit : Planned → List Block → (bytes : List ℕ) → RawEncodeFault → Type 0
IsUnfit p list bytes e = (option_map Encode (table_fault p list) ≡ Some e) ⊎ ((e ≡ Changed) × (AreSamples p.profile p.format bytes p.total → ⊥))

-- why no stream with these blocks is written by a plan: in Ogg the first is no Vorbis comment, or a seek table is asked for
abbrev pub container_fault : ContainerKind → Planned → List Block → Option EncodeFault
container_fault container.Native p list = table_fault p list
container_fault (container.Ogg serial) p list = cond (may_be_ogg (raw_cut p.profile p.format p.total p.predictors) list) None (Some encode.BadMapping)

-- the same as `IsUnfit`, in either container
abbrev pub IsUnfitIn : ContainerKind → Planned → List Block → (bytes : List ℕ) → RawEncodeFault → Type 0
IsUnfitIn c p list bytes e = (option_map Encode (container_fault c p list) ≡ Some e) ⊎ ((e ≡ Changed) × (AreSamples p.profile p.format bytes p.total → ⊥))

-- Why an encoding of these bytes by a plan stops.
abbrev pub StopsBy : Planned → List Block → RawEncodeFault → (bytes : List ℕ) → Type 0
StopsBy p list e bytes = IsOutside e ⊎ IsUnfit p list bytes e

abbrev pub StopsByIn : ContainerKind → Planned → List Block → RawEncodeFault → (bytes : List ℕ) → Type 0
StopsByIn c p list e bytes = IsOutside e ⊎ IsUnfitIn c p list bytes e

-- with Write the target returned an error, which is counted
abbrev pub FailsLeft : {S : Type 0} → target.Ghosts S → (old : S) → RawEncodeFault → Type 0
FailsLeft {S} g old e = e ≡ Encode encode.Write → (left : S) × Fails g old left

-- The first reason for which these bytes cannot be encoded, if there is one: that they are no samples of the format; how they
-- are cut into blocks, and the predictors; a second seek table.
unfoldable pub refusal : Profile → RawFormat → List LinearPredictor → List Block → (bytes : List ℕ) → Option RawEncodeFault
refusal profile format ps list bytes =
    option_or (option_map Raw (raw_fault profile format bytes))
    (option_or (option_map (λ f. Raw (Setup f)) (plan_fault (cut_for profile format ps bytes)))
    (cond (repeats_table (cut_for profile format ps bytes) list) (Some (Encode encode.RepeatedBlock)) None))
