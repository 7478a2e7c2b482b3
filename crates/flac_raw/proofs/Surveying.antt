-- A pass over raw samples, block by block.
use Rattle.std.proofs.Common.{◌≡◌, ◌≢◌, ◌≤◌, ◌+◌, ◌-◌, ◌*◌, ◌%◌, ◌^◌, ◌&&◌, min, ℕ, Bool, true, ℤ, List, [], length, refl, sym, ap, ◌∙◌, subst, arith, inl, inr}
use Rattle.std.specs.Prelude.{◌⊎◌, Some, None}
use Rattle.flac_bits.specs.declared.why.Why.TheVariants as why
use Rattle.flac_header.specs.declared.subset.Profile.{Profile}
use Rattle.flac_frame.specs.Audio.{each_small}
use Rattle.flac_native.specs.Message.{sample_width}
use Rattle.flac_jobs.specs.declared.formats.RawFormat.{RawFormat}
use Rattle.flac_raw.specs.Faults.{format_fault, raw_fault}
use Rattle.flac_raw.specs.inner.Progress.{ReadTo, TakesBytes}
use Rattle.flac_raw.specs.inner.Surveyed.{IsSurvey, SurveyedTo}
use Rattle.flac_raw.specs.declared.raw_fault.RawFault.{RawFault}
use Rattle.flac_raw.specs.declared.raw_fault.RawFault.TheVariants.{Input, RawLength}
use Rattle.flac_raw.proofs.Refused.{bad_length}
use Rattle.flac_raw.proofs.Taken.{read_none, read_more, read_all, read_part}

pub survey_none : (bits count width : ℕ) (all : List ℕ) → SurveyedTo bits count width all all 0 true
survey_none bits count width all = record { rows = 0; so = read_none bits count width all; many = omega arith }

pub survey_more : (bits count width n : ℕ) (all coming later : List ℕ) (was now : ℕ) (small fit is : Bool) (channels : List (List ℤ)) → SurveyedTo bits count width all coming was small → TakesBytes count width n coming later channels
    → fit ≡ each_small bits channels → now ≡ min (was + n) (2 ^ 64 - 1) → is ≡ (small && fit) → SurveyedTo bits count width all later now is
survey_more bits count width n all coming later was now small fit is channels so took fits many both = record {
  rows = so.rows + n;
  so = subst (λ b. ReadTo bits count width all later (so.rows + n) b) (sym both) (read_more bits count width all coming later so.rows n small fit channels so.so took fits);
  many = omega (arith, many, so.many);
}

pub survey_all : (bits count width : ℕ) (all coming : List ℕ) (total : ℕ) (small : Bool) → SurveyedTo bits count width all coming total small → coming ≡ [] → 1 ≤ count → 1 ≤ width → IsSurvey bits count width all total small
survey_all bits count width all coming total small so end some wide =
    let read = read_all bits count width all coming so.rows small so.so end some wide in
    record { whole = read.whole; are = read.are; many = so.many ∙ ap (λ n. min n (2 ^ 64 - 1)) read.rows_are; fit = read.fit }

pub survey_part : (bits was count wide width : ℕ) (all coming : List ℕ) (total : ℕ) (small : Bool) → was ≡ count → wide ≡ width → SurveyedTo bits count width all coming total small → length coming % (was * wide) ≢ 0 → length all % (count * width) ≢ 0
survey_part bits was count wide width all coming total small many same so part =
    let row : was * wide ≡ count * width = ap (λ n. n * wide) many ∙ ap (λ n. count * n) same in
    read_part bits count width all coming so.rows small so.so (λ none. part (ap (λ n. length coming % n) row ∙ none))

-- the first reason, at the end or before
pub surveyed_part : (bits was count wide width : ℕ) (all coming : List ℕ) (total : ℕ) (small : Bool) (e : RawFault) → was ≡ count → wide ≡ width → SurveyedTo bits count width all coming total small
    → (e ≡ Input why.Memory) ⊎ ((e ≡ RawLength) × (length coming % (was * wide) ≢ 0)) → (e ≡ Input why.Memory) ⊎ ((e ≡ RawLength) × (length all % (count * width) ≢ 0))
surveyed_part bits was count wide width all coming total small e many same so (inl memory) = inl memory
surveyed_part bits was count wide width all coming total small e many same so (inr part) = inr (part.0, survey_part bits was count wide width all coming total small many same so part.1)

-- ---- for a format

pub survey_at : (bits was count wide width : ℕ) (bytes : List ℕ) (total : ℕ) (small is : Bool) → was ≡ count → wide ≡ width → small ≡ is → IsSurvey bits was wide bytes total small → IsSurvey bits count width bytes total is
survey_at bits was count wide width bytes total small is many same fit s =
    subst (λ b. IsSurvey bits count width bytes total b) fit (subst (λ w. IsSurvey bits count w bytes total small) same (subst (λ n. IsSurvey bits n wide bytes total small) many s))

pub length_told : (profile : Profile) (format : RawFormat) (bytes : List ℕ) (was wide : ℕ) (e : RawFault) → None ≡ format_fault profile format → was ≡ format.channels → wide ≡ sample_width format.bits
    → (e ≡ Input why.Memory) ⊎ ((e ≡ RawLength) × (length bytes % (was * wide) ≢ 0)) → (e ≡ Input why.Memory) ⊎ (raw_fault profile format bytes ≡ Some e)
length_told profile format bytes was wide e good many same (inl memory) = inl memory
length_told profile format bytes was wide e good many same (inr part) =
    let row : was * wide ≡ format.channels * sample_width format.bits = ap (λ n. n * wide) many ∙ ap (λ n. format.channels * n) same in
    inr (bad_length profile format bytes (length bytes) good refl (λ none. part.1 (ap (λ n. length bytes % n) row ∙ none)) ∙ ap (λ f. Some f) (sym part.0))
