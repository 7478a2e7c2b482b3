-- For which first reason raw samples are not encoded.
use Rattle.std.proofs.Common.{◌≡◌, ◌≤◌, ◌*◌, ◌%◌, ◌/◌, ◌&&◌, not, ℕ, Bool, true, false, cond, nat_eq, nat_lt, ℤ, List, [], length, Option, Some, None, is_none, refl, sym, ap, ◌∙◌, subst, arith, inl, inr}
use Rattle.std.specs.Prelude.{◌⊎◌, option_map}
use Rattle.std.proofs.lemmas.Bool.{not-false}
use Rattle.std.proofs.lemmas.Bool.Decides.{nat_tests}
use Rattle.flac_bits.specs.declared.why.Why.TheVariants as why
use Rattle.flac_header.specs.Choice.{rate_choice_in, depth_choice_in}
use Rattle.flac_header.specs.declared.subset.Profile.{Profile}
use Rattle.flac_meta.specs.declared.block.Block.{Block}
use Rattle.flac_subframe.specs.declared.format.linear.LinearPredictor.{LinearPredictor}
use Rattle.flac_frame.specs.Audio.{samples_each, as_long, each_small, samples_fault, channels_fault, audio_fault}
use Rattle.flac_frame.specs.declared.setup.SetupFault.{SetupFault}
use Rattle.flac_native.specs.Given.{Cut, plan_fault}
use Rattle.flac_native.specs.Message.{sample_width}
use Rattle.flac_native.specs.Seeking.{has_table, repeats_table}
use Rattle.flac_native.specs.declared.fault.EncodeFault.TheVariants as encode
use Rattle.flac_native.proofs.Planned.{both_none, first_none}
use Rattle.flac_jobs.specs.declared.formats.RawFormat.{RawFormat}
use Rattle.flac_raw.specs.Raw.{raw_channels, raw_sound}
use Rattle.flac_raw.specs.Faults.{format_fault, raw_fault, AreSamples}
use Rattle.flac_raw.specs.Planned.{Planned, raw_cut, table_fault}
use Rattle.flac_raw.specs.Encoded.{cut_for, refusal, IsOutside, IsUnfit}
use Rattle.flac_raw.specs.inner.Pushed.{AreFit}
use Rattle.flac_raw.specs.declared.raw_fault.RawFault.{RawFault}
use Rattle.flac_raw.specs.declared.raw_fault.RawFault.TheVariants.{Input, Setup, RawLength}
use Rattle.flac_raw.specs.declared.raw_fault.RawEncodeFault.{RawEncodeFault}
use Rattle.flac_raw.specs.declared.raw_fault.RawEncodeFault.TheVariants.{Raw, Encode, Changed}
use Rattle.flac_raw.proofs.Taken.{channels_each}
use Rattle.flac_raw.proofs.Judged.{good_format}
use Rattle.flac_raw.proofs.Pieces.{channels_many}

-- ---- samples that a pass accepts

setup_none : (o : Option SetupFault) → option_map Setup o ≡ None → o ≡ None
setup_none None e = refl
setup_none (Some f) e = absurd cc

if_whole : (b : Bool) (o : Option RawFault) → cond b o (Some RawLength) ≡ None → (b ≡ true) × (o ≡ None)
if_whole true o e = (refl, e)
if_whole false o e = absurd cc

small_of : (profile : Profile) (rate bits : ℕ) (cs : List (List ℤ)) → audio_fault profile rate bits cs ≡ None → each_small bits cs ≡ true
unfolding audio_fault channels_fault samples_fault
small_of profile rate bits cs e =
    let a = first_none (is_none (rate_choice_in profile rate)) _ _ e in
    let b = first_none (is_none (depth_choice_in profile bits)) _ _ a.1 in
    let c = first_none _ _ _ b.1 in
    let d = both_none (samples_fault bits cs) _ c.1 in
    let f = first_none (not (as_long cs)) _ _ d.0 in
    let g = first_none (not (each_small bits cs)) _ _ f.1 in
    not-false (each_small bits cs) g.0

zero_is : (n : ℕ) → nat_eq n 0 ≡ true → n ≡ 0
zero_is n e = grind (arith, nat_tests)

-- they fit their bits
pub samples_fit : (profile : Profile) (format : RawFormat) (bytes : List ℕ) (total : ℕ) → AreSamples profile format bytes total → AreFit format.bits format.channels (sample_width format.bits) total bytes
unfolding raw_fault
samples_fit profile format bytes total are =
    let width = sample_width format.bits in
    let cs = raw_channels format.channels width bytes in
    let a = both_none (option_map Setup (format_fault profile format)) _ are.good in
    let counts = (good_format profile format (sym (setup_none (format_fault profile format) a.0))).counts in
    let some : 1 ≤ format.channels = grind (arith, nat_tests) in
    let b = if_whole (nat_eq (length bytes % (format.channels * width)) 0) (option_map Setup (audio_fault profile format.rate format.bits cs)) a.1 in
    record {
      whole = zero_is _ b.0;
      many = are.many ∙ channels_each format.channels width bytes some;
      fit = small_of profile format.rate format.bits cs (setup_none (audio_fault profile format.rate format.bits cs) b.1);
    }

-- ---- the first reason

pub cut_is : (profile : Profile) (format : RawFormat) (ps : List LinearPredictor) (bytes : List ℕ) (total : ℕ) → total ≡ samples_each (raw_sound profile format bytes).channels → cut_for profile format ps bytes ≡ raw_cut profile format total ps
cut_is profile format ps bytes total is =
    let width = sample_width format.bits in
    let row = format.channels * width in
    let many : length (raw_sound profile format bytes).channels ≡ format.channels = channels_many bytes (length bytes / row) row width format.channels in
    ap (λ n. with_counts n (samples_each (raw_sound profile format bytes).channels)) many ∙ ap (with_counts format.channels) (sym is)
  where
    with_counts : (channels total : ℕ) → Cut
    with_counts channels total = record { profile = profile; block_size = format.block; rate = format.rate; bits = format.bits; channels = channels; total = total; seek_every = format.seek_every; predictors = ps; found = [] }

module _ (profile : Profile) (format : RawFormat) (ps : List LinearPredictor) (list : List Block) (bytes : List ℕ) where
  pub refused_raw : (f : RawFault) → raw_fault profile format bytes ≡ Some f → refusal profile format ps list bytes ≡ Some (Raw f)
  unfolding refusal
  refused_raw f h = rw h refl

  module _ (total : ℕ) (are : AreSamples profile format bytes total) where
    cut : cut_for profile format ps bytes ≡ raw_cut profile format total ps
    cut = cut_is profile format ps bytes total are.many

    pub refused_plan : (f : SetupFault) → plan_fault (raw_cut profile format total ps) ≡ Some f → refusal profile format ps list bytes ≡ Some (Raw (Setup f))
    unfolding refusal
    refused_plan f h = rw (are.good, cut, h) refl

    refused_more : plan_fault (raw_cut profile format total ps) ≡ None → refusal profile format ps list bytes ≡ cond (repeats_table (raw_cut profile format total ps) list) (Some (Encode encode.RepeatedBlock)) None
    unfolding refusal
    refused_more h = rw (are.good, cut, h) refl

    as_table : (b : Bool) → cond b (Some (Encode encode.RepeatedBlock)) None ≡ option_map Encode (cond b (Some encode.RepeatedBlock) None)
    as_table true = refl
    as_table false = refl

    -- only a second table is left
    pub refused_table : plan_fault (raw_cut profile format total ps) ≡ None → refusal profile format ps list bytes ≡ option_map Encode (cond (repeats_table (raw_cut profile format total ps) list) (Some encode.RepeatedBlock) None)
    refused_table h = refused_more h ∙ as_table (repeats_table (raw_cut profile format total ps) list)

-- ---- two passes

module _ (profile : Profile) (format : RawFormat) (ps : List LinearPredictor) (list : List Block) (bytes other : List ℕ) where
  -- the reason of the first pass
  pub twice_raw : (f : RawFault) → (f ≡ Input why.Memory) ⊎ (raw_fault profile format bytes ≡ Some f)
      → IsOutside (Raw f) ⊎ ((refusal profile format ps list bytes ≡ Some (Raw f)) ⊎ ((Raw f ≡ Changed) × (other ≡ bytes → ⊥)))
  twice_raw f (inl memory) = inl (inl (ap Raw memory))
  twice_raw f (inr fault) = inr (inl (refused_raw profile format ps list bytes f fault))

  module _ (total : ℕ) (are : AreSamples profile format bytes total) where
    -- that of the plan
    pub twice_plan : (f : SetupFault) → plan_fault (raw_cut profile format total ps) ≡ Some f
        → IsOutside (Raw (Setup f)) ⊎ ((refusal profile format ps list bytes ≡ Some (Raw (Setup f))) ⊎ ((Raw (Setup f) ≡ Changed) × (other ≡ bytes → ⊥)))
    twice_plan f fault = inr (inl (refused_plan profile format ps list bytes total are f fault))

    -- that of the second pass
    pub twice_pass : (p : Planned) (e : RawEncodeFault) → p.profile ≡ profile → p.format ≡ format → p.total ≡ total → p.predictors ≡ ps → plan_fault (raw_cut profile format total ps) ≡ None
        → IsOutside e ⊎ IsUnfit p list other e → IsOutside e ⊎ ((refusal profile format ps list bytes ≡ Some e) ⊎ ((e ≡ Changed) × (other ≡ bytes → ⊥)))
    twice_pass p e a b c d good (inl outside) = inl outside
    twice_pass p e a b c d good (inr (inl repeats)) =
        let same : table_fault p list ≡ cond (repeats_table (raw_cut profile format total ps) list) (Some encode.RepeatedBlock) None = ap (λ (f : RawFormat). cond (nat_lt 0 f.seek_every && has_table list) (Some encode.RepeatedBlock) None) b in
        inr (inl (refused_table profile format ps list bytes total are good ∙ ap (option_map Encode) (sym same) ∙ repeats))
    twice_pass p e a b c d good (inr (inr (changed, unlike))) =
        inr (inr (
          changed,
          λ same. unlike (subst (λ x. AreSamples p.profile p.format x p.total) (sym same)
              (subst (λ n. AreSamples p.profile p.format bytes n) (sym c) (subst (λ f. AreSamples p.profile f bytes total) (sym b) (subst (λ q. AreSamples q format bytes total) (sym a) are)))),
        ))

    -- there is none
    pub twice_good : (p : Planned) → p.format ≡ format → plan_fault (raw_cut profile format total ps) ≡ None → table_fault p list ≡ None → refusal profile format ps list bytes ≡ None
    twice_good p b good none =
        let same : table_fault p list ≡ cond (repeats_table (raw_cut profile format total ps) list) (Some encode.RepeatedBlock) None = ap (λ (f : RawFormat). cond (nat_lt 0 f.seek_every && has_table list) (Some encode.RepeatedBlock) None) b in
        refused_table profile format ps list bytes total are good ∙ ap (option_map Encode) (sym same ∙ none)
