-- What a pass over raw samples finds, as the reason why they are none.
use Rattle.std.proofs.Common.{◌≡◌, ◌≤◌, ◌<◌, ◌-◌, ◌^◌, ◌||◌, not, min, ℕ, Bool, true, false, cond, nat_eq, nat_lt, nat_le, ℤ, List, length, Option, Some, None, is_none, refl, sym, ap, ◌∙◌, subst, arith, inl, inr}
use Rattle.std.specs.Prelude.{option_map}
use Rattle.std.specs.Option.{option_or}
use Rattle.std.proofs.lemmas.Bool.{cases_lt}
use Rattle.std.proofs.lemmas.Bool.Decides.{nat_tests}
use Rattle.flac_header.specs.Choice.{rate_choice_in, depth_choice_in}
use Rattle.flac_header.specs.declared.subset.Profile.{Profile}
use Rattle.flac_frame.specs.Audio.{samples_each, as_long, each_small, samples_fault, channels_fault, audio_fault}
use Rattle.flac_frame.specs.Setup as setup
use Rattle.flac_frame.specs.declared.setup.SetupFault.{SetupFault}
use Rattle.flac_frame.specs.declared.setup.SetupFault.TheVariants.{BadRate, BadDepth, BadChannels, SampleTooLarge, TooLong}
use Rattle.flac_frame.proofs.Sounds.{sound_is}
use Rattle.flac_native.specs.Message.{sample_width}
use Rattle.flac_jobs.specs.declared.formats.RawFormat.{RawFormat}
use Rattle.flac_raw.specs.Raw.{raw_channels, raw_sound, IsRaw}
use Rattle.flac_raw.specs.Reading.{AreChannels}
use Rattle.flac_raw.specs.Faults.{format_fault, raw_fault, AreSamples}
use Rattle.flac_raw.specs.inner.Surveyed.{IsSurvey}
use Rattle.flac_raw.specs.declared.raw_fault.RawFault.TheVariants.{Setup}
use Rattle.flac_raw.proofs.Taken.{channels_each}
use Rattle.flac_raw.proofs.Refused.{as_long_back, whole_length}
use Rattle.flac_raw.proofs.Rows.{raw_is}

none_here : {E : Type 0} (a : Bool) (e : E) (o : Option E) → cond a (Some e) o ≡ None → (a ≡ false) × (o ≡ None)
none_here true e o h = absurd cc
none_here false e o h = (refl, h)

-- a format that can be encoded
pub record IsGoodFormat (profile : Profile) (format : RawFormat) : Type 0 where
  pub rate : is_none (rate_choice_in profile format.rate) ≡ false
  pub bits : is_none (depth_choice_in profile format.bits) ≡ false
  pub counts : (nat_eq format.channels 0 || nat_lt 8 format.channels) ≡ false

pub good_format : (profile : Profile) (format : RawFormat) → None ≡ format_fault profile format → IsGoodFormat profile format
unfolding setup.format_fault
good_format profile format h =
    let a = none_here (is_none (rate_choice_in profile format.rate)) BadRate _ (sym h) in
    let b = none_here (is_none (depth_choice_in profile format.bits)) BadDepth _ a.1 in
    let c = none_here (nat_eq format.channels 0 || nat_lt 8 format.channels) BadChannels None b.1 in
    record { rate = a.0; bits = b.0; counts = c.0 }

either : (small : Bool) (e : SetupFault) (o : Option SetupFault) → option_or (cond (not small) (Some e) None) o ≡ cond (not small) (Some e) o
either true e o = refl
either false e o = refl

-- why channels of this format cannot be encoded
audio_is : (profile : Profile) (format : RawFormat) (cs : List (List ℤ)) → IsGoodFormat profile format → length cs ≡ format.channels → as_long cs ≡ true
    → audio_fault profile format.rate format.bits cs ≡ cond (not (each_small format.bits cs)) (Some SampleTooLarge) (cond (nat_le (2 ^ 36) (samples_each cs)) (Some TooLong) None)
unfolding audio_fault channels_fault samples_fault
audio_is profile format cs good many long =
    let counts : (nat_eq (length cs) 0 || nat_lt 8 (length cs)) ≡ false = subst (λ n. (nat_eq n 0 || nat_lt 8 n) ≡ false) (sym many) good.counts in
    rw (good.rate, good.bits, counts, long) (either (each_small format.bits cs) SampleTooLarge (cond (nat_le (2 ^ 36) (samples_each cs)) (Some TooLong) None))

too_many : (n m : ℕ) → m ≡ min n (2 ^ 64 - 1) → nat_le (2 ^ 36) n ≡ nat_le (2 ^ 36) m
too_many n m is = elim (cases_lt n (2 ^ 36)) [
  | inl lt ↦
      let e : nat_le (2 ^ 36) n ≡ false = grind (arith, nat_tests) in
      let f : nat_le (2 ^ 36) m ≡ false = few m (omega (arith, is, lt)) in
      e ∙ sym f
  | inr le ↦
      let e : nat_le (2 ^ 36) n ≡ true = grind (arith, nat_tests) in
      let f : nat_le (2 ^ 36) m ≡ true = many m (omega (arith, is, le)) in
      e ∙ sym f
]
  where
    few : (m : ℕ) → m < 2 ^ 36 → nat_le (2 ^ 36) m ≡ false
    few m lt = grind (arith, nat_tests)

    many : (m : ℕ) → 2 ^ 36 ≤ m → nat_le (2 ^ 36) m ≡ true
    many m le = grind (arith, nat_tests)

-- what is found by a survey, in this order
abbrev pub found_fault : (small : Bool) (total : ℕ) → Option SetupFault
found_fault small total = cond (not small) (Some SampleTooLarge) (cond (nat_le (2 ^ 36) total) (Some TooLong) None)

module _ (profile : Profile) (format : RawFormat) (bytes : List ℕ) (h : None ≡ format_fault profile format) where
  all_long : AreChannels bytes format.channels (sample_width format.bits) (raw_channels format.channels (sample_width format.bits) bytes) → as_long (raw_channels format.channels (sample_width format.bits) bytes) ≡ true
  all_long are = as_long_back (samples_each (raw_channels format.channels (sample_width format.bits) bytes)) (raw_channels format.channels (sample_width format.bits) bytes) are.long

  some_channels : 1 ≤ format.channels
  some_channels = let c = (good_format profile format h).counts in grind (arith, nat_tests)

  audio_found : (total : ℕ) (small : Bool) → IsSurvey format.bits format.channels (sample_width format.bits) bytes total small
      → audio_fault profile format.rate format.bits (raw_channels format.channels (sample_width format.bits) bytes) ≡ found_fault small total
  audio_found total small s =
      let cs = raw_channels format.channels (sample_width format.bits) bytes in
      let each = channels_each format.channels (sample_width format.bits) bytes some_channels in
      audio_is profile format cs (good_format profile format h) s.are.many (all_long s.are)
      ∙ ap (λ b. cond (not b) (Some SampleTooLarge) (cond (nat_le (2 ^ 36) (samples_each cs)) (Some TooLong) None)) (sym s.fit)
      ∙ ap (λ b. cond (not small) (Some SampleTooLarge) (cond b (Some TooLong) None)) (too_many (samples_each cs) total (s.many ∙ ap (λ n. min n (2 ^ 64 - 1)) (sym each)))

  pub survey_fault : (total : ℕ) (small : Bool) → IsSurvey format.bits format.channels (sample_width format.bits) bytes total small → raw_fault profile format bytes ≡ option_map Setup (found_fault small total)
  unfolding raw_fault
  survey_fault total small s =
      let all = whole_length profile format bytes (length bytes) refl s.whole in
      rw (sym h, all) (ap (option_map Setup) (audio_found total small s))

  pub survey_large : (total : ℕ) → IsSurvey format.bits format.channels (sample_width format.bits) bytes total false → raw_fault profile format bytes ≡ Some (Setup SampleTooLarge)
  survey_large total s = survey_fault total false s

  long_found : (total : ℕ) → 2 ^ 36 ≤ total → found_fault true total ≡ Some TooLong
  long_found total over = let e : nat_le (2 ^ 36) total ≡ true = grind (arith, nat_tests) in rw e refl

  good_found : (total : ℕ) → total < 2 ^ 36 → found_fault true total ≡ None
  good_found total lt = let e : nat_le (2 ^ 36) total ≡ false = grind (arith, nat_tests) in rw e refl

  pub survey_long : (total : ℕ) → IsSurvey format.bits format.channels (sample_width format.bits) bytes total true → 2 ^ 36 ≤ total → raw_fault profile format bytes ≡ Some (Setup TooLong)
  survey_long total s over = survey_fault total true s ∙ ap (option_map Setup) (long_found total over)

  pub survey_good : (total : ℕ) → IsSurvey format.bits format.channels (sample_width format.bits) bytes total true → total < 2 ^ 36 → AreSamples profile format bytes total
  survey_good total s lt =
      let each = channels_each format.channels (sample_width format.bits) bytes some_channels in
      record {
        good = survey_fault total true s ∙ ap (option_map Setup) (good_found total lt);
        many = omega (arith, lt, s.many, each);
      }

  pub survey_raw : (total : ℕ) → IsSurvey format.bits format.channels (sample_width format.bits) bytes total true → total < 2 ^ 36 → IsRaw profile format bytes (raw_sound profile format bytes)
  survey_raw total s lt =
      let cs = raw_channels format.channels (sample_width format.bits) bytes in
      raw_is profile format bytes bytes (raw_sound profile format bytes) cs refl (sound_is profile format.rate format.bits cs (audio_found total true s ∙ good_found total lt)) s.are refl
