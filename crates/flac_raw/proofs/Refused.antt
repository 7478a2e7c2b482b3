-- Why raw samples are refused.
use Rattle.std.proofs.Common.{◌≡◌, ◌≢◌, ◌≤◌, ◌<◌, ◌*◌, ◌%◌, ◌-◌, ◌^◌, ◌&&◌, ◌||◌, ℕ, Bool, true, false, nat_eq, nat_lt, nat_le, ℤ, pos, negsuc, List, [], ◌∷◌, length, All, Option, Some, None, is_some, is_none, refl, sym, ap, ◌∙◌, subst, arith}
use Rattle.std.specs.List.{list_all}
use Rattle.std.proofs.lemmas.Bool.{lt-ltb, ne_eqb}
use Rattle.std.proofs.lemmas.Bool.Decides.{nat_tests}
use Rattle.std.proofs.lemmas.Int.{ints}
use Rattle.std.proofs.lemmas.List.Elements.{All-head, All-tail}
use Rattle.flac_bits.specs.Signed.{FitsBits}
use Rattle.flac_header.specs.Choice.{rate_choice_in, depth_choice_in}
use Rattle.flac_header.specs.declared.subset.Profile.{Profile}
use Rattle.flac_frame.specs.Audio.{Sound, IsSound, samples_each, as_long, each_small, samples_fault, channels_fault, audio_fault}
use Rattle.flac_frame.specs.declared.setup.SetupFault.{SetupFault}
use Rattle.flac_native.specs.Message.{sample_width}
use Rattle.flac_raw.specs.Raw.{raw_channels, raw_sound}
use Rattle.flac_raw.specs.Reading.{AreChannels}
use Rattle.flac_raw.specs.Faults.{format_fault, raw_fault}
use Rattle.flac_raw.specs.declared.raw_fault.RawFault.TheVariants.{Setup, RawLength}
use Rattle.flac_jobs.specs.declared.formats.RawFormat.{RawFormat}

-- ---- samples that can be encoded

same_length : (n : ℕ) (c : List ℤ) → length c ≡ n → nat_eq (length c) n ≡ true
same_length n c e = grind (arith, nat_tests)

pub as_long_back : (n : ℕ) (cs : List (List ℤ)) → All (λ c. length c ≡ n) cs → list_all (λ c. nat_eq (length c) n) cs ≡ true
as_long_back n [] all = refl
as_long_back n (c ∷ cs) all =
    let e : nat_eq (length c) n ≡ true = same_length n c (All-head (λ c. length c ≡ n) c cs all) in
    rw e (as_long_back n cs (All-tail (λ c. length c ≡ n) c cs all))

both_true : (a b : Bool) → (a && true) ≡ true → b ≡ true → (a && b) ≡ true
both_true true b e f = f
both_true false b e f = absurd cc

one_small : (bits : ℕ) (zs : List ℤ) → All (FitsBits bits) zs → each_small bits (zs ∷ []) ≡ true
one_small bits [] all = refl
one_small bits (pos a ∷ zs) all =
    let high = (All-head (FitsBits bits) (pos a) zs all).high in
    rw (lt-ltb a (2 ^ (bits - 1)) (omega (arith, ints, high))) (one_small bits zs (All-tail (FitsBits bits) (pos a) zs all))
one_small bits (negsuc a ∷ zs) all =
    let low = (All-head (FitsBits bits) (negsuc a) zs all).low in
    rw (lt-ltb a (2 ^ (bits - 1)) (omega (arith, ints, low))) (one_small bits zs (All-tail (FitsBits bits) (negsuc a) zs all))

all_small : (bits : ℕ) (cs : List (List ℤ)) → All (λ c. All (FitsBits bits) c) cs → each_small bits cs ≡ true
all_small bits [] all = refl
all_small bits (c ∷ cs) all =
    both_true _ _ (one_small bits c (All-head (λ c. All (FitsBits bits) c) c cs all)) (all_small bits cs (All-tail (λ c. All (FitsBits bits) c) c cs all))

not_none : {X : Type 0} (o : Option X) → is_some o ≡ true → is_none o ≡ false
not_none None e = absurd cc
not_none (Some x) e = refl

counts_fit : (n : ℕ) → 1 ≤ n → n ≤ 8 → (nat_eq n 0 || nat_lt 8 n) ≡ false
counts_fit n some few = grind (arith, nat_tests)

below : (n : ℕ) → n < 2 ^ 36 → nat_le (2 ^ 36) n ≡ false
below n h = grind (arith, nat_tests)

-- There is no fault in samples that can be encoded.
pub sound_good : (a : Sound) → IsSound a → audio_fault a.profile a.rate a.bits a.channels ≡ None
unfolding audio_fault channels_fault samples_fault
sound_good a s =
    let long : as_long a.channels ≡ true = as_long_back (samples_each a.channels) a.channels s.long in
    let small : each_small a.bits a.channels ≡ true = all_small a.bits a.channels s.small in
    rw (not_none (rate_choice_in a.profile a.rate) s.rate, not_none (depth_choice_in a.profile a.bits) s.bits, counts_fit (length a.channels) s.some s.few, long, small, below (samples_each a.channels) s.short) refl

-- ---- raw samples

-- the channels of these bytes are the samples that they are
pub sound_of : (profile : Profile) (format : RawFormat) (raw bytes : List ℕ) (a : Sound) (channels : List (List ℤ)) → a ≡ record { profile = profile; rate = format.rate; bits = format.bits; channels = channels }
    → AreChannels bytes format.channels (sample_width format.bits) channels → bytes ≡ raw → a ≡ raw_sound profile format raw
sound_of profile format raw bytes a channels is are same =
    is ∙ ap (λ (l : List (List ℤ)). record { profile = profile; rate = format.rate; bits = format.bits; channels = l }) (are.numbers ∙ ap (λ (bs : List ℕ). raw_channels format.channels (sample_width format.bits) bs) same)

module _ (profile : Profile) (format : RawFormat) (raw : List ℕ) where
  pub bad_format : (e : SetupFault) → Some e ≡ format_fault profile format → raw_fault profile format raw ≡ Some (Setup e)
  unfolding raw_fault
  bad_format e h = rw (sym h) refl

  pub bad_length : (n : ℕ) → None ≡ format_fault profile format → n ≡ length raw → n % (format.channels * sample_width format.bits) ≢ 0 → raw_fault profile format raw ≡ Some RawLength
  unfolding raw_fault
  bad_length n h is part =
      let e : nat_eq (length raw % (format.channels * sample_width format.bits)) 0 ≡ false = subst (λ k. nat_eq (k % (format.channels * sample_width format.bits)) 0 ≡ false) is (ne_eqb _ 0 part) in
      rw (sym h, e) refl

  pub whole_length : (n : ℕ) → n ≡ length raw → n % (format.channels * sample_width format.bits) ≡ 0 → nat_eq (length raw % (format.channels * sample_width format.bits)) 0 ≡ true
  whole_length n is whole = subst (λ k. nat_eq (k % (format.channels * sample_width format.bits)) 0 ≡ true) is (rw whole refl)

  pub bad_samples : (n : ℕ) (e : SetupFault) (bytes : List ℕ) (channels : List (List ℤ)) → None ≡ format_fault profile format → n ≡ length raw → n % (format.channels * sample_width format.bits) ≡ 0
      → AreChannels bytes format.channels (sample_width format.bits) channels → bytes ≡ raw → audio_fault profile format.rate format.bits channels ≡ Some e → raw_fault profile format raw ≡ Some (Setup e)
  unfolding raw_fault
  bad_samples n e bytes channels h is whole are same fault =
      let all = whole_length n is whole in
      let listed : channels ≡ raw_channels format.channels (sample_width format.bits) raw = are.numbers ∙ ap (λ (bs : List ℕ). raw_channels format.channels (sample_width format.bits) bs) same in
      let bad : audio_fault profile format.rate format.bits (raw_channels format.channels (sample_width format.bits) raw) ≡ Some e = subst (λ l. audio_fault profile format.rate format.bits l ≡ Some e) listed fault in
      rw (sym h, all, bad) refl

  pub good_samples : (n : ℕ) (a : Sound) → None ≡ format_fault profile format → n ≡ length raw → n % (format.channels * sample_width format.bits) ≡ 0
      → a ≡ raw_sound profile format raw → IsSound a → raw_fault profile format raw ≡ None
  unfolding raw_fault
  good_samples n a h same whole is sound =
      let all = whole_length n same whole in
      let good : audio_fault profile format.rate format.bits (raw_channels format.channels (sample_width format.bits) raw) ≡ None = subst (λ (s : Sound). audio_fault s.profile s.rate s.bits s.channels ≡ None) is (sound_good a sound) in
      rw (sym h, all, good) refl
