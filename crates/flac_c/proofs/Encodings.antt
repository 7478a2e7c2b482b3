-- Why samples are not encoded.
use Rattle.std.proofs.Common.{◌≡◌, ◌≢◌, ◌↔◌, ◌⊎◌, ◌≤◌, ◌<◌, ◌%◌, ℕ, ℤ, List, length, Bool, true, false, cond, ◌&&◌, ◌||◌, nat_eq, Option, Some, None, Result, Ok, Err, OnOk, IfErr, refl, subst, arith, inl, inr, nat_lt}
use Rattle.std.specs.Prelude.{option_map}
use Rattle.std.proofs.lemmas.Bool.{ne_eqb}
use Rattle.std.proofs.lemmas.Bool.Decides.{nat_tests}
use Rattle.flac_bits.specs.Reasons as reasons
use Rattle.flac_bits.specs.declared.why.Why.{Why}
use Rattle.flac_bits.specs.declared.why.Why.TheVariants as why
use Rattle.flac_meta.specs.Listed.{list_fault, info_seen}
use Rattle.flac_meta.specs.declared.block.Block.{Block}
use Rattle.flac_frame.specs.Audio.{Sound, audio_fault}
use Rattle.flac_header.specs.declared.subset.Profile.{Profile}
use Rattle.flac_frame.specs.Setup as setup
use Rattle.flac_frame.specs.declared.setup.SetupFault.{SetupFault}
use Rattle.flac_frame.specs.declared.setup.SetupFault.TheVariants.{BadRate, BadDepth, BadChannels, LengthsDiffer, SampleTooLarge, TooLong, BadBlockSize, TooManyPoints, PredictorOrder, TooManyPredictors}
use Rattle.flac_native.specs.Given.{Cut, plan_fault}
use Rattle.flac_native.specs.Numbers.{fault_number, is_of_whole}
use Rattle.flac_native.specs.declared.fault.EncodeFault.{EncodeFault}
use Rattle.flac_native.specs.declared.fault.EncodeFault.TheVariants.{Memory, RepeatedBlock, BlockSize, BadMapping, Spent, Write, Setup}
use Rattle.flac_ogg.specs.RoundTrip.{is_no_ogg, is_repeated}
use Rattle.flac_c.specs.Encoded.{sound_of, plan_of, blocks_of, serial_of, samples_fault, stream_fault}
use Rattle.flac_c.specs.declared.tags.FlacProvedTags.{FlacProvedTags}
use Rattle.flac_c.specs.declared.encoding.FlacProvedSettings.{FlacProvedSettings}

-- ---- numbers

pub some_setup : (f : SetupFault) → 1 ≤ setup.number_of f
some_setup BadRate = omega arith
some_setup BadDepth = omega arith
some_setup BadChannels = omega arith
some_setup LengthsDiffer = omega arith
some_setup SampleTooLarge = omega arith
some_setup TooLong = omega arith
some_setup BadBlockSize = omega arith
some_setup TooManyPoints = omega arith
some_setup PredictorOrder = omega arith
some_setup TooManyPredictors = omega arith

pub some_encode : (e : EncodeFault) → 1 ≤ fault_number e
some_encode Memory = omega arith
some_encode RepeatedBlock = omega arith
some_encode BlockSize = omega arith
some_encode BadMapping = omega arith
some_encode Spent = omega arith
some_encode Write = omega arith
some_encode (Setup f) = some_setup f

-- ---- the call that encodes

none_of : (b : Bool) → (b && false) ≡ false
none_of true = refl
none_of false = refl

-- Comments are no seek table.
pub never_repeated : (serial : Option ℕ) (p : Cut) (t : FlacProvedTags) → is_repeated serial p (blocks_of t) ≡ false
never_repeated None p t = none_of (nat_lt 0 p.seek_every)
never_repeated (Some n) p t = refl

-- It refuses when out of memory, or since these cannot stand in an Ogg stream.
pub container_refuses : {A : Type 0} (r : Result A EncodeFault) (b c : Bool) → ((r ≡ Err BadMapping) ↔ (b ≡ true)) → ((r ≡ Err RepeatedBlock) ↔ (c ≡ true)) → c ≡ false → r ≢ Err Write
    → IfErr r (λ e. is_of_whole e ≡ true) → IfErr r (λ e. (fault_number e ≡ 2) ⊎ (cond {A = Option ℕ} b (Some 37) None ≡ Some (fault_number e)))
container_refuses (Ok a) b c h k none w whole = tt
container_refuses (Err Memory) b c h k none w whole = inl refl
container_refuses (Err RepeatedBlock) b c h k none w whole = let e = k.0 refl in absurd cc
container_refuses (Err BlockSize) b c h k none w whole = absurd cc
container_refuses (Err BadMapping) b c h k none w whole = inr (rw (h.0 refl) refl)
container_refuses (Err Spent) b c h k none w whole = absurd cc
container_refuses (Err Write) b c h k none w whole = absurd (w refl)
container_refuses (Err (Setup f)) b c h k none w whole = absurd cc

pub container_accepts : {A : Type 0} (r : Result A EncodeFault) (b : Bool) → ((r ≡ Err BadMapping) ↔ (b ≡ true)) → OnOk r (cond {A = Option ℕ} b (Some 37) None ≡ None)
container_accepts (Ok a) true h = let e = h.1 refl in absurd cc
container_accepts (Ok a) false h = refl
container_accepts (Err e) b h = tt

-- What holds at Err holds of what it implies.
mapped : {A : Type 0} (P Q : EncodeFault → Type 0) (r : Result A EncodeFault) → ((e : EncodeFault) → P e → Q e) → IfErr r P → IfErr r Q
mapped P Q (Ok a) f h = tt
mapped P Q (Err e) f h = f e h

-- ---- the first reason

module _ (s : FlacProvedSettings) (t : FlacProvedTags) (a : Sound) where
  pub refused_plan : (f : SetupFault) → plan_fault (plan_of s a) ≡ Some f → stream_fault s t a ≡ Some (setup.number_of f)
  unfolding stream_fault
  refused_plan f h = rw h refl

  module _ (p : Cut) (is : p ≡ plan_of s a) (good : plan_fault p ≡ None) where
    planned : plan_fault (plan_of s a) ≡ None
    planned = subst (λ k. plan_fault k ≡ None) is good

    pub refused_list : (w : Why) → (w ≡ why.Memory) ⊎ (list_fault info_seen (blocks_of t) ≡ Some w) → (reasons.number_of w ≡ 2) ⊎ (stream_fault s t a ≡ Some (reasons.number_of w))
    unfolding stream_fault
    refused_list w (inl h) = inl (rw h refl)
    refused_list w (inr h) = inr (rw (planned, h) refl)

    module _ (fit : list_fault info_seen (blocks_of t) ≡ None) where
      stream_is : (o : Option ℕ) → cond (is_no_ogg (serial_of s) (plan_of s a) (blocks_of t)) (Some 37) None ≡ o → stream_fault s t a ≡ o
      unfolding stream_fault
      stream_is o h = rw (planned, fit) h

      module _ (n : Option ℕ) (ns : n ≡ serial_of s) (l : List Block) (ls : l ≡ blocks_of t) where
        same_container : is_no_ogg n p l ≡ is_no_ogg (serial_of s) (plan_of s a) (blocks_of t)
        same_container = rw (ns, is, ls) refl

        same_list : is_repeated n p l ≡ false
        same_list = rw ls (never_repeated n p t)

        pub accepted : {A : Type 0} (r : Result A EncodeFault) → ((r ≡ Err BadMapping) ↔ (is_no_ogg n p l ≡ true)) → OnOk r (stream_fault s t a ≡ None)
        accepted (Ok x) h = stream_is None (container_accepts (Ok x) _ (subst (λ b. (Ok x ≡ Err BadMapping) ↔ (b ≡ true)) same_container h))
        accepted (Err e) h = tt

        or_fault : (m : ℕ) → (m ≡ 2) ⊎ (cond (is_no_ogg (serial_of s) (plan_of s a) (blocks_of t)) (Some 37) None ≡ Some m) → (m ≡ 2) ⊎ (stream_fault s t a ≡ Some m)
        or_fault m (inl h) = inl h
        or_fault m (inr h) = inr (stream_is (Some m) h)

        pub refused : {A : Type 0} (r : Result A EncodeFault) → ((r ≡ Err BadMapping) ↔ (is_no_ogg n p l ≡ true)) → ((r ≡ Err RepeatedBlock) ↔ (is_repeated n p l ≡ true)) → r ≢ Err Write
            → IfErr r (λ e. is_of_whole e ≡ true) → IfErr r (λ e. (fault_number e ≡ 2) ⊎ (stream_fault s t a ≡ Some (fault_number e)))
        refused {A} r h k w whole =
            let c : Bool = is_no_ogg (serial_of s) (plan_of s a) (blocks_of t) in
            let m : (r ≡ Err BadMapping) ↔ (c ≡ true) = subst (λ (b : Bool). (r ≡ Err BadMapping) ↔ (b ≡ true)) same_container h in
            mapped (λ e. (fault_number e ≡ 2) ⊎ (cond {A = Option ℕ} c (Some 37) None ≡ Some (fault_number e))) (λ e. (fault_number e ≡ 2) ⊎ (stream_fault s t a ≡ Some (fault_number e))) r
            (λ e. or_fault (fault_number e)) (container_refuses r c (is_repeated n p l) m k same_list w whole)

-- ---- the samples

counts_fit : (n : ℕ) → 1 ≤ n → n ≤ 8 → (nat_eq n 0 || nat_lt 8 n) ≡ false
counts_fit n some few = grind (arith, nat_tests)

pub no_count : (n : ℕ) → n < 1 → (nat_eq n 0 || nat_lt 8 n) ≡ true
no_count n none = grind (arith, nat_tests)

pub high_count : (n : ℕ) → 8 < n → (nat_eq n 0 || nat_lt 8 n) ≡ true
high_count n many = grind (arith, nat_tests)

module _ (profile : Profile) (s : FlacProvedSettings) (samples : List ℤ) (n : ℕ) where
  pub bad_count : (nat_eq s.channels 0 || nat_lt 8 s.channels) ≡ true → n ≡ 42 → option_map setup.number_of (samples_fault profile s samples) ≡ Some n
  unfolding samples_fault
  bad_count e is = rw (e, is) refl

  module _ (some : 1 ≤ s.channels) (few : s.channels ≤ 8) where
    pub bad_length : length samples % s.channels ≢ 0 → n ≡ 43 → option_map setup.number_of (samples_fault profile s samples) ≡ Some n
    unfolding samples_fault
    bad_length part is = rw (counts_fit s.channels some few, ne_eqb (length samples % s.channels) 0 part, is) refl

    pub bad_samples : (f : SetupFault) (channels : List (List ℤ)) → length samples % s.channels ≡ 0 → channels ≡ (sound_of profile s samples).channels → audio_fault profile s.rate s.bits channels ≡ Some f
        → n ≡ setup.number_of f → option_map setup.number_of (samples_fault profile s samples) ≡ Some n
    unfolding samples_fault
    bad_samples f channels whole are bad is =
        let all : nat_eq (length samples % s.channels) 0 ≡ true = rw whole refl in
        let fault : audio_fault profile s.rate s.bits (sound_of profile s samples).channels ≡ Some f = subst (λ l. audio_fault profile s.rate s.bits l ≡ Some f) are bad in
        rw (counts_fit s.channels some few, all, fault, is) refl
