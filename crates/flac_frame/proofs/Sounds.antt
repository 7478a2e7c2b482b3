-- Samples that can be encoded.
use Rattle.std.proofs.Common.{◌≡◌, ℕ, ◌<◌, ◌≤◌, ◌^◌, Bool, true, false, cond, ◌||◌, nat_eq, nat_lt, nat_le, ℤ, List, [], ◌∷◌, map, length, take, set, ◌+◌, ◌++◌, get_or, Option, Some, None, is_some, is_none, not, All, ◌&&◌, refl, sym, ap, ◌∙◌, arith}
use Rattle.std.specs.List.{list_all}
use Rattle.std.proofs.lemmas.List.{take_more, take_more_set, map-append}
use Rattle.std.proofs.lemmas.List.Folds.{list_all-map}
use Rattle.flac_subframe.specs.format.Numbers.{fits}
use Rattle.std.specs.Option.{option_or}
use Rattle.flac_frame.specs.Setup.{format_fault}
use Rattle.flac_frame.specs.Audio.{samples_each, as_long, each_small, samples_fault, channels_fault, audio_fault, IsSound}
use Rattle.flac_frame.specs.declared.setup.SetupFault.{SetupFault}
use Rattle.flac_frame.specs.declared.setup.SetupFault.TheVariants.{BadRate, BadDepth, BadChannels, LengthsDiffer, SampleTooLarge, TooLong}
use Rattle.std.proofs.lemmas.List.Elements.{All-nil, All-cons}
use Rattle.flac_bits.specs.Signed.{FitsBits}
use Rattle.std.proofs.lemmas.Bool.Decides.{nat_tests}
use Rattle.std.proofs.lemmas.Bool.{not-false}
use Rattle.flac_header.specs.Choice.{depth_choice, depth_choice_in, rate_choice_in}
use Rattle.flac_header.specs.declared.subset.Profile.{Profile}
use Rattle.flac_header.specs.declared.subset.Profile.TheVariants.{Subset, Lax}
use Rattle.flac_frame.specs.Frame.{limits_at}
use Rattle.flac_frame.specs.Encoding.{most_in}
use Rattle.flac_frame.proofs.Depths.{fits-to}

pub samples_in_first : {X : Type 0} (f : X → List ℤ) (xs : List X) (d : X) → 0 < length xs → length (get_or (map f xs) 0 []) ≡ length (f (get_or xs 0 d))
samples_in_first f [] d h = absurd (omega (arith, h))
samples_in_first f (x ∷ xs) d h = refl

-- the tests on the lists that vectors hold
long_of : {X : Type 0} (f : X → List ℤ) (xs : List X) (n : ℕ) (b : Bool) → b ≡ list_all (λ c. nat_eq (length (f c)) n) xs → n ≡ samples_each (map f xs) → b ≡ as_long (map f xs)
long_of f xs n b e is = e ∙ sym (list_all-map (λ c. nat_eq (length c) n) f xs) ∙ ap (λ k. list_all (λ c. nat_eq (length c) k) (map f xs)) is

small_of : {X : Type 0} (f : X → List ℤ) (xs : List X) (bits : ℕ) (b : Bool) → b ≡ list_all (λ c. list_all (fits bits) (f c)) xs → b ≡ each_small bits (map f xs)
small_of f xs bits b e = e ∙ sym (list_all-map (λ c. list_all (fits bits) c) f xs)

-- what is refused, and what is not
module _ {X : Type 0} (f : X → List ℤ) (xs : List X) (bits : ℕ) (n : ℕ) (b : Bool) (e : b ≡ list_all (λ c. nat_eq (length (f c)) n) xs) (is : n ≡ samples_each (map f xs)) where
  pub differ : b ≡ false → samples_fault bits (map f xs) ≡ Some LengthsDiffer
  unfolding samples_fault
  differ bad = rw (sym (long_of f xs n b e is) ∙ bad) refl

  pub large : b ≡ true → (d : Bool) → d ≡ list_all (λ c. list_all (fits bits) (f c)) xs → d ≡ false → samples_fault bits (map f xs) ≡ Some SampleTooLarge
  unfolding samples_fault
  large all d h bad = rw (sym (long_of f xs n b e is) ∙ all, sym (small_of f xs bits d h) ∙ bad) refl

  pub faultless : b ≡ true → (d : Bool) → d ≡ list_all (λ c. list_all (fits bits) (f c)) xs → d ≡ true → samples_fault bits (map f xs) ≡ None
  unfolding samples_fault
  faultless all d h good = rw (sym (long_of f xs n b e is) ∙ all, sym (small_of f xs bits d h) ∙ good) refl

-- of 1 to 8 channels, what is wrong with their samples comes first
by_samples : (bits : ℕ) (cs : List (List ℤ)) → 1 ≤ length cs → length cs ≤ 8 → channels_fault bits cs ≡ option_or (samples_fault bits cs) (cond (nat_le (2 ^ 36) (samples_each cs)) (Some TooLong) None)
unfolding channels_fault
by_samples bits cs some few =
    let counted : (nat_eq (length cs) 0 || nat_lt 8 (length cs)) ≡ false = grind (arith, nat_tests) in
    rw counted refl

too_long : (n : ℕ) → 2 ^ 36 ≤ n → cond (nat_le (2 ^ 36) n) (Some TooLong) None ≡ Some TooLong
too_long n h = let e : nat_le (2 ^ 36) n ≡ true = grind (arith, nat_tests) in rw e refl

not_long : (n : ℕ) → n < 2 ^ 36 → cond (nat_le (2 ^ 36) n) (Some TooLong) None ≡ None
not_long n h = let e : nat_le (2 ^ 36) n ≡ false = grind (arith, nat_tests) in rw e refl

-- the fault of 1 to 8 channels whose samples are those of slices
module _ (bits : ℕ) (cs slices : List (List ℤ)) (some : 1 ≤ length cs) (few : length cs ≤ 8) (same : slices ≡ cs) where
  judged : (o : Option SetupFault) → o ≡ samples_fault bits slices → channels_fault bits cs ≡ option_or o (cond (nat_le (2 ^ 36) (samples_each cs)) (Some TooLong) None)
  judged o is = by_samples bits cs some few ∙ ap (λ k. option_or k (cond (nat_le (2 ^ 36) (samples_each cs)) (Some TooLong) None)) (sym (is ∙ ap (samples_fault bits) same))

  pub samples_wrong : (x : SetupFault) → Some x ≡ samples_fault bits slices → Some x ≡ channels_fault bits cs
  samples_wrong x is = sym (judged (Some x) is)

  pub samples_many : (n : ℕ) → n ≡ samples_each cs → None ≡ samples_fault bits slices → 2 ^ 36 ≤ n → Some TooLong ≡ channels_fault bits cs
  samples_many n e is h = sym (judged None is ∙ too_long (samples_each cs) (rw (← e) h))

  pub samples_right : (n : ℕ) → n ≡ samples_each cs → None ≡ samples_fault bits slices → n < 2 ^ 36 → None ≡ channels_fault bits cs
  samples_right n e is h = sym (judged None is ∙ not_long (samples_each cs) (rw (← e) h))

-- one more slice, of the same samples as a vector
pub slice_more : {X Y : Type 0} (f : X → List ℤ) (g : Y → List ℤ) (xs : List X) (ys : List Y) (i : ℕ) (x : X) (y : Y) → i < length xs → i < length ys → y ≡ get_or ys i y → f x ≡ g y → map f (take i xs) ≡ map g (take i ys)
    → map f (take (i + 1) (set xs i x)) ≡ map g (take (i + 1) ys)
slice_more f g xs ys i x y few lt is one same =
    ap (λ l. map f l) (take_more_set xs i x few) ∙ map-append f (take i xs) (x ∷ []) ∙ ap (λ l. l ++ f x ∷ []) same ∙ ap (λ z. map g (take i ys) ++ z ∷ []) one
    ∙ sym (ap (λ l. map g l) (take_more ys i y lt ∙ ap (λ z. take i ys ++ z ∷ []) (sym is)) ∙ map-append g (take i ys) (y ∷ []))

-- the faults of the format come first
first_faults : (a b d : Bool) (x y z : SetupFault) (rest : Option SetupFault)
    → cond a (Some x) (cond b (Some y) (cond d (Some z) rest)) ≡ option_or (cond a (Some x) (cond b (Some y) (cond d (Some z) None))) (cond d (Some z) rest)
first_faults true b d x y z rest = refl
first_faults false true d x y z rest = refl
first_faults false false true x y z rest = refl
first_faults false false false x y z rest = refl

pub by_format : (profile : Profile) (rate bits count : ℕ) (channels : List (List ℤ)) → count ≡ length channels
    → audio_fault profile rate bits channels ≡ option_or (format_fault profile rate bits count) (channels_fault bits channels)
unfolding audio_fault channels_fault format_fault
by_format profile rate bits count channels is =
    rw is (first_faults (is_none (rate_choice_in profile rate)) (is_none (depth_choice_in profile bits)) (nat_eq (length channels) 0 || nat_lt 8 (length channels)) BadRate BadDepth BadChannels _)

-- a depth that has a code
subset_small : (d : ℕ) → is_some (depth_choice d) ≡ true → (1 ≤ d) × (d ≤ 32)
unfolding depth_choice
subset_small d h = grind (arith, nat_tests)

within_small : (d : ℕ) (o : Option ℕ) → is_some (cond (nat_lt d 4 || nat_lt 32 d) None o) ≡ true → (1 ≤ d) × (d ≤ 32)
within_small d o h = go (nat_lt d 4) (nat_lt 32 d) refl refl h
  where
    go : (a b : Bool) → nat_lt d 4 ≡ a → nat_lt 32 d ≡ b → is_some (cond (a || b) None o) ≡ true → (1 ≤ d) × (d ≤ 32)
    go true b e f h = absurd cc
    go false true e f h = absurd cc
    go false false e f h = let low : 4 ≤ d = grind (arith, nat_tests) in let high : d ≤ 32 = grind (arith, nat_tests) in (omega (arith, low), high)

pub depth_small : (p : Profile) (d : ℕ) → is_some (depth_choice_in p d) ≡ true → (1 ≤ d) × (d ≤ 32)
unfolding depth_choice_in
depth_small Subset d h = subset_small d h
depth_small Lax d h = within_small d _ h

-- ---- the greatest partition order

pub limit_few : (p : Profile) (rate : ℕ) → (limits_at p rate).partition ≤ 15
limit_few Subset rate = omega arith
limit_few Lax rate = omega arith

pub limit_same : (p : Profile) (rate : ℕ) → (limits_at p rate).partition ≡ most_in p
limit_same Subset rate = refl
limit_same Lax rate = refl

-- ---- what holds of samples that can be encoded

both : (a b : Bool) → (a && b) ≡ true → (a ≡ true) × (b ≡ true)
both true true e = (refl, refl)
both true false e = absurd cc
both false b e = absurd cc

all_of : {X : Type 0} (P : X → Type 0) (p : X → Bool) → ((x : X) → p x ≡ true → P x) → (xs : List X) → list_all p xs ≡ true → All P xs
all_of P p h [] e = All-nil P
all_of P p h (x ∷ xs) e = let b = both (p x) (list_all p xs) e in All-cons P x xs (h x b.0) (all_of P p h xs b.1)

same_length : (n : ℕ) (c : List ℤ) → nat_eq (length c) n ≡ true → length c ≡ n
same_length n c e = grind (arith, nat_tests)

none_here : (a : Bool) (e : SetupFault) (o : Option SetupFault) → cond a (Some e) o ≡ None → (a ≡ false) × (o ≡ None)
none_here true e o h = absurd cc
none_here false e o h = (refl, h)

neither : {X : Type 0} (o rest : Option X) → option_or o rest ≡ None → (o ≡ None) × (rest ≡ None)
neither None rest h = (refl, h)
neither (Some x) rest h = absurd cc

is_there : {X : Type 0} (o : Option X) → is_none o ≡ false → is_some o ≡ true
is_there None e = absurd cc
is_there (Some x) e = refl

counts_are : (n : ℕ) → (nat_eq n 0 || nat_lt 8 n) ≡ false → (1 ≤ n) × (n ≤ 8)
counts_are n e = (grind (arith, nat_tests), grind (arith, nat_tests))

not_over : (n : ℕ) → nat_le (2 ^ 36) n ≡ false → n < 2 ^ 36
not_over n e = grind (arith, nat_tests)

pub sound_is : (profile : Profile) (rate bits : ℕ) (cs : List (List ℤ)) → audio_fault profile rate bits cs ≡ None → IsSound (record { profile = profile; rate = rate; bits = bits; channels = cs })
unfolding audio_fault channels_fault samples_fault
sound_is profile rate bits cs e =
    let a = none_here (is_none (rate_choice_in profile rate)) BadRate _ e in
    let b = none_here (is_none (depth_choice_in profile bits)) BadDepth _ a.1 in
    let c = none_here (nat_eq (length cs) 0 || nat_lt 8 (length cs)) BadChannels _ b.1 in
    let samples = neither (samples_fault bits cs) _ c.1 in
    let d = none_here (not (as_long cs)) LengthsDiffer _ samples.0 in
    let f = none_here (not (each_small bits cs)) SampleTooLarge None d.1 in
    let g = none_here (nat_le (2 ^ 36) (samples_each cs)) TooLong None samples.1 in
    let n = counts_are (length cs) c.0 in
    record {
      rate = is_there (rate_choice_in profile rate) a.0;
      bits = is_there (depth_choice_in profile bits) b.0;
      some = n.0;
      few = n.1;
      long = all_of (λ c. length c ≡ samples_each cs) (λ c. nat_eq (length c) (samples_each cs)) (same_length (samples_each cs)) cs (not-false (as_long cs) d.0);
      small = all_of (λ c. All (FitsBits bits) c) (λ c. list_all (fits bits) c) (λ c h. all_of (FitsBits bits) (fits bits) (fits-to bits) c h) cs (not-false (each_small bits cs) f.0);
      short = not_over (samples_each cs) g.0;
    }
