-- The samples of all channels, which stand in one array.
use Rattle.std.proofs.Common.{◌≡◌, ℕ, zero, suc, ◌*◌, ◌<◌, ℤ, Bool, true, false, cond, nat_lt, List, [], ◌∷◌, ◌++◌, ◌≤◌, min, length, take, drop, Option, Some, None, Result, Ok, Err, refl, sym, ap, ◌∙◌, arith}
use Rattle.std.proofs.lemmas.Bool.Decides.{nat_tests}
use Rattle.std.proofs.lemmas.List.{take-append-drop, length-drop, length-take}
use Rattle.std.proofs.Math.Seq.{take-append_seam}
use Rattle.flac_bits.specs.State.{Cursor}
use Rattle.flac_bits.specs.Layout.{Reason, because, and_then, run}
use Rattle.flac_bits.specs.declared.why.Why.TheVariants.{SampleRange}
use Rattle.flac_header.specs.Header.{Header, channels_of}
use Rattle.flac_subframe.specs.format.Numbers.{all_fit}
use Rattle.flac_frame.specs.Frame.{Frame, each_fits, in_range, some_or}
use Rattle.flac_frame.specs.Stereo.{joined}
use Rattle.flac_frame.specs.View.{chunks, frame_in}
use Rattle.flac_frame.proofs.Depths.{all_fit-append}

-- the samples of all channels fit where all that stand in the array do
pub each_is : (depth c n : ℕ) (xs : List ℤ) → length xs ≡ c * n → each_fits depth (chunks c n xs) ≡ all_fit depth xs
each_is depth zero n [] long = refl
each_is depth zero n (x ∷ xs) long = absurd (omega (arith, long))
each_is depth (suc c) n xs long =
    let rest : length (drop n xs) ≡ c * n = length-drop n xs ∙ omega (arith, long) in
    ap (λ b. cond (all_fit depth (take n xs)) b false) (each_is depth c n (drop n xs) rest) ∙ sym (all_fit-append depth (take n xs) (drop n xs)) ∙ ap (all_fit depth) (take-append-drop n xs)

pub some_fit : (depth code c n : ℕ) (old xs : List ℤ) → chunks c n xs ≡ joined code (chunks c n old) → each_fits depth (joined code (chunks c n old)) ≡ true → in_range depth code (Some (chunks c n old)) ≡ Some (chunks c n xs)
some_fit depth code c n old xs is h = rw (h, is) refl

pub none_fits : (depth code c n : ℕ) (old : List ℤ) → each_fits depth (joined code (chunks c n old)) ≡ false → in_range depth code (Some (chunks c n old)) ≡ None
none_fits depth code c n old h = rw h refl

-- the first places, after a write to them
pub first_places : (m : ℕ) (ys zs : List ℤ) → length ys ≡ m → take m (ys ++ zs) ≡ ys
first_places m ys zs long = ap (λ k. take k (ys ++ zs)) (sym long) ∙ take-append_seam ys zs

-- the places of a block that is not too long
pub places_within : (channels size a b n : ℕ) → size ≤ a → size ≤ b → channels * min a b ≤ n → channels * size ≤ n
places_within channels size a b n p q r =
    let s : size ≤ min a b = omega arith in
    let t : channels * size ≤ channels * min a b = grind arith in
    omega arith

-- how many were written to the first places
pub taken_long : (m n : ℕ) (ys xs : List ℤ) → length ys ≡ length (take n xs) → m ≡ n → m ≤ length xs → length ys ≡ m
taken_long m n ys xs e same le = omega (arith, e, length-take n xs)

-- how many the first places are
pub first_long : (m n : ℕ) (xs : List ℤ) → m ≡ n → m ≤ length xs → length (take n xs) ≡ m
first_long m n xs same le = omega (arith, same, length-take n xs)

-- ---- what follows the end of a frame

-- under a code that joins there are two channels
pub two_channels : (code own n m : ℕ) → own ≡ code → channels_of code ≡ m → n ≡ m → 7 < own → n ≡ 2
two_channels code own n m is many same low =
    let over : nat_lt code 8 ≡ false = grind (arith, nat_tests) in
    same ∙ sym many ∙ rw over refl

-- what is judged of the samples there
abbrev pub rest : (depth code : ℕ) → Option (List (List ℤ)) → Header → Cursor → Result (Frame × Cursor) Reason
rest depth code got h at = and_then (run (some_or SampleRange (in_range depth code got)) at) (λ channels d. Ok (record { variable = h.variable; number = h.number; size = h.size; channels = channels }, d))

abbrev framed : Frame × Cursor → Result (Frame × Cursor) Reason
framed y = Ok y

pub rest_unread : (depth code : ℕ) (fits : Bool) (channels : List (List ℤ)) (h : Header) (at : Cursor) → fits ≡ false → rest depth code (cond fits (Some channels) None) h at ≡ Err (because SampleRange)
rest_unread depth code fits channels h at e = rw e refl

pub rest_unfit : (depth code c : ℕ) (fits joins : Bool) (old : List ℤ) (h : Header) (at : Cursor) → fits ≡ true → joins ≡ each_fits depth (joined code (chunks c h.size old)) → joins ≡ false
    → rest depth code (cond fits (Some (chunks c h.size old)) None) h at ≡ Err (because SampleRange)
rest_unfit depth code c fits joins old h at e is f = ap (λ b. rest depth code (cond b (Some (chunks c h.size old)) None) h at) e ∙ ap (λ got. and_then (run (some_or SampleRange got) at) (λ channels d. framed (record { variable = h.variable; number = h.number; size = h.size; channels = channels }, d))) (none_fits depth code c h.size old (sym is ∙ f))

pub rest_fit : (depth code c : ℕ) (fits joins : Bool) (old xs : List ℤ) (h : Header) (at : Cursor) → fits ≡ true → joins ≡ each_fits depth (joined code (chunks c h.size old)) → joins ≡ true
    → chunks c h.size xs ≡ joined code (chunks c h.size old) → rest depth code (cond fits (Some (chunks c h.size old)) None) h at ≡ Ok (frame_in c h xs, at)
rest_fit depth code c fits joins old xs h at e is f same = ap (λ b. rest depth code (cond b (Some (chunks c h.size old)) None) h at) e ∙ ap (λ got. and_then (run (some_or SampleRange got) at) (λ channels d. framed (record { variable = h.variable; number = h.number; size = h.size; channels = channels }, d))) (some_fit depth code c h.size old xs same (sym is ∙ f))
