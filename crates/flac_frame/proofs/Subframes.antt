-- Subframes that are read one after another into one array.
use Rattle.std.proofs.Common.{◌≡◌, ℕ, zero, suc, ◌+◌, ◌-◌, ◌*◌, ◌<◌, ◌≤◌, ℤ, Bool, true, false, cond, ◌&&◌, List, [], ◌∷◌, ◌++◌, length, take, drop, get_or, Option, Some, None, Result, Ok, All, refl, sym, ap, ◌∙◌, arith}
use Rattle.std.proofs.lemmas.List.{take-append-le, drop-append-le, drop-take, drop-drop, take-take, take_all, length-drop, length-take-le}
use Rattle.std.proofs.lemmas.List.Elements.{All-append}
use Rattle.std.proofs.lemmas.Slice.{take-put_mid}
use borrow.Rule.Slice.PartMut.{put_mid}
use Rattle.std.proofs.Math.Nat.{mul-le-mul_right}
use Rattle.flac_bits.specs.State.{State, Cursor}
use Rattle.flac_bits.specs.Layout.{run, and_then, Reason}
use Rattle.flac_bits.specs.inner.Reading.{Goes}
use Rattle.flac_bits.proofs.Loops.{goes_on}
use Rattle.flac_subframe.specs.declared.format.limits.Limits.{Limits}
use Rattle.flac_subframe.specs.format.Subframe.{subframe_samples}
use Rattle.flac_frame.specs.Frame.{subframes, side_bit, with_channel}
use Rattle.flac_frame.specs.View.{chunks}

pub length-chunks : {A : Type 0} (c n : ℕ) (xs : List A) → length (chunks c n xs) ≡ c
length-chunks zero n xs = refl
length-chunks (suc c) n xs = ap suc (length-chunks c n (drop n xs))

-- a part ends within the whole
pub part_ends : (i c n : ℕ) → i < c → i * n + n ≤ c * n
part_ends i c n h =
    let le : suc i ≤ c = omega arith in
    omega (arith, mul-le-mul_right n le)

-- what lies after the parts does not matter
pub chunks-take : {A : Type 0} (c n : ℕ) (xs : List A) → chunks c n (take (c * n) xs) ≡ chunks c n xs
chunks-take zero n xs = refl
chunks-take (suc c) n xs =
    let e : suc c * n ≡ n + c * n = omega arith in
    let first : take n (take (n + c * n) xs) ≡ take n xs = take-take n (n + c * n) xs (omega arith) in
    let rest : chunks c n (drop n (take (n + c * n) xs)) ≡ chunks c n (drop n xs) = ap (chunks c n) (drop-take n (c * n) xs) ∙ chunks-take c n (drop n xs) in
    rw (e, first, rest) refl

-- one part more
pub chunks-more : {A : Type 0} (c n : ℕ) (xs own : List A) → length xs ≡ c * n → length own ≡ n → chunks (suc c) n (xs ++ own) ≡ chunks c n xs ++ own ∷ []
chunks-more zero n [] own long is = ap (λ k. k ∷ []) (take_all n own (omega (arith, is)))
chunks-more zero n (x ∷ xs) own long is = absurd (omega (arith, long))
chunks-more (suc c) n xs own long is =
    let within : n ≤ length xs = omega (arith, long) in
    let rest : length (drop n xs) ≡ c * n = length-drop n xs ∙ omega (arith, long) in
    rw (take-append-le n xs own within, drop-append-le n xs own within) (ap (λ k. take n xs ∷ k) (chunks-more c n (drop n xs) own rest is))

-- one subframe more is read
pub subframes_more : (depth code block : ℕ) (limits : Limits) (got : Option (List (List ℤ))) (c n : ℕ) (at : Cursor) → c < n
    → run (subframes depth code block limits got c (n - c)) at
    ≡ and_then (run (subframe_samples (depth + side_bit code c) block limits) at) (λ s d. run (subframes depth code block limits (with_channel got s) (c + 1) (n - (c + 1))) d)
unfolding subframes
subframes_more depth code block limits got c n at lt =
    let k : n - c ≡ suc (n - (c + 1)) = omega arith in
    rw k refl

pub subframes_over : (depth code block : ℕ) (limits : Limits) (got : Option (List (List ℤ))) (c n : ℕ) (at : Cursor) → n ≤ c → run (subframes depth code block limits got c (n - c)) at ≡ Ok (got, at)
unfolding subframes
subframes_over depth code block limits got c n at le =
    let k : n - c ≡ 0 = omega arith in
    rw k refl

-- the channels with one more
put_more : (c b : ℕ) (xs own : List ℤ) → c * b ≤ length xs → length own ≡ b → chunks (c + 1) b (put_mid (c * b) (c * b + b - c * b) xs own) ≡ chunks c b xs ++ own ∷ []
put_more c b xs own within is =
    let e : c + 1 ≡ suc c = omega arith in
    let all : suc c * b ≡ c * b + b = omega arith in
    let long : c * b + b ≡ c * b + length own = omega (arith, is) in
    let front : take (suc c * b) (put_mid (c * b) (c * b + b - c * b) xs own) ≡ take (c * b) xs ++ own = rw all (take-put_mid (c * b) (c * b + b - c * b) xs own (c * b + b) long within) in
    rw e (sym (chunks-take (suc c) b (put_mid (c * b) (c * b + b - c * b) xs own)) ∙ ap (chunks (suc c) b) front
    ∙ chunks-more c b (take (c * b) xs) own (length-take-le (c * b) xs within) is ∙ ap (λ k. k ++ own ∷ []) (chunks-take c b xs))

got_more : (fits ok : Bool) (channels : List (List ℤ)) (own : List ℤ) → with_channel (cond fits (Some channels) None) (cond ok (Some own) None) ≡ cond (fits && ok) (Some (channels ++ own ∷ [])) None
got_more true true channels own = refl
got_more true false channels own = refl
got_more false ok channels own = refl

abbrev pub what : (depth code block : ℕ) → Limits → Bool → ℕ → ℕ → List ℤ → Cursor → Result (Option (List (List ℤ)) × Cursor) Reason
what depth code block limits fits c n xs at = run (subframes depth code block limits (cond fits (Some (chunks c block xs)) None) c (n - c)) at

pub turn : (old now next : State) (depth code block : ℕ) (limits : Limits) (fits ok fits_now : Bool) (c n : ℕ) (xs own : List ℤ) (whole : Result (Option (List (List ℤ)) × Cursor) Reason)
    → Goes old now (what depth code block limits fits c n xs now.cursor) whole → c < n → length xs ≡ n * block → length own ≡ block → fits_now ≡ (fits && ok)
    → (now.known ≡ true → next.known ≡ true) × (next.errors ≡ now.errors) × (next.raised ≡ now.raised) × (now.known ≡ true → next.after ≡ now.after) × (next.names ≡ now.names)
    → (now.known ≡ true → next.errors ≡ now.errors → run (subframe_samples (depth + side_bit code c) block limits) now.cursor ≡ Ok (cond ok (Some own) None, next.cursor))
    → Goes old next (what depth code block limits fits_now (c + 1) n (put_mid (c * block) (c * block + block - c * block) xs own) next.cursor) whole
turn old now next depth code block limits fits ok fits_now c n xs own whole goes lt long is both counts reads =
    let got : Option (List (List ℤ)) = cond fits (Some (chunks c block xs)) None in
    let within : c * block ≤ length xs = omega (arith, long, part_ends c n block lt) in
    let same : with_channel got (cond ok (Some own) None) ≡ cond fits_now (Some (chunks (c + 1) block (put_mid (c * block) (c * block + block - c * block) xs own))) None =
    got_more fits ok (chunks c block xs) own ∙ rw (both, put_more c block xs own within is) refl in
    goes_on old now next (run (subframe_samples (depth + side_bit code c) block limits) now.cursor) (cond ok (Some own) None)
    (λ s d. run (subframes depth code block limits (with_channel got s) (c + 1) (n - (c + 1))) d) _ _ whole goes (subframes_more depth code block limits got c n now.cursor lt)
    (ap (λ g. run (subframes depth code block limits g (c + 1) (n - (c + 1))) next.cursor) same) counts reads

pub both_false : (fits now ok : Bool) → now ≡ false → ok ≡ false → now ≡ (fits && ok)
both_false true now ok a b = a ∙ sym b
both_false false now ok a b = a

pub both_true : (fits now ok : Bool) → now ≡ fits → ok ≡ true → now ≡ (fits && ok)
both_true true now ok a b = a ∙ sym b
both_true false now ok a b = a

pub chunks-at : {A : Type 0} (c n : ℕ) (xs : List A) (i : ℕ) → i < c → get_or (chunks c n xs) i [] ≡ take n (drop (i * n) xs)
chunks-at zero n xs i h = absurd (omega arith)
chunks-at (suc c) n xs zero h = let e : 0 * n ≡ 0 = omega arith in rw e refl
chunks-at (suc c) n xs (suc i) h =
    let lt : i < c = omega arith in
    let e : suc i * n ≡ n + i * n = omega arith in
    chunks-at c n (drop n xs) i lt ∙ (ap (take n) (drop-drop (i * n) n xs) ∙ ap (λ k. take n (drop k xs)) (sym e))

-- what holds of the samples so far and of those of one channel more
pub all_more : (P : ℤ → Type 0) (c b : ℕ) (xs own : List ℤ) → c * b ≤ length xs → length own ≡ b → All P (take (c * b) xs) → All P own → All P (take ((c + 1) * b) (put_mid (c * b) (c * b + b - c * b) xs own))
all_more P c b xs own within is before here =
    let e : (c + 1) * b ≡ c * b + b = omega arith in
    let long : c * b + b ≡ c * b + length own = omega (arith, is) in
    rw (e, take-put_mid (c * b) (c * b + b - c * b) xs own (c * b + b) long within) (All-append P (take (c * b) xs) own before here)
