-- Raising and lowering samples.
use Rattle.std.proofs.Common.{◌≡◌, ◌≤◌, ◌<◌, ◌+◌, ◌-◌, ◌*◌, ◌/◌, ◌%◌, ◌^◌, ◌++◌, ◌∷◌, [], ℕ, zero, suc, Option, Some, None, List, length, take, drop, refl, sym, ap, ◌∙◌, ◌⊎◌, inl, inr, append_assoc, subst, arith, length-append}
use Rattle.std.proofs.lemmas.Nat.{div-add-mod', pow_pos, pow-add, mod-pow-add, mod_low, one_shl}
use Rattle.std.proofs.Math.Nat.{mod-lt, pow-suc, suc-mul, mod-eq_of_lt, lt_of_mul-lt-mul_right, add-mul, pow-le-pow_right, add-mul-mod_self_right, div-eq-sub-div, div-eq_of_lt}
use Rattle.std.proofs.Math.Seq.{take-append_seam, drop-append_seam, take-add}
use Rattle.std.proofs.lemmas.List.{append-nil, length-take, length-take-le, length-drop, take-append-drop, take-append-le, drop-append-le, take_at, drop_at}
use Rattle.byteorder.specs.Endian.{little_bytes, little_number}
use Rattle.byteorder.specs.Numbers.{length-bytes_low_first, little_number-reads_back, little_from-cons, little_from-take, little_from-append}
use Rattle.std.specs.Int.{bytes_low_first, byte_at}
use Rattle.std.proofs.lemmas.Bool.{and_parts, ltb-true, eqb-true, eq-eqb, ne_eqb}
use borrow.Rule.Slice.PartMut.{put_mid, mid_of}
use Rattle.std.specs.Prelude.{◌==◌, ◌&&◌, ◌||◌, Bool, true, false, cond, nat_lt, nat_eq}
use Rattle.flac_wave.specs.Shift.{raised, raised_one, lowered, lowered_number, are_low_zero, AreBytes, SamplesComeBack, is_stated_depth, wave_width_of, may_be_narrow, known_depth, depth_in}
use Rattle.flac_wave.specs.declared.format.WaveFormat.{WaveFormat}

-- some samples were raised, and these are left
pub record Raising (width wave_width shift : ℕ) (all rest old out : List ℕ) (done : ℕ) : Type 0 where
  pub left : ℕ
  pub long : length rest ≡ left * width
  pub filled : take done out ++ raised width wave_width shift left rest ≡ raised width wave_width shift (length all / width) all
  pub place : done + left * wave_width ≡ length all / width * wave_width
  pub room : length out ≡ length old

whole_of : (n width : ℕ) → n % width ≡ 0 → n ≡ n / width * width
whole_of n width none = let e = div-add-mod' n width in omega (arith, e, none)

pub raising_first : (width wave_width shift : ℕ) (all out : List ℕ) → length all % width ≡ 0 → Raising width wave_width shift all all out out 0
raising_first width wave_width shift all out whole = record { left = length all / width; long = whole_of (length all) width whole; filled = refl; place = none_first (length all / width * wave_width); room = refl }
  where
    none_first : (n : ℕ) → 0 + n ≡ n
    none_first n = omega arith

-- a sample at least is left
pub record SomeLeft (width wave_width : ℕ) (all rest old out : List ℕ) (done : ℕ) : Type 0 where
  pub within : width ≤ length rest
  pub room : done + wave_width ≤ length out

raising_some : (width wave_width shift : ℕ) (all rest old out : List ℕ) (done : ℕ) → Raising width wave_width shift all rest old out done → 0 < length rest → length all / width * wave_width ≤ length old → SomeLeft width wave_width all rest old out done
raising_some width wave_width shift all rest old out done s more enough = some_by s.left s.long s.place
  where
    some_by : (left : ℕ) → length rest ≡ left * width → done + left * wave_width ≡ length all / width * wave_width → SomeLeft width wave_width all rest old out done
    some_by zero long place = absurd (omega (arith, long, more))
    some_by (suc m) long place =
        let e : suc m * width ≡ m * width + width = suc-mul m width in
        let g : suc m * wave_width ≡ m * wave_width + wave_width = suc-mul m wave_width in
        record { within = omega (arith, long, e); room = let r = s.room in omega (arith, place, g, r, enough) }

pub raising_within : (width wave_width shift : ℕ) (all rest old out : List ℕ) (done : ℕ) → Raising width wave_width shift all rest old out done → 0 < length rest → length all / width * wave_width ≤ length old → width ≤ length rest
raising_within width wave_width shift all rest old out done s more enough = (raising_some width wave_width shift all rest old out done s more enough).within

pub raising_room : (width wave_width shift : ℕ) (all rest old out : List ℕ) (done : ℕ) → Raising width wave_width shift all rest old out done → 0 < length rest → length all / width * wave_width ≤ length old → done + wave_width ≤ length out
raising_room width wave_width shift all rest old out done s more enough = (raising_some width wave_width shift all rest old out done s more enough).room

-- one sample more
raised_more : (width wave_width shift left : ℕ) (rest : List ℕ) (a : List ℕ) → length rest ≡ left * width → 0 < length rest
    → (m : ℕ) × (left ≡ suc m) × (a ++ raised width wave_width shift left rest ≡ (a ++ little_bytes wave_width (little_number width rest * 2 ^ shift % 2 ^ (8 * wave_width))) ++ raised width wave_width shift m (drop width rest))
raised_more width wave_width shift zero rest a long more = absurd (omega (arith, long, more))
raised_more width wave_width shift (suc m) rest a long more = (m, refl, sym (append_assoc a (little_bytes wave_width (little_number width rest * 2 ^ shift % 2 ^ (8 * wave_width))) (raised width wave_width shift m (drop width rest))))

-- a part of the places was filled
put_taken : (a k n : ℕ) (xs ys : List ℕ) → a ≤ length xs → n ≤ length ys → take (a + n) (put_mid a k xs ys) ≡ take a xs ++ take n ys
put_taken a k n xs ys le few =
    let long : length (take a xs) ≡ a = omega (arith, length-take a xs, le) in
    let post = drop k (drop a xs) in
    take-add a n (put_mid a k xs ys) ∙ ap (λ zs. zs ++ take n (drop a (put_mid a k xs ys))) (take_at (take a xs) (ys ++ post) a long)
    ∙ ap (λ zs. take a xs ++ take n zs) (drop_at (take a xs) (ys ++ post) a long) ∙ ap (λ zs. take a xs ++ zs) (take-append-le n ys post few)

put_long : (a : ℕ) (xs ys : List ℕ) → a ≤ length xs → length ys ≡ length xs - a → length (put_mid a (length xs - a) xs ys) ≡ length xs
put_long a xs ys le e =
    omega (arith, length-append (take a xs) (ys ++ drop (length xs - a) (drop a xs)), length-append ys (drop (length xs - a) (drop a xs)), length-take a xs, length-drop (length xs - a) (drop a xs), length-drop a xs, le, e)

low_mod : (n k : ℕ) → k ≤ 64 → n % 2 ^ 64 % 2 ^ k ≡ n % 2 ^ k
low_mod n k le =
    let j = 64 - k in
    ap (λ x. x % 2 ^ k) (ap (λ e. n % 2 ^ e) (all_of k le) ∙ mod-pow-add n j k) ∙ mod_low (n / 2 ^ k % 2 ^ j) k (n % 2 ^ k) (mod-lt n (pow_pos k))
  where
    all_of : (k : ℕ) → k ≤ 64 → 64 ≡ (64 - k) + k
    all_of k le = omega (arith, le)

-- a number that is shifted in 64 bits and cut to `wave_width` bytes
high_is : (number shift wave_width : ℕ) → wave_width ≤ 4 → number * 2 ^ shift % 2 ^ 64 % (1 * 2 ^ (8 * wave_width) % 2 ^ 64) ≡ number * 2 ^ shift % 2 ^ (8 * wave_width)
high_is number shift wave_width few =
    ap (λ m. number * 2 ^ shift % 2 ^ 64 % m) (one_shl (8 * wave_width) 64 (omega (arith, few))) ∙ low_mod (number * 2 ^ shift) (8 * wave_width) (omega (arith, few))

pow_bytes : (n : ℕ) → 256 ^ n ≡ 2 ^ (8 * n)
pow_bytes zero = refl
pow_bytes (suc n) =
    let e : 8 * suc n ≡ 8 * n + 8 = omega arith in
    pow-suc 256 n ∙ (ap (λ x. x * 256) (pow_bytes n) ∙ (sym (pow-add 2 (8 * n) 8) ∙ ap (λ k. 2 ^ k) (sym e)))

pub high_fits : (x wave_width : ℕ) → wave_width ≤ 4 → x % (1 * 2 ^ (8 * wave_width) % 2 ^ 64) < 256 ^ wave_width
high_fits x wave_width few =
    subst (λ m. x % (1 * 2 ^ (8 * wave_width) % 2 ^ 64) < m) (one_shl (8 * wave_width) 64 (omega (arith, few)) ∙ sym (pow_bytes wave_width))
    (mod-lt x (subst (λ m. 0 < m) (sym (one_shl (8 * wave_width) 64 (omega (arith, few)))) (pow_pos (8 * wave_width))))

pub some_rest : (xs : List ℕ) (b : Bool) → b ≡ (length xs == 0) → b ≡ false → 0 < length xs
some_rest [] b is e = absurd cc
some_rest (x ∷ xs) b is e = omega arith

pub raising_next : (width wave_width shift : ℕ) (all rest more sample old out buf : List ℕ) (done number : ℕ) → Raising width wave_width shift all rest old out done → 0 < length rest
    → length all / width * wave_width ≤ length old → wave_width ≤ 4 → sample ≡ take width rest → number ≡ little_number width sample → more ≡ drop width rest
    → buf ≡ little_bytes wave_width (number * 2 ^ shift % 2 ^ 64 % (1 * 2 ^ (8 * wave_width) % 2 ^ 64)) ++ drop wave_width (mid_of done (length out - done) out)
    → Raising width wave_width shift all more old (put_mid done (length out - done) out buf) (done + wave_width)
raising_next width wave_width shift all rest more sample old out buf done number s some enough few part read cut put =
    let k = raising_some width wave_width shift all rest old out done s some enough in
    let n = raised_more width wave_width shift s.left rest (take done out) s.long some in
    let room = k.room in
    let high = number * 2 ^ shift % 2 ^ 64 % (1 * 2 ^ (8 * wave_width) % 2 ^ 64) in
    let number_is : number ≡ little_number width rest = read ∙ (ap (λ l. little_number width l) part ∙ little_from-take 0 width width rest (omega arith)) in
    let is : high ≡ little_number width rest * 2 ^ shift % 2 ^ (8 * wave_width) = high_is number shift wave_width few ∙ ap (λ x. x * 2 ^ shift % 2 ^ (8 * wave_width)) number_is in
    let bytes : length (little_bytes wave_width high) ≡ wave_width = length-bytes_low_first 0 wave_width high in
    let mid : length (mid_of done (length out - done) out) ≡ length out - done = mid_long done out in
    let buf_long : length buf ≡ length out - done =
    ap length put ∙ (length-append (little_bytes wave_width high) (drop wave_width (mid_of done (length out - done) out))
    ∙ (let d = length-drop wave_width (mid_of done (length out - done) out) in omega (arith, bytes, d, mid, room))) in
    let front : take wave_width buf ≡ little_bytes wave_width high =
    ap (λ l. take wave_width l) put ∙ (ap (λ x. take x (little_bytes wave_width high ++ drop wave_width (mid_of done (length out - done) out))) (sym bytes) ∙ take-append_seam (little_bytes wave_width high) _) in
    let taken : take (done + wave_width) (put_mid done (length out - done) out buf) ≡ take done out ++ little_bytes wave_width high =
    put_taken done (length out - done) wave_width out buf (omega (arith, room)) (omega (arith, buf_long, room)) ∙ ap (λ l. take done out ++ l) front in
    record {
      left = n.0;
      long = left_long n.0 n.1 (ap length cut ∙ length-drop width rest);
      filled = ap (λ l. l ++ raised width wave_width shift n.0 more) taken
          ∙ (ap (λ l. (take done out ++ little_bytes wave_width high) ++ raised width wave_width shift n.0 l) cut
          ∙ (ap (λ x. (take done out ++ little_bytes wave_width x) ++ raised width wave_width shift n.0 (drop width rest)) is ∙ (sym n.2 ∙ s.filled)));
      place = place_by n.0 n.1;
      room = put_long done out buf (omega (arith, room)) buf_long ∙ s.room;
    }
  where
    mid_long : (a : ℕ) (xs : List ℕ) → length (mid_of a (length xs - a) xs) ≡ length xs - a
    mid_long a xs = let t = length-take (length xs - a) (drop a xs) in let d = length-drop a xs in omega (arith, t, d)

    left_long : (m : ℕ) → s.left ≡ suc m → length more ≡ length rest - width → length more ≡ m * width
    left_long m e f = let g : length rest ≡ m * width + width = s.long ∙ (ap (λ x. x * width) e ∙ suc-mul m width) in omega (arith, f, g)

    place_by : (m : ℕ) → s.left ≡ suc m → (done + wave_width) + m * wave_width ≡ length all / width * wave_width
    place_by m e = let g : done + (m * wave_width + wave_width) ≡ length all / width * wave_width = ap (λ x. done + x) (sym (ap (λ x. x * wave_width) e ∙ suc-mul m wave_width)) ∙ s.place in omega (arith, g)

pub raising_last : (width wave_width shift : ℕ) (all rest old out : List ℕ) (done : ℕ) → Raising width wave_width shift all rest old out done → 0 < width → rest ≡ []
    → (take done out ≡ raised width wave_width shift (length all / width) all) × (done ≡ length all / width * wave_width)
raising_last width wave_width shift all rest old out done s some none = last_by s.left s.long s.filled s.place
  where
    last_by : (left : ℕ) → length rest ≡ left * width → take done out ++ raised width wave_width shift left rest ≡ raised width wave_width shift (length all / width) all → done + left * wave_width ≡ length all / width * wave_width
        → (take done out ≡ raised width wave_width shift (length all / width) all) × (done ≡ length all / width * wave_width)
    last_by zero long filled place = (sym (append-nil (take done out)) ∙ filled, let e = place in omega (arith, e))
    last_by (suc m) long filled place = let e : length rest ≡ 0 = ap length none in let g : suc m * width ≡ m * width + width = suc-mul m width in absurd (omega (arith, e, g, long, some))

-- ---- lowering

-- some samples were lowered, and these are left
pub record Lowering (wave_width width shift : ℕ) (all rest low : List ℕ) : Type 0 where
  pub left : ℕ
  pub long : length rest ≡ left * wave_width
  pub filled : low ++ lowered wave_width width shift left rest ≡ lowered wave_width width shift (length all / wave_width) all

pub lowering_first : (wave_width width shift : ℕ) (all : List ℕ) → length all % wave_width ≡ 0 → Lowering wave_width width shift all all []
lowering_first wave_width width shift all whole = record { left = length all / wave_width; long = whole_of (length all) wave_width whole; filled = refl }

pub lowering_within : (wave_width width shift : ℕ) (all rest low : List ℕ) → Lowering wave_width width shift all rest low → 0 < length rest → wave_width ≤ length rest
lowering_within wave_width width shift all rest low s more = within_by s.left s.long
  where
    within_by : (left : ℕ) → length rest ≡ left * wave_width → wave_width ≤ length rest
    within_by zero long = absurd (omega (arith, long, more))
    within_by (suc m) long = let e : suc m * wave_width ≡ m * wave_width + wave_width = suc-mul m wave_width in omega (arith, long, e)

pub lowering_next : (wave_width width shift : ℕ) (all rest more low new : List ℕ) (number : ℕ) → Lowering wave_width width shift all rest low → 0 < length rest
    → number ≡ lowered_number wave_width width shift (little_number wave_width rest) → more ≡ drop wave_width rest → new ≡ low ++ little_bytes width number → Lowering wave_width width shift all more new
lowering_next wave_width width shift all rest more low new number s some is cut put = next_by s.left s.long s.filled
  where
    next_by : (left : ℕ) → length rest ≡ left * wave_width → low ++ lowered wave_width width shift left rest ≡ lowered wave_width width shift (length all / wave_width) all → Lowering wave_width width shift all more new
    next_by zero long filled = absurd (omega (arith, long, some))
    next_by (suc m) long filled =
        let e : suc m * wave_width ≡ m * wave_width + wave_width = suc-mul m wave_width in
        let left : length more ≡ length rest - wave_width = ap length cut ∙ length-drop wave_width rest in
        record {
          left = m;
          long = omega (arith, left, long, e);
          filled = ap (λ l. l ++ lowered wave_width width shift m more) put
              ∙ (ap (λ n. (low ++ little_bytes width n) ++ lowered wave_width width shift m more) is
              ∙ (ap (λ l. (low ++ little_bytes width (lowered_number wave_width width shift (little_number wave_width rest))) ++ lowered wave_width width shift m l) cut
              ∙ (append_assoc low (little_bytes width (lowered_number wave_width width shift (little_number wave_width rest))) (lowered wave_width width shift m (drop wave_width rest)) ∙ filled)));
        }

pub lowering_last : (wave_width width shift : ℕ) (all rest low : List ℕ) → Lowering wave_width width shift all rest low → 0 < wave_width → rest ≡ [] → low ≡ lowered wave_width width shift (length all / wave_width) all
lowering_last wave_width width shift all rest low s some none = last_by s.left s.long s.filled
  where
    last_by : (left : ℕ) → length rest ≡ left * wave_width → low ++ lowered wave_width width shift left rest ≡ lowered wave_width width shift (length all / wave_width) all → low ≡ lowered wave_width width shift (length all / wave_width) all
    last_by zero long filled = sym (append-nil low) ∙ filled
    last_by (suc m) long filled = let e : length rest ≡ 0 = ap length none in let g : suc m * wave_width ≡ m * wave_width + wave_width = suc-mul m wave_width in absurd (omega (arith, e, g, long, some))

-- ---- zeros

pub zero_none : (wave_width shift : ℕ) (rest : List ℕ) → 0 < wave_width → length rest < wave_width → are_low_zero wave_width shift (length rest / wave_width) rest ≡ true
zero_none wave_width shift rest some few = ap (λ n. are_low_zero wave_width shift n rest) (div-eq_of_lt few)

pub zero_next : (wave_width shift : ℕ) (rest : List ℕ) → 0 < wave_width → wave_width ≤ length rest
    → are_low_zero wave_width shift (length rest / wave_width) rest ≡ (nat_eq (little_number wave_width rest % 2 ^ shift) 0 && are_low_zero wave_width shift (length (drop wave_width rest) / wave_width) (drop wave_width rest))
zero_next wave_width shift rest some within =
    ap (λ n. are_low_zero wave_width shift n rest) (div-eq-sub-div some within ∙ next_suc ((length rest - wave_width) / wave_width))
    ∙ ap (λ n. nat_eq (little_number wave_width rest % 2 ^ shift) 0 && are_low_zero wave_width shift (n / wave_width) (drop wave_width rest)) (sym (length-drop wave_width rest))
  where
    next_suc : (n : ℕ) → n + 1 ≡ suc n
    next_suc n = omega arith

-- ---- and back

mod_of_lt : (n m : ℕ) → n < m → n % m ≡ n
mod_of_lt n m few = mod-eq_of_lt few

-- with powers of two as variables: v S = n, in D S = M, and P = D Q
back_even : (n S D M P : ℕ) → 0 < S → n % S ≡ 0 → n < M → D * S ≡ M → D ≤ P → 0 < P → ((n / S % P + 0) % P) * S % M ≡ n
back_even n S D M P some low few is within more =
    let v = n / S in
    let whole : n ≡ v * S = whole_of n S low in
    let small : v < D = lt_of_mul-lt-mul_right S (omega (arith, few, is, whole)) in
    let a : v % P ≡ v = mod_of_lt v P (omega (arith, small, within)) in
    let b : (v % P + 0) % P ≡ v = ap (λ k. (k + 0) % P) a ∙ (ap (λ k. k % P) (add_zero v) ∙ a) in
    ap (λ k. k * S % M) b ∙ (ap (λ k. k % M) (sym whole) ∙ mod_of_lt n M few)
  where
    add_zero : (k : ℕ) → k + 0 ≡ k
    add_zero k = omega arith

back_odd : (n S D M P K : ℕ) → 0 < S → n % S ≡ 0 → n < M → D * S ≡ M → D ≤ P → 0 < P → P * S ≡ K * M → ((n / S % P + (P - D)) % P) * S % M ≡ n
back_odd n S D M P K some low few is within more times =
    let v = n / S in
    let whole : n ≡ v * S = whole_of n S low in
    let small : v < D = lt_of_mul-lt-mul_right S (omega (arith, few, is, whole)) in
    let a : v % P ≡ v = mod_of_lt v P (omega (arith, small, within)) in
    let b : (v % P + (P - D)) % P ≡ v + (P - D) = ap (λ k. (k + (P - D)) % P) a ∙ mod_of_lt (v + (P - D)) P (omega (arith, small, within)) in
    let c : (v + (P - D)) * S ≡ v * S + (P - D) * S = add-mul v (P - D) S in
    let d : (P - D) * S + D * S ≡ P * S = sym (add-mul (P - D) D S) ∙ ap (λ k. k * S) (joined within) in
    let e : (v + (P - D)) * S + 1 * M ≡ n + K * M = let one : 1 * M ≡ M = omega arith in omega (arith, c, d, is, times, whole, one) in
    ap (λ k. k * S % M) b ∙ (sym (add-mul-mod_self_right ((v + (P - D)) * S) 1 M) ∙ (ap (λ k. k % M) e ∙ (add-mul-mod_self_right n K M ∙ mod_of_lt n M few)))
  where
    joined : D ≤ P → (P - D) + D ≡ P
    joined h = omega (arith, h)

back_by : (high : Bool) (n S D M P K : ℕ) → 0 < S → n % S ≡ 0 → n < M → D * S ≡ M → D ≤ P → 0 < P → P * S ≡ K * M → ((n / S % P + cond high 0 (P - D)) % P) * S % M ≡ n
back_by true n S D M P K some low few is within more times = back_even n S D M P some low few is within more
back_by false n S D M P K some low few is within more times = back_odd n S D M P K some low few is within more times

-- a number whose lowest bits are zeros comes back
number_back : (wave_width width shift n : ℕ) → shift ≤ 8 * wave_width → 8 * wave_width ≤ 8 * width + shift → n < 2 ^ (8 * wave_width) → n % 2 ^ shift ≡ 0
    → lowered_number wave_width width shift n * 2 ^ shift % 2 ^ (8 * wave_width) ≡ n
number_back wave_width width shift n less more few low =
    let d = 8 * wave_width - shift in
    let k = 8 * width + shift - 8 * wave_width in
    let is : 2 ^ d * 2 ^ shift ≡ 2 ^ (8 * wave_width) = sym (pow-add 2 d shift) ∙ ap (λ e. 2 ^ e) (omega (arith, less)) in
    let times : 2 ^ (8 * width) * 2 ^ shift ≡ 2 ^ k * 2 ^ (8 * wave_width) = sym (pow-add 2 (8 * width) shift) ∙ (ap (λ e. 2 ^ e) (omega (arith, more)) ∙ pow-add 2 k (8 * wave_width)) in
    let within : 2 ^ d ≤ 2 ^ (8 * width) = pow-le-pow_right (omega arith) (omega (arith, more)) in
    back_by (nat_lt n (2 ^ (8 * wave_width - 1))) n (2 ^ shift) (2 ^ d) (2 ^ (8 * wave_width)) (2 ^ (8 * width)) (2 ^ k) (pow_pos shift) low few is within (pow_pos (8 * width)) times

-- bytes of one number are the same
number_inj : (n : ℕ) (xs bs : List ℕ) → length xs ≡ n → length bs ≡ n → AreBytes xs → AreBytes bs → little_number n xs ≡ little_number n bs → xs ≡ bs
number_inj zero [] [] p q h k e = refl
number_inj zero (a ∷ xs) bs p q h k e = absurd (omega (arith, p))
number_inj zero [] (b ∷ bs) p q h k e = absurd (omega (arith, q))
number_inj (suc n) [] bs p q h k e = absurd (omega (arith, p))
number_inj (suc n) (a ∷ xs) [] p q h k e = absurd (omega (arith, q))
number_inj (suc n) (a ∷ xs) (b ∷ bs) p q h k e =
    let s : a + 256 * little_number n xs ≡ b + 256 * little_number n bs =
    ap (λ r. a + 256 * r) (sym (little_from-cons 0 n a xs)) ∙ (e ∙ ap (λ r. b + 256 * r) (little_from-cons 0 n b bs)) in
    let t = split_by a b (little_number n xs) (little_number n bs) h.0 k.0 s in
    ap (λ x. x ∷ xs) t.0 ∙ ap (λ l. b ∷ l) (number_inj n xs bs (omega (arith, p)) (omega (arith, q)) h.1 k.1 t.1)
  where
    split_by : (a b r s : ℕ) → a < 256 → b < 256 → a + 256 * r ≡ b + 256 * s → (a ≡ b) × (r ≡ s)
    split_by a b r s p q e = (omega (arith, p, q, e), omega (arith, p, q, e))

byte_small : (k x : ℕ) → byte_at k x < 256
byte_small zero x = mod-lt x (omega arith)
byte_small (suc k) x = mod-lt (x / 256 ^ suc k) (omega arith)

low_first_bytes : (i n x : ℕ) → AreBytes (bytes_low_first i n x)
low_first_bytes i zero x = tt
low_first_bytes i (suc n) x = (byte_small i x, low_first_bytes (suc i) n x)

bytes_take : (n : ℕ) (bs : List ℕ) → AreBytes bs → AreBytes (take n bs)
bytes_take zero bs h = tt
bytes_take (suc n) [] h = tt
bytes_take (suc n) (b ∷ bs) h = (h.0, bytes_take n bs h.1)

bytes_drop : (n : ℕ) (bs : List ℕ) → AreBytes bs → AreBytes (drop n bs)
bytes_drop zero bs h = h
bytes_drop (suc n) [] h = tt
bytes_drop (suc n) (b ∷ bs) h = bytes_drop n bs h.1

number_small : (n : ℕ) (bs : List ℕ) → AreBytes bs → n ≤ length bs → little_number n bs < 256 ^ n
number_small zero bs h long = omega arith
number_small (suc n) [] h long = absurd (omega (arith, long))
number_small (suc n) (b ∷ bs) h long =
    let e : little_number (suc n) (b ∷ bs) ≡ b + 256 * little_number n bs = ap (λ r. b + 256 * r) (little_from-cons 0 n b bs) in
    let ih = number_small n bs h.1 (omega (arith, long)) in
    let p : 256 ^ suc n ≡ 256 ^ n * 256 = pow-suc 256 n in
    let byte = h.0 in
    omega (arith, e, ih, p, byte)

-- the bytes of the number in bytes
bytes_back : (n : ℕ) (bs : List ℕ) → AreBytes bs → n ≤ length bs → little_bytes n (little_number n bs) ≡ take n bs
bytes_back n bs h long =
    number_inj n (little_bytes n (little_number n bs)) (take n bs) (length-bytes_low_first 0 n (little_number n bs)) (length-take-le n bs long)
    (low_first_bytes 0 n (little_number n bs)) (bytes_take n bs h)
    (sym (ap (λ l. little_number n l) (append-nil (little_bytes n (little_number n bs)))) ∙ (little_number-reads_back n (little_number n bs) [] (number_small n bs h long) ∙ sym (little_from-take 0 n n bs (omega arith))))

one_back : (wave_width width shift : ℕ) (bs rest : List ℕ) → shift ≤ 8 * wave_width → 8 * wave_width ≤ 8 * width + shift → AreBytes bs → wave_width ≤ length bs → little_number wave_width bs % 2 ^ shift ≡ 0
    → raised_one width wave_width shift (little_bytes width (lowered_number wave_width width shift (little_number wave_width bs)) ++ rest) ≡ take wave_width bs
one_back wave_width width shift bs rest less more h long low =
    let n = little_number wave_width bs in
    let x = lowered_number wave_width width shift n in
    let few : n < 2 ^ (8 * wave_width) = subst (λ m. n < m) (pow_bytes wave_width) (number_small wave_width bs h long) in
    let small : x < 256 ^ width = subst (λ m. x < m) (sym (pow_bytes width)) (mod-lt (n / 2 ^ shift % 2 ^ (8 * width) + cond (nat_lt n (2 ^ (8 * wave_width - 1))) 0 (2 ^ (8 * width) - 2 ^ (8 * wave_width - shift))) (pow_pos (8 * width))) in
    ap (λ k. little_bytes wave_width (k * 2 ^ shift % 2 ^ (8 * wave_width))) (little_number-reads_back width x rest small)
    ∙ (ap (λ k. little_bytes wave_width k) (number_back wave_width width shift n less more few low) ∙ bytes_back wave_width bs h long)

pub samples_back : SamplesComeBack
samples_back wave_width width shift zero [] less more h long low = refl
samples_back wave_width width shift zero (b ∷ bs) less more h long low = absurd (omega (arith, long))
samples_back wave_width width shift (suc n) bs less more h long low =
    let first = and_parts (nat_eq (little_number wave_width bs % 2 ^ shift) 0) (are_low_zero wave_width shift n (drop wave_width bs)) low in
    let e : suc n * wave_width ≡ n * wave_width + wave_width = suc-mul n wave_width in
    let within : wave_width ≤ length bs = omega (arith, long, e) in
    let left : length (drop wave_width bs) ≡ n * wave_width = let d = length-drop wave_width bs in omega (arith, d, long, e) in
    let x = lowered_number wave_width width shift (little_number wave_width bs) in
    let rest = lowered wave_width width shift n (drop wave_width bs) in
    let after : drop width (little_bytes width x ++ rest) ≡ rest = ap (λ k. drop k (little_bytes width x ++ rest)) (sym (length-bytes_low_first 0 width x)) ∙ drop-append_seam (little_bytes width x) rest in
    ap (λ l. l ++ raised width wave_width shift n (drop width (little_bytes width x ++ rest))) (one_back wave_width width shift bs rest less more h within (eqb-true (little_number wave_width bs % 2 ^ shift) 0 first.0))
    ∙ (ap (λ l. take wave_width bs ++ raised width wave_width shift n l) after
    ∙ (ap (λ l. take wave_width bs ++ l) (samples_back wave_width width shift n (drop wave_width bs) less more (bytes_drop wave_width bs h) left first.1) ∙ take-append-drop wave_width bs))

-- ---- what the calls compute

take_first : (i k n x : ℕ) → n ≤ k → take n (bytes_low_first i k x) ≡ bytes_low_first i n x
take_first i k zero x le = refl
take_first i zero (suc n) x le = absurd (omega (arith, le))
take_first i (suc k) (suc n) x le = ap (λ l. byte_at i x ∷ l) (take_first (suc i) k n x (omega (arith, le)))

pub low_bytes_of : (width x : ℕ) → width ≤ 4 → take width (bytes_low_first 0 8 x) ≡ little_bytes width x
low_bytes_of width x few = take_first 0 8 width x (omega (arith, few))

-- a power of two that is shifted in 64 bits
pub ones_within : (a b : ℕ) → a ≤ b → b < 64 → 1 * 2 ^ a % 2 ^ 64 ≤ 1 * 2 ^ b % 2 ^ 64
ones_within a b le few = let h : 2 ^ a ≤ 2 ^ b = pow-le-pow_right (omega arith) le in rw (one_shl a 64 (omega (arith, le, few)), one_shl b 64 few) h

number_taken : (wave_width number : ℕ) (rest sample : List ℕ) → sample ≡ take wave_width rest → number ≡ little_number wave_width sample → number ≡ little_number wave_width rest
number_taken wave_width number rest sample part read = read ∙ (ap (λ l. little_number wave_width l) part ∙ little_from-take 0 wave_width wave_width rest (omega arith))

-- a sample has another bit
pub zero_found : (wave_width shift number : ℕ) (rest sample : List ℕ) (all : Bool) → 0 < wave_width → wave_width ≤ length rest → shift < 32 → sample ≡ take wave_width rest → number ≡ little_number wave_width sample
    → 0 < number % (1 * 2 ^ shift % 2 ^ 64) → are_low_zero wave_width shift (length rest / wave_width) rest ≡ all → false ≡ all
zero_found wave_width shift number rest sample all some within few part read more h =
    let n = number_taken wave_width number rest sample part read in
    let e : number % (1 * 2 ^ shift % 2 ^ 64) ≡ little_number wave_width rest % 2 ^ shift = ap (λ m. number % m) (one_shl shift 64 (omega (arith, few))) ∙ ap (λ k. k % 2 ^ shift) n in
    let no_zero : nat_eq (little_number wave_width rest % 2 ^ shift) 0 ≡ false = ne_eqb (little_number wave_width rest % 2 ^ shift) 0 (λ z. omega (arith, z, e, more)) in
    sym (zero_next wave_width shift rest some within ∙ ap (λ b. b && are_low_zero wave_width shift (length (drop wave_width rest) / wave_width) (drop wave_width rest)) no_zero) ∙ h

-- a sample has none
pub zero_passed : (wave_width shift number : ℕ) (rest more sample : List ℕ) (all : Bool) → 0 < wave_width → wave_width ≤ length rest → shift < 32 → sample ≡ take wave_width rest → number ≡ little_number wave_width sample
    → number % (1 * 2 ^ shift % 2 ^ 64) ≡ 0 → more ≡ drop wave_width rest → are_low_zero wave_width shift (length rest / wave_width) rest ≡ all → are_low_zero wave_width shift (length more / wave_width) more ≡ all
zero_passed wave_width shift number rest more sample all some within few part read none cut h =
    let n = number_taken wave_width number rest sample part read in
    let e : number % (1 * 2 ^ shift % 2 ^ 64) ≡ little_number wave_width rest % 2 ^ shift = ap (λ m. number % m) (one_shl shift 64 (omega (arith, few))) ∙ ap (λ k. k % 2 ^ shift) n in
    let zero_is : nat_eq (little_number wave_width rest % 2 ^ shift) 0 ≡ true = eq-eqb (little_number wave_width rest % 2 ^ shift) 0 (sym e ∙ none) in
    ap (λ l. are_low_zero wave_width shift (length l / wave_width) l) cut
    ∙ (sym (zero_next wave_width shift rest some within ∙ ap (λ b. b && are_low_zero wave_width shift (length (drop wave_width rest) / wave_width) (drop wave_width rest)) zero_is) ∙ h)

pub lowering_more : (wave_width width shift : ℕ) (all rest more sample low new bytes : List ℕ) (read number : ℕ) → Lowering wave_width width shift all rest low → 0 < length rest → width ≤ 4
    → sample ≡ take wave_width rest → read ≡ little_number wave_width sample → number ≡ lowered_number wave_width width shift read → more ≡ drop wave_width rest
    → bytes ≡ bytes_low_first 0 8 number → new ≡ low ++ take width bytes → Lowering wave_width width shift all more new
lowering_more wave_width width shift all rest more sample low new bytes read number s some few part is lowered_is cut eight put =
    lowering_next wave_width width shift all rest more low new number s some (lowered_is ∙ ap (λ k. lowered_number wave_width width shift k) (number_taken wave_width read rest sample part is)) cut
    (put ∙ (ap (λ l. low ++ take width l) eight ∙ ap (λ l. low ++ l) (low_bytes_of width number few)))

-- ---- piece by piece

-- samples that are raised in pieces
pub raised_append : (width wave_width shift n m : ℕ) (a b : List ℕ) → length a ≡ n * width → raised width wave_width shift (n + m) (a ++ b) ≡ raised width wave_width shift n a ++ raised width wave_width shift m b
raised_append width wave_width shift zero m [] b long = ap (λ k. raised width wave_width shift k b) (none_first m)
  where
    none_first : (m : ℕ) → 0 + m ≡ m
    none_first m = omega arith
raised_append width wave_width shift zero m (x ∷ a) b long = absurd (omega (arith, long))
raised_append width wave_width shift (suc n) m a b long =
    let e : suc n * width ≡ n * width + width = suc-mul n width in
    let within : width ≤ length a = omega (arith, long, e) in
    let left : length (drop width a) ≡ n * width = let d = length-drop width a in omega (arith, d, long, e) in
    ap (λ k. raised width wave_width shift k (a ++ b)) (next_first n m)
    ∙ (ap (λ k. little_bytes wave_width (k * 2 ^ shift % 2 ^ (8 * wave_width)) ++ raised width wave_width shift (n + m) (drop width (a ++ b))) (little_from-append width a b within)
    ∙ (ap (λ l. raised_one width wave_width shift a ++ raised width wave_width shift (n + m) l) (drop-append-le width a b within)
    ∙ (ap (λ l. raised_one width wave_width shift a ++ l) (raised_append width wave_width shift n m (drop width a) b left)
    ∙ sym (append_assoc (raised_one width wave_width shift a) (raised width wave_width shift n (drop width a)) (raised width wave_width shift m b)))))
  where
    next_first : (n m : ℕ) → suc n + m ≡ suc (n + m)
    next_first n m = omega arith

-- the samples of a file have as many bytes as are due
pub raised_long : (width wave_width shift n : ℕ) (a : List ℕ) → length (raised width wave_width shift n a) ≡ n * wave_width
raised_long width wave_width shift zero a = omega arith
raised_long width wave_width shift (suc n) a =
    let e : suc n * wave_width ≡ n * wave_width + wave_width = suc-mul n wave_width in
    let h = raised_long width wave_width shift n (drop width a) in
    length-append (raised_one width wave_width shift a) (raised width wave_width shift n (drop width a))
    ∙ (let f = length-bytes_low_first 0 wave_width (little_number width a * 2 ^ shift % 2 ^ (8 * wave_width)) in omega (arith, e, f, h))

-- and so have those of a stream
pub lowered_long : (wave_width width shift n : ℕ) (a : List ℕ) → length (lowered wave_width width shift n a) ≡ n * width
lowered_long wave_width width shift zero a = omega arith
lowered_long wave_width width shift (suc n) a =
    let e : suc n * width ≡ n * width + width = suc-mul n width in
    let x = lowered_number wave_width width shift (little_number wave_width a) in
    let h = lowered_long wave_width width shift n (drop wave_width a) in
    length-append (little_bytes width x) (lowered wave_width width shift n (drop wave_width a)) ∙ (let f = length-bytes_low_first 0 width x in omega (arith, e, f, h))

-- ---- how many bits a stream has

-- all bits of a sample's bytes, or fewer, below which all are zeros
pub record IsNarrow (f : WaveFormat) (samples : List ℕ) (depth : ℕ) : Type 0 where
  pub stated : is_stated_depth depth ≡ true
  pub few : depth < 8 * wave_width_of f
  pub zeros : are_low_zero (wave_width_of f) (8 * wave_width_of f - depth) (length samples / wave_width_of f) samples ≡ true

depth_by : (f : WaveFormat) (samples : List ℕ) (b : Bool) → (is_stated_depth f.valid && nat_lt f.valid (8 * wave_width_of f)) && are_low_zero (wave_width_of f) (8 * wave_width_of f - f.valid) (length samples / wave_width_of f) samples ≡ b
    → (cond b f.valid (8 * wave_width_of f) ≡ 8 * wave_width_of f) ⊎ IsNarrow f samples (cond b f.valid (8 * wave_width_of f))
depth_by f samples true is =
    let a = and_parts (is_stated_depth f.valid && nat_lt f.valid (8 * wave_width_of f)) _ is in
    let b = and_parts (is_stated_depth f.valid) _ a.0 in
    inr (record { stated = b.0; few = ltb-true f.valid (8 * wave_width_of f) b.1; zeros = a.1 })
depth_by f samples false is = inl refl

pub depth_cases : (f : WaveFormat) (samples : List ℕ) → (depth_in f samples ≡ 8 * wave_width_of f) ⊎ IsNarrow f samples (depth_in f samples)
depth_cases f samples = depth_by f samples _ refl

-- a depth that a frame header states is 8 at least
pub stated_some : (n : ℕ) → is_stated_depth n ≡ true → 8 ≤ n
stated_some n is = stated_by n _ _ _ _ _ _ refl refl refl refl refl refl is
  where
    stated_by : (n : ℕ) (a b c d e f : Bool) → nat_eq n 8 ≡ a → nat_eq n 12 ≡ b → nat_eq n 16 ≡ c → nat_eq n 20 ≡ d → nat_eq n 24 ≡ e → nat_eq n 32 ≡ f → a || (b || (c || (d || (e || f)))) ≡ true → 8 ≤ n
    stated_by n true b c d e f p q r s t u is = let h = eqb-true n 8 p in omega (arith, h)
    stated_by n false true c d e f p q r s t u is = let h = eqb-true n 12 q in omega (arith, h)
    stated_by n false false true d e f p q r s t u is = let h = eqb-true n 16 r in omega (arith, h)
    stated_by n false false false true e f p q r s t u is = let h = eqb-true n 20 s in omega (arith, h)
    stated_by n false false false false true f p q r s t u is = let h = eqb-true n 24 t in omega (arith, h)
    stated_by n false false false false false true p q r s t u is = let h = eqb-true n 32 u in omega (arith, h)
    stated_by n false false false false false false p q r s t u is = absurd cc

-- a depth that is known in any case is that of these samples
pub depth_known : (f : WaveFormat) (samples : List ℕ) (depth : ℕ) → known_depth f ≡ Some depth → depth_in f samples ≡ depth
depth_known f samples depth is = known_by (may_be_narrow f) (are_low_zero (wave_width_of f) (8 * wave_width_of f - f.valid) (length samples / wave_width_of f) samples) is
  where
    known_by : (b zeros : Bool) → cond b None (Some (8 * wave_width_of f)) ≡ Some depth → cond (b && zeros) f.valid (8 * wave_width_of f) ≡ depth
    known_by true zeros e = absurd cc
    known_by false zeros e = cc
