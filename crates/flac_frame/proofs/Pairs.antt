-- Two channels, as the codes keep them.
use Rattle.std.proofs.Common.{◌≡◌, ◌∙◌, refl, sym, ap, subst, ℕ, ◌+◌, ◌-◌, ◌*◌, ◌≤◌, ◌<◌, ◌^◌, arith, ℤ, pos, ◌+ℤ◌, ◌-ℤ◌, List, [], ◌∷◌, length, take, set, All}
use Rattle.std.specs.Int.{int_shr}
use Rattle.std.proofs.lemmas.Int.{ints}
use Rattle.std.proofs.lemmas.Nat.{pow-add}
use Rattle.std.proofs.lemmas.List.{take_all, length-set, get_or_default}
use Rattle.std.proofs.lemmas.Simd.{length-zip2}
use Rattle.flac_bits.specs.Signed.{FitsBits}
use Rattle.flac_frame.specs.Stereo.{sample_at, joined, side_of, middle_of}
use Rattle.flac_frame.proofs.Encoded.{widen_more}
use Rattle.flac_frame.proofs.Joins.{half_low, half_high, zip_at, channels_joined}

-- ---- one pair of samples

double : (depth : ℕ) → 1 ≤ depth → 2 ^ (depth + 1 - 1) ≡ 2 ^ (depth - 1) * 2
double depth deep = let e : depth + 1 - 1 ≡ depth - 1 + 1 = omega (arith, deep) in ap (λ n. 2 ^ n) e ∙ pow-add 2 (depth - 1) 1

side_fits_one : (depth : ℕ) (l r : ℤ) → 1 ≤ depth → FitsBits depth l → FitsBits depth r → FitsBits (depth + 1) (l -ℤ r)
side_fits_one depth l r deep f g = record {
  low = omega (arith, ints, f.low, g.high, double depth deep);
  high = omega (arith, ints, f.high, g.low, double depth deep);
}

middle_fits_one : (depth : ℕ) (l r : ℤ) → FitsBits depth l → FitsBits depth r → FitsBits depth (int_shr (l +ℤ r) 1)
middle_fits_one depth l r f g = record {
  low = omega (arith, ints, f.low, g.low, half_low (l +ℤ r), half_high (l +ℤ r));
  high = omega (arith, ints, f.high, g.high, half_low (l +ℤ r), half_high (l +ℤ r));
}

-- ---- two channels

module _ (left right : List ℤ) (long : length right ≡ length left) where
  pub side_long : length (side_of left right) ≡ length left
  side_long = length-zip2 (λ l r. l -ℤ r) left right (sym long)

  pub middle_long : length (middle_of left right) ≡ length left
  middle_long = length-zip2 (λ l r. int_shr (l +ℤ r) 1) left right (sym long)

  pub side_at : (i : ℕ) → i < length left → sample_at (side_of left right) i ≡ sample_at left i -ℤ sample_at right i
  side_at i h = zip_at (λ l r. l -ℤ r) left right i long h

  pub middle_at : (i : ℕ) → i < length left → sample_at (middle_of left right) i ≡ int_shr (sample_at left i +ℤ sample_at right i) 1
  middle_at i h = zip_at (λ l r. int_shr (l +ℤ r) 1) left right i long h

  pub side_fits : (depth : ℕ) → 1 ≤ depth → All (FitsBits depth) left → All (FitsBits depth) right → All (FitsBits (depth + 1)) (side_of left right)
  side_fits depth deep f g = λ i d h.
      let lt : i < length left = omega (arith, side_long, h) in
      let one = side_fits_one depth (sample_at left i) (sample_at right i) deep (f i (pos 0) lt) (g i (pos 0) (omega (arith, lt, long))) in
      subst (FitsBits (depth + 1)) (sym (side_at i lt) ∙ get_or_default (side_of left right) i (pos 0) d h) one

  pub middle_fits : (depth : ℕ) → All (FitsBits depth) left → All (FitsBits depth) right → All (FitsBits depth) (middle_of left right)
  middle_fits depth f g = λ i d h.
      let lt : i < length left = omega (arith, middle_long, h) in
      let one = middle_fits_one depth (sample_at left i) (sample_at right i) (f i (pos 0) lt) (g i (pos 0) (omega (arith, lt, long))) in
      subst (FitsBits depth) (sym (middle_at i lt) ∙ get_or_default (middle_of left right) i (pos 0) d h) one

  -- joining gives the channels back
  pub left_side : joined 8 (left ∷ side_of left right ∷ []) ≡ left ∷ right ∷ []
  left_side = (channels_joined 8 left (side_of left right) left right (omega arith) (omega arith) side_long).0 (record {
    left_long = refl;
    right_long = long;
    each = λ i h. record { left_side = λ e. (refl, side_at i h); side_right = λ e. absurd (omega (arith, e)); middle_side = λ e. absurd (omega (arith, e)) };
  })

  pub side_right : joined 9 (side_of left right ∷ right ∷ []) ≡ left ∷ right ∷ []
  side_right = (channels_joined 9 (side_of left right) right left right (omega arith) (omega arith) (long ∙ sym side_long)).0 (record {
    left_long = sym side_long;
    right_long = long ∙ sym side_long;
    each = λ i h. let lt : i < length left = omega (arith, side_long, h) in record { left_side = λ e. absurd (omega (arith, e)); side_right = λ e. (side_at i lt, refl); middle_side = λ e. absurd (omega (arith, e)) };
  })

  pub middle_side : joined 10 (middle_of left right ∷ side_of left right ∷ []) ≡ left ∷ right ∷ []
  middle_side = (channels_joined 10 (middle_of left right) (side_of left right) left right (omega arith) (omega arith) (side_long ∙ sym middle_long)).0 (record {
    left_long = sym middle_long;
    right_long = long ∙ sym middle_long;
    each = λ i h. let lt : i < length left = omega (arith, middle_long, h) in record { left_side = λ e. absurd (omega (arith, e)); side_right = λ e. absurd (omega (arith, e)); middle_side = λ e. (middle_at i lt, side_at i lt) };
  })

-- ---- side and middle in places

-- the first i are there
pub record SplitTo (left right side middle : List ℤ) (i : ℕ) : Type 0 where
  pub side_long : length side ≡ length left
  pub middle_long : length middle ≡ length left
  pub side_is : take i side ≡ take i (side_of left right)
  pub middle_is : take i middle ≡ take i (middle_of left right)

pub split_none : (left right side middle : List ℤ) → length side ≡ length left → length middle ≡ length left → SplitTo left right side middle 0
split_none left right side middle s m = record { side_long = s; middle_long = m; side_is = refl; middle_is = refl }

pub split_more : (left right side middle : List ℤ) (i : ℕ) (u v : ℤ) → length right ≡ length left → i < length left → SplitTo left right side middle i → u ≡ sample_at left i -ℤ sample_at right i → v ≡ int_shr (sample_at left i +ℤ sample_at right i) 1
    → SplitTo left right (set side i u) (set middle i v) (i + 1)
split_more left right side middle i u v long within so u_is v_is =
    let s = side_long left right long in
    let m = middle_long left right long in
    record {
      side_long = length-set side i u ∙ so.side_long;
      middle_long = length-set middle i v ∙ so.middle_long;
      side_is = widen_more (side_of left right) side i u (omega (arith, s, within)) (so.side_long ∙ sym s) (u_is ∙ sym (side_at left right long i within)) so.side_is;
      middle_is = widen_more (middle_of left right) middle i v (omega (arith, m, within)) (so.middle_long ∙ sym m) (v_is ∙ sym (middle_at left right long i within)) so.middle_is;
    }

taken : (i : ℕ) (xs ys : List ℤ) → length xs ≤ i → length ys ≤ i → take i xs ≡ take i ys → xs ≡ ys
taken i xs ys h k e = sym (take_all i xs h) ∙ e ∙ take_all i ys k

pub side_all : (left right side middle : List ℤ) (i : ℕ) → length right ≡ length left → length left ≤ i → SplitTo left right side middle i → side ≡ side_of left right
side_all left right side middle i long over so = taken i side (side_of left right) (omega (arith, so.side_long, over)) (omega (arith, side_long left right long, over)) so.side_is

pub middle_all : (left right side middle : List ℤ) (i : ℕ) → length right ≡ length left → length left ≤ i → SplitTo left right side middle i → middle ≡ middle_of left right
middle_all left right side middle i long over so = taken i middle (middle_of left right) (omega (arith, so.middle_long, over)) (omega (arith, middle_long left right long, over)) so.middle_is

-- ---- the side alone

pub side_more : (left right side : List ℤ) (i : ℕ) (u : ℤ) → length right ≡ length left → length side ≡ length left → i < length left → take i side ≡ take i (side_of left right) → u ≡ sample_at left i -ℤ sample_at right i
    → take (i + 1) (set side i u) ≡ take (i + 1) (side_of left right)
side_more left right side i u long places within so is =
    let s = side_long left right long in
    widen_more (side_of left right) side i u (omega (arith, s, within)) (places ∙ sym s) (is ∙ sym (side_at left right long i within)) so

pub side_done : (left right side : List ℤ) (i : ℕ) → length right ≡ length left → length side ≡ length left → length left ≤ i → take i side ≡ take i (side_of left right) → side ≡ side_of left right
side_done left right side i long places over so = taken i side (side_of left right) (omega (arith, places, over)) (omega (arith, side_long left right long, over)) so

-- what is read is what stands there
pub less_read : (x l r u v : ℤ) → u ≡ l → v ≡ r → x ≡ u -ℤ v → x ≡ l -ℤ r
less_read x l r u v a b e = e ∙ ap (λ k. k -ℤ v) a ∙ ap (λ k. l -ℤ k) b

pub half_read : (x l r u v : ℤ) → u ≡ l → v ≡ r → x ≡ int_shr (u +ℤ v) 1 → x ≡ int_shr (l +ℤ r) 1
half_read x l r u v a b e = e ∙ ap (λ k. int_shr (k +ℤ v) 1) a ∙ ap (λ k. int_shr (l +ℤ k) 1) b
