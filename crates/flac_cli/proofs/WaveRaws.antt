-- Samples of a WAV file that are lowered piece by piece.
use Rattle.std.proofs.Common.{◌≡◌, ◌≤◌, ◌<◌, ◌+◌, ◌-◌, ◌*◌, ◌/◌, ◌%◌, ◌^◌, ◌++◌, ◌∷◌, [], ℕ, zero, suc, List, length, take, drop, refl, sym, ap, ◌∙◌, append_assoc, subst, arith, length-append, ◌⊎◌, inl, inr}
use Rattle.std.proofs.lemmas.List.{append-nil, length-take, length-take-le, length-drop, drop-append-le, drop-drop, take-append-le, take_at, drop_at, take_all, take-append-drop}
use Rattle.std.proofs.lemmas.Bool.{cases_lt}
use Rattle.std.proofs.lemmas.Nat.{div-add-mod'}
use Rattle.std.proofs.Math.Nat.{suc-mul, mul-pos, add-mul, mul-div_cancel, mul-le-mul_right, mul-le-mul_left, div-mul-le_self, mod-lt, div-eq_of_lt, mul-add-div_right, mul-mod_left, pow-suc}
use Rattle.std.proofs.lemmas.Nat.{pow_pos, pow-add}
use Rattle.std.proofs.Math.Seq.{take-append_seam, drop-append_seam, take-add}
use Rattle.byteorder.specs.Endian.{little_bytes, little_number}
use Rattle.byteorder.specs.Numbers.{length-bytes_low_first, little_from-append}
use borrow.Rule.Slice.PartMut.{put_mid, mid_of}
use Rattle.flac_bits.proofs.Copied.{put_taken}
use Rattle.flac_wave.specs.Shift.{lowered, lowered_number, lowered_all}
use Rattle.flac_wave.proofs.Shifts.{lowered_long}
use Rattle.flac_cli.specs.inner.WaveRaw.{Lowers, low_of, held_in}
use Rattle.flac_cli.specs.declared.wave_raw.Lowering.{Lowering}

-- one sample more
pub lowered_next : (wide width shift i : ℕ) (bytes : List ℕ)
    → lowered wide width shift (suc i) bytes ≡ lowered wide width shift i bytes ++ little_bytes width (lowered_number wide width shift (little_number wide (drop (i * wide) bytes)))
lowered_next wide width shift zero bytes =
    let none : zero * wide ≡ 0 = omega arith in
    append-nil (little_bytes width (lowered_number wide width shift (little_number wide bytes)))
    ∙ ap (λ k. little_bytes width (lowered_number wide width shift (little_number wide (drop k bytes)))) (sym none)
lowered_next wide width shift (suc i) bytes =
    let x = little_bytes width (lowered_number wide width shift (little_number wide bytes)) in
    let y = little_bytes width (lowered_number wide width shift (little_number wide (drop (i * wide) (drop wide bytes)))) in
    let next : suc i * wide ≡ wide + i * wide = omega arith in
    let there : drop (i * wide) (drop wide bytes) ≡ drop (suc i * wide) bytes = drop-drop (i * wide) wide bytes ∙ ap (λ k. drop k bytes) (sym next) in
    ap (λ l. x ++ l) (lowered_next wide width shift i (drop wide bytes))
    ∙ (sym (append_assoc x (lowered wide width shift i (drop wide bytes)) y)
    ∙ ap (λ l. (x ++ lowered wide width shift i (drop wide bytes)) ++ little_bytes width (lowered_number wide width shift (little_number wide l))) there)

-- samples in two parts
pub lowered_append : (wide width shift n m : ℕ) (a b : List ℕ) → length a ≡ n * wide → lowered wide width shift (n + m) (a ++ b) ≡ lowered wide width shift n a ++ lowered wide width shift m b
lowered_append wide width shift zero m [] b long = ap (λ k. lowered wide width shift k b) (none_first m)
  where
    none_first : (m : ℕ) → 0 + m ≡ m
    none_first m = omega arith
lowered_append wide width shift zero m (x ∷ a) b long = absurd (omega (arith, long))
lowered_append wide width shift (suc n) m a b long =
    let e : suc n * wide ≡ n * wide + wide = suc-mul n wide in
    let within : wide ≤ length a = omega (arith, long, e) in
    let left : length (drop wide a) ≡ n * wide = let d = length-drop wide a in omega (arith, d, long, e) in
    let one = little_bytes width (lowered_number wide width shift (little_number wide a)) in
    ap (λ k. lowered wide width shift k (a ++ b)) (next_first n m)
    ∙ (ap (λ k. little_bytes width (lowered_number wide width shift k) ++ lowered wide width shift (n + m) (drop wide (a ++ b))) (little_from-append wide a b within)
    ∙ (ap (λ l. one ++ lowered wide width shift (n + m) l) (drop-append-le wide a b within)
    ∙ (ap (λ l. one ++ l) (lowered_append wide width shift n m (drop wide a) b left)
    ∙ sym (append_assoc one (lowered wide width shift n (drop wide a)) (lowered wide width shift m b)))))
  where
    next_first : (n m : ℕ) → suc n + m ≡ suc (n + m)
    next_first n m = omega arith

-- the number of a sample of the stream has room in its bytes
pub low_fits : (l : Lowering) (n x : ℕ) → x ≡ lowered_number l.wide l.width l.shift n → x < 256 ^ l.width
low_fits l n x is = subst (λ m. x < m) (sym (pow_bytes l.width)) (subst (λ y. y < 2 ^ (8 * l.width)) (sym is) (small_by _ l.width))
  where
    pow_bytes : (n : ℕ) → 256 ^ n ≡ 2 ^ (8 * n)
    pow_bytes zero = refl
    pow_bytes (suc n) =
        let e : 8 * suc n ≡ 8 * n + 8 = omega arith in
        pow-suc 256 n ∙ (ap (λ x. x * 256) (pow_bytes n) ∙ (sym (pow-add 2 (8 * n) 8) ∙ ap (λ k. 2 ^ k) (sym e)))

    small_by : (y width : ℕ) → y % 2 ^ (8 * width) < 2 ^ (8 * width)
    small_by y width = mod-lt y {m = 2 ^ (8 * width)} (pow_pos (8 * width))

-- ---- of a slice, sample by sample

pub rest_all : (k : ℕ) (xs : List ℕ) → take (length xs - k) (drop k xs) ≡ drop k xs
rest_all k xs = let d = length-drop k xs in take_all (length xs - k) (drop k xs) (omega (arith, d))

-- a sample that is read, and one that is written, have room
pub sample_within : (wide i count n : ℕ) → i < count → count * wide ≤ n → i * wide + wide ≤ n
sample_within wide i count n lt all =
    let next : suc i * wide ≡ i * wide + wide = suc-mul i wide in
    let below : suc i * wide ≤ count * wide = mul-le-mul_right {m = suc i} {n = count} wide lt in
    omega (arith, next, below, all)

pub all_within : (wide width n : ℕ) → width ≤ wide → n / wide * width ≤ n
all_within wide width n thin =
    let a : n / wide * width ≤ n / wide * wide = mul-le-mul_left (n / wide) thin in
    let b = div-mul-le_self n wide in
    omega (arith, a, b)

-- what was written of i samples, and one more
pub low_put : (wide width shift i : ℕ) (samples out buf : List ℕ) (x read : ℕ) → i * width + width ≤ length out → take (i * width) out ≡ lowered wide width shift i samples
    → x ≡ lowered_number wide width shift read → read ≡ little_number wide (drop (i * wide) samples)
    → buf ≡ little_bytes width x ++ drop width (mid_of (i * width) (length out - i * width) out)
    → take (suc i * width) (put_mid (i * width) (length out - i * width) out buf) ≡ lowered wide width shift (suc i) samples
low_put wide width shift i samples out buf x read room done is number put =
    let at = i * width in
    let next : suc i * width ≡ at + width = suc-mul i width in
    let bytes : length (little_bytes width x) ≡ width = length-bytes_low_first 0 width x in
    let mid : length (mid_of at (length out - at) out) ≡ length out - at = mid_long at out in
    let long : length buf ≡ length out - at =
    ap length put ∙ (length-append (little_bytes width x) (drop width (mid_of at (length out - at) out)) ∙ (let d = length-drop width (mid_of at (length out - at) out) in omega (arith, bytes, d, mid, room))) in
    let front : take width buf ≡ little_bytes width x =
    ap (λ l. take width l) put ∙ (ap (λ w. take w (little_bytes width x ++ drop width (mid_of at (length out - at) out))) (sym bytes) ∙ take-append_seam (little_bytes width x) _) in
    ap (λ n. take n (put_mid at (length out - at) out buf)) next
    ∙ (put_taken at (length out - at) width out buf (omega (arith, room)) (omega (arith, long, room))
    ∙ (ap (λ l. take at out ++ l) front ∙ (ap (λ l. l ++ little_bytes width x) done
    ∙ (ap (λ y. lowered wide width shift i samples ++ little_bytes width y) (is ∙ ap (lowered_number wide width shift) number)
    ∙ sym (lowered_next wide width shift i samples)))))
  where
    mid_long : (a : ℕ) (xs : List ℕ) → length (mid_of a (length xs - a) xs) ≡ length xs - a
    mid_long a xs = let t = length-take (length xs - a) (drop a xs) in let d = length-drop a xs in omega (arith, t, d)

-- ---- of a source, piece by piece

-- no whole sample is there
pub low_none : (l : Lowering) (bytes : List ℕ) → length bytes < l.wide → low_of l bytes ≡ []
low_none l bytes few = ap (λ n. lowered l.wide l.width l.shift n bytes) (div-eq_of_lt few)

-- n bytes were read, and lowered
pub low_next : (l : Lowering) (n size k : ℕ) (all front later low : List ℕ) → Lowers l → all ≡ front ++ later → length front ≡ n → n ≤ size → size ≡ k * l.wide → (n < size → later ≡ [])
    → low ≡ low_of l front → low_of l all ≡ low ++ low_of l later
low_next l n size k all front later low lowers is long few whole ends made = elim (cases_lt n size) [
  | inl fewer ↦
      let none = ends fewer in
      ap (low_of l) (is ∙ ap (λ r. front ++ r) none ∙ append-nil front) ∙ (sym made ∙ (sym (append-nil low) ∙ ap (λ r. low ++ r) (sym (ap (low_of l) none ∙ low_none l [] lowers.some))))
  | inr over ↦
      let m = length later / l.wide in
      let full : length front ≡ k * l.wide = omega (arith, over, few, long, whole) in
      let some = lowers.some in
      let count : length front / l.wide ≡ k = ap (λ x. x / l.wide) full ∙ mul-div_cancel k some in
      let both : length all / l.wide ≡ k + m = ap (λ x. x / l.wide) (ap length is ∙ length-append front later ∙ ap (λ x. x + length later) full) ∙ mul-add-div_right some k (length later) in
      ap (λ x. lowered l.wide l.width l.shift x all) both
      ∙ (ap (λ x. lowered l.wide l.width l.shift (k + m) x) is
      ∙ (lowered_append l.wide l.width l.shift k m front later full
      ∙ ap (λ r. r ++ low_of l later) (ap (λ x. lowered l.wide l.width l.shift x front) (sym count) ∙ sym made)))
]

-- none was written: no whole sample came
pub low_end : (l : Lowering) (n size : ℕ) (front later all low : List ℕ) → Lowers l → all ≡ front ++ later → length front ≡ n → l.wide ≤ size → (n < size → later ≡ []) → low ≡ low_of l front → length low ≡ 0 → low_of l all ≡ []
low_end l n size front later all low lowers is long room ends made none = elim (cases_lt (length front) l.wide) [
  | inl fewer ↦ ap (low_of l) (is ∙ ap (λ r. front ++ r) (ends (omega (arith, fewer, long, room))) ∙ append-nil front) ∙ low_none l front fewer
  | inr over ↦
      let q : 0 < length front / l.wide = div_pos (length front) l.wide over lowers.some in
      let k : length (low_of l front) ≡ length front / l.wide * l.width = lowered_long l.wide l.width l.shift (length front / l.wide) front in
      let p : 0 < length front / l.wide * l.width = mul-pos q lowers.thin in
      let e : length (low_of l front) ≡ 0 = ap length (sym made) ∙ none in
      absurd (omega (arith, k, p, e))
]
  where
    div_pos : (n w : ℕ) → w ≤ n → 0 < w → 0 < n / w
    div_pos n w le some = let d = div-add-mod' n w in let r = mod-lt n {m = w} some in by_zero (n / w) d r le
      where
        by_zero : (q : ℕ) → q * w + n % w ≡ n → n % w < w → w ≤ n → 0 < q
        by_zero zero d r le = absurd (omega (arith, d, r, le))
        by_zero (suc q) d r le = omega arith

pub no_bytes : (n : ℕ) (bytes : List ℕ) → n ≡ 0 → length (take n bytes) ≡ 0
no_bytes n bytes none = let t = length-take n bytes in omega (arith, t, none)

-- a piece has a sample at least
pub piece_some : (l : Lowering) → Lowers l → l.wide ≤ 16384 / l.wide * l.wide
piece_some l lowers =
    let some = lowers.some in
    let few = lowers.few in
    let d = div-add-mod' 16384 l.wide in
    let r = mod-lt 16384 {m = l.wide} some in
    omega (arith, d, r, few)

-- ---- what is held

-- all was given out
pub held_none : (from to : ℕ) (bytes : List ℕ) → to ≤ from → held_in from to bytes ≡ []
held_none from to bytes le = let t = length-take to bytes in drop_past from (take to bytes) (omega (arith, t, le))
  where
    drop_past : (n : ℕ) (xs : List ℕ) → length xs ≤ n → drop n xs ≡ []
    drop_past n xs few = let d = length-drop n xs in none_of (drop n xs) (omega (arith, d, few))
      where
        none_of : (xs : List ℕ) → length xs ≡ 0 → xs ≡ []
        none_of [] h = refl
        none_of (x ∷ xs) h = absurd (omega (arith, h))

-- n bytes were given out
pub held_next : (n from to : ℕ) (bytes given all rest : List ℕ) → all ≡ held_in from to bytes ++ rest → given ≡ take n (held_in from to bytes) → all ≡ given ++ (held_in (from + n) to bytes ++ rest)
held_next n from to bytes given all rest is same =
    let held = held_in from to bytes in
    let more : drop n held ≡ held_in (from + n) to bytes = drop-drop n from (take to bytes) in
    is ∙ (ap (λ l. l ++ rest) (sym (take-append-drop n held)) ∙ (ap (λ l. (take n held ++ l) ++ rest) more
    ∙ (append_assoc (take n held) (held_in (from + n) to bytes) rest ∙ ap (λ l. l ++ (held_in (from + n) to bytes ++ rest)) (sym same))))
