-- The samples of a WAV file as raw samples: what a pass over them would find.
use Rattle.std.proofs.Common.{◌≡◌, ◌≤◌, ◌<◌, ◌+◌, ◌-◌, ◌*◌, ◌/◌, ◌%◌, ◌^◌, ◌&&◌, ℕ, zero, suc, ℤ, pos, negsuc, Bool, true, false, cond, List, [], ◌∷◌, ◌++◌, length, take, drop, map, get_or, min, refl, ap, sym, ◌∙◌, subst, ◌⊎◌, inl, inr, arith}
use Rattle.std.specs.Prelude.{nat_lt, nat_eq}
use Rattle.std.specs.Int.{int_shr}
use Rattle.std.specs.List.{list_all}
use Rattle.std.proofs.lemmas.Int.{ints}
use Rattle.std.proofs.lemmas.Bool.{lt-ltb, eq-eqb, ne_eqb}
use Rattle.std.proofs.lemmas.List.{append-nil, length-drop, length-take-le}
use Rattle.std.proofs.lemmas.List.Folds.{list_all-append}
use Rattle.std.proofs.lemmas.Nat.{div-add-mod', pow-add, xor_lt}
use Rattle.std.proofs.Math.Nat.{add-mul, mul_assoc, mul-le-mul_right}
use Rattle.flac_bits.specs.Signed.{FitsBits}
use Rattle.flac_subframe.specs.format.Numbers.{fits}
use Rattle.flac_frame.specs.Audio.{each_small}
use Rattle.flac_native.specs.Message.{sample_width, sample_bytes}
use Rattle.flac_wave.specs.Format.{IsInRange, row_of}
use Rattle.flac_wave.specs.Shift.{lowered, AreBytes, wave_width_of, depth_in}
use Rattle.flac_wave.specs.declared.format.WaveFormat.{WaveFormat}
use Rattle.flac_wave.proofs.Shifts.{IsNarrow, depth_cases, stated_some}
use Rattle.flac_raw.specs.Raw.{number_of, samples_at, channels_at}
use Rattle.flac_raw.specs.Reading.{IsChannel}
use Rattle.flac_raw.specs.inner.Progress.{ReadTo}
use Rattle.flac_raw.specs.inner.Surveyed.{IsSurvey}
use Rattle.flac_raw.proofs.Rows.{no_samples, sample_more}
use Rattle.flac_raw.proofs.Pieces.{channels_many, channel_is}
use Rattle.flac_raw.proofs.Surveying.{survey_all}
use Rattle.flac_raw.proofs.TwosComplement.{twos_bytes, twos_fit}
use Rattle.flac_cli.specs.Waves.{turned, wave_samples, stream_samples}
use Rattle.flac_cli.proofs.HeldWaves.{small_at, small_drop, low_has, number_at, taken_at, same_wide, whole_count}
use Rattle.flac_cli.proofs.Shifted.{quotient_small}
use Rattle.flac_cli.proofs.TakenWaves.{small_front, small_both, low_small, wave_long, width_of_all, some_width, narrow_width, depth_fits}

-- ---- numbers that fit

number_fits : (bits : ℕ) (z : ℤ) → FitsBits bits z → fits bits z ≡ true
number_fits bits (pos a) f = let high = f.high in lt-ltb a (2 ^ (bits - 1)) (omega (arith, ints, high))
number_fits bits (negsuc a) f = let low = f.low in lt-ltb a (2 ^ (bits - 1)) (omega (arith, ints, low))

-- a number that is shifted down has fewer bits
shifted_fits : (all depth : ℕ) (z : ℤ) → 0 < depth → depth ≤ all → FitsBits all z → fits depth (int_shr z (all - depth)) ≡ true
shifted_fits all depth z some few f = by_sign z f
  where
    half : 2 ^ (depth - 1) * 2 ^ (all - depth) ≡ 2 ^ (all - 1)
    half = sym (pow-add 2 (depth - 1) (all - depth)) ∙ ap (λ e. 2 ^ e) (omega (arith, some, few))

    below : (a : ℕ) → a < 2 ^ (all - 1) → nat_lt (a / 2 ^ (all - depth)) (2 ^ (depth - 1)) ≡ true
    below a lt = lt-ltb (a / 2 ^ (all - depth)) (2 ^ (depth - 1)) (quotient_small a (all - depth) (2 ^ (depth - 1)) (subst (λ m. a < m) (sym half) lt))

    by_sign : (z : ℤ) → FitsBits all z → fits depth (int_shr z (all - depth)) ≡ true
    by_sign (pos a) f = let high = f.high in below a (omega (arith, ints, high))
    by_sign (negsuc a) f = let low = f.low in below a (omega (arith, ints, low))

-- ---- samples that bytes are

in_row : (c count width : ℕ) → c < count → c * width + width ≤ count * width
in_row c count width lt = let h = mul-le-mul_right {m = c + 1} {n = count} width (omega (arith, lt)) in omega (arith, h)

-- the sample of this number, among those of all channels
place_of : (w count i c : ℕ) → i * (count * w) + c * w ≡ (i * count + c) * w
place_of w count i c = let e = mul_assoc i count w in let f = add-mul (i * count) c w in omega (arith, e, f)

below_all : (rows count i c : ℕ) → i < rows → c < count → i * count + c < rows * count
below_all rows count i c lt below =
    let next : suc i * count ≡ i * count + count = omega arith in
    let within : suc i * count ≤ rows * count = mul-le-mul_right {m = suc i} {n = rows} count lt in
    omega (arith, next, within, below)

-- the numbers of whole inter-channel samples
module _ (bytes : List ℕ) (rows count width : ℕ) (small : AreBytes bytes) (long : length bytes ≡ rows * (count * width)) (some : 0 < width) (few : width ≤ 4) where
  abbrev one_at : ℕ → List ℕ
  one_at k = take width (drop (k * width) bytes)

  one_long : (k : ℕ) → k < rows * count → length (one_at k) ≡ width
  one_long k lt =
      let within : k * width + width ≤ rows * count * width = in_row k (rows * count) width lt in
      let all : length bytes ≡ rows * count * width = long ∙ whole_count rows count width in
      length-take-le width (drop (k * width) bytes) (let d = length-drop (k * width) bytes in omega (arith, d, within, all))

  one_small : (k i : ℕ) → get_or (one_at k) i 0 < 256
  one_small k = small_at (one_at k) (small_front width (drop (k * width) bytes) (small_drop (k * width) bytes small))

  pub one_fits : (k : ℕ) → k < rows * count → FitsBits (8 * width) (number_of (one_at k))
  one_fits k lt =
      let e = one_long k lt in
      subst (λ w. FitsBits (8 * w) (number_of (one_at k))) e (twos_fit (one_at k) (omega (arith, e, some)) (omega (arith, e, few)) (one_small k))

  one_spelled : (k : ℕ) → k < rows * count → sample_bytes width (number_of (one_at k)) ≡ one_at k
  one_spelled k lt = let e = one_long k lt in subst (λ w. sample_bytes w (number_of (one_at k)) ≡ one_at k) e (twos_bytes (one_at k) (omega (arith, e, few)) (one_small k))

  channel_plain : (c n : ℕ) → c < count → n ≤ rows → IsChannel bytes n (count * width) (c * width) width (samples_at bytes (count * width) (c * width) width n)
  unfolding samples_at
  channel_plain c zero below within = no_samples bytes (count * width) (c * width) width
  channel_plain c (suc n) below within =
      let lt : n * count + c < rows * count = below_all rows count n c (omega (arith, within)) below in
      let p = place_of width count n c in
      let here = take width (drop (n * (count * width) + c * width) bytes) in
      let same : here ≡ one_at (n * count + c) = ap (λ k. take width (drop k bytes)) p in
      let spelled : sample_bytes width (number_of here) ≡ here = subst (λ l. sample_bytes width (number_of l) ≡ l) (sym same) (one_spelled (n * count + c) lt) in
      let fit : FitsBits (8 * width) (number_of here) = subst (λ l. FitsBits (8 * width) (number_of l)) (sym same) (one_fits (n * count + c) lt) in
      let more = sample_more bytes n (count * width) (c * width) width (samples_at bytes (count * width) (c * width) width n) (number_of here) (channel_plain c n below (omega (arith, within))) refl spelled fit in
      let e : n + 1 ≡ suc n = omega arith in
      subst (λ j. IsChannel bytes j (count * width) (c * width) width (samples_at bytes (count * width) (c * width) width n ++ number_of here ∷ [])) e more

  module _ (bits : ℕ) (fit : (k : ℕ) → k < rows * count → fits bits (number_of (one_at k)) ≡ true) where
    samples_fit : (c n : ℕ) → c < count → n ≤ rows → list_all (fits bits) (samples_at bytes (count * width) (c * width) width n) ≡ true
    unfolding samples_at
    samples_fit c zero below within = refl
    samples_fit c (suc n) below within =
        let here = take width (drop (n * (count * width) + c * width) bytes) in
        let one : fits bits (number_of here) ≡ true =
        ap (λ k. fits bits (number_of (take width (drop k bytes)))) (place_of width count n c) ∙ fit (n * count + c) (below_all rows count n c (omega (arith, within)) below) in
        list_all-append (fits bits) (samples_at bytes (count * width) (c * width) width n) (number_of here ∷ [])
        ∙ (ap (λ b. b && (fits bits (number_of here) && true)) (samples_fit c n below (omega (arith, within))) ∙ ap (λ b. b && true) one)

    channels_fit : (n : ℕ) → n ≤ count → each_small bits (channels_at bytes rows (count * width) width n) ≡ true
    unfolding channels_at
    channels_fit zero within = refl
    channels_fit (suc n) within =
        let last = samples_at bytes (count * width) (n * width) width rows in
        list_all-append (λ c. list_all (fits bits) c) (channels_at bytes rows (count * width) width n) (last ∷ [])
        ∙ (ap (λ b. b && (list_all (fits bits) last && true)) (channels_fit n (omega (arith, within))) ∙ ap (λ b. b && true) (samples_fit n rows (omega (arith, within)) (omega arith)))

    -- a pass that has read them all
    read_plain : ReadTo bits count width bytes [] rows true
    read_plain = record {
      done = bytes;
      whole = long;
      are = record {
        many = channels_many bytes rows (count * width) width count;
        each = λ c lt. subst (λ l. IsChannel bytes rows (count * width) (c * width) width l) (sym (channel_is bytes rows (count * width) width count c lt)) (channel_plain c rows lt (omega arith));
      };
      fit = sym (channels_fit count (omega arith));
      rest = sym (append-nil bytes);
    }

    pub survey_plain : 0 < count → (total : ℕ) → total ≡ min rows (2 ^ 64 - 1) → IsSurvey bits count width bytes total true
    survey_plain many total is = survey_all bits count width bytes [] total true (record { rows = rows; so = read_plain; many = is }) refl many some

-- ---- those of a file

turned_small : (bytes : List ℕ) → AreBytes bytes → AreBytes (map turned bytes)
turned_small [] small = tt
turned_small (b ∷ bs) small = (xor_lt 8 b 128 small.0 (omega arith), turned_small bs small.1)

wave_small : (depth : ℕ) (bytes : List ℕ) → AreBytes bytes → AreBytes (wave_samples depth bytes)
wave_small depth bytes small = by_test (nat_lt depth 9)
  where
    by_test : (b : Bool) → AreBytes (cond b (map turned bytes) bytes)
    by_test true = turned_small bytes small
    by_test false = small

lowered_small : (wide width shift n : ℕ) (bytes : List ℕ) → AreBytes (lowered wide width shift n bytes)
lowered_small wide width shift zero bytes = tt
lowered_small wide width shift (suc n) bytes = small_both _ (lowered wide width shift n (drop wide bytes)) (low_small 0 width _) (lowered_small wide width shift n (drop wide bytes))

module _ (f : WaveFormat) (range : IsInRange f) (samples : List ℕ) (small : AreBytes samples) (part : length samples % row_of f ≡ 0) (total : ℕ) (many : total ≡ min (length samples / row_of f) (2 ^ 64 - 1)) where
  abbrev wide : ℕ
  wide = wave_width_of f

  abbrev rows : ℕ
  rows = length samples / row_of f

  long : length samples ≡ rows * (f.channels * wide)
  long = let d = div-add-mod' (length samples) (row_of f) in omega (arith, d, part)

  -- all bits are those of a stream
  survey_whole : (depth : ℕ) → depth ≡ 8 * wide → IsSurvey depth f.channels (sample_width depth) (stream_samples wide depth samples) total true
  survey_whole depth all =
      let signed = wave_samples (8 * wide) samples in
      let same : stream_samples wide depth samples ≡ signed =
      ap (λ b. cond b signed (lowered wide (sample_width depth) (8 * wide - depth) (length signed / wide) signed)) (eq-eqb depth (8 * wide) all) in
      let width : sample_width depth ≡ wide = ap sample_width all ∙ width_of_all wide in
      let here = survey_plain signed rows f.channels wide (wave_small (8 * wide) samples small) (wave_long (8 * wide) samples ∙ long) (some_width f.bits range.bits) (narrow_width f.bits range.narrow) (8 * wide)
      (λ k lt. number_fits (8 * wide) _ (one_fits signed rows f.channels wide (wave_small (8 * wide) samples small) (wave_long (8 * wide) samples ∙ long) (some_width f.bits range.bits) (narrow_width f.bits range.narrow) k lt))
      range.channels total many in
      subst (λ l. IsSurvey depth f.channels (sample_width depth) l total true) (sym same)
      (subst (λ w. IsSurvey depth f.channels w signed total true) (sym width) (subst (λ d. IsSurvey d f.channels wide signed total true) (sym all) here))

  -- fewer are
  survey_low : (depth : ℕ) → 8 ≤ depth → depth < 8 * wide → IsSurvey depth f.channels (sample_width depth) (stream_samples wide depth samples) total true
  survey_low depth some less =
      let signed = wave_samples (8 * wide) samples in
      let width = sample_width depth in
      let shift = 8 * wide - depth in
      let narrow = narrow_width f.bits range.narrow in
      let thick = some_width f.bits range.bits in
      let deep : 0 < depth = omega (arith, some) in
      let low = lowered wide width shift (length samples / wide) samples in
      let same : signed ≡ samples = same_wide wide samples (omega (arith, some, less)) in
      let is : stream_samples wide depth samples ≡ low =
      ap (λ b. cond b signed (lowered wide width shift (length signed / wide) signed)) (ne_eqb depth (8 * wide) (λ e. absurd (omega (arith, e, less))))
      ∙ ap (λ l. lowered wide width shift (length l / wide) l) same in
      let has : length low ≡ rows * (f.channels * width) = low_has samples rows f.channels wide width depth small long thick narrow deep less refl in
      let fit = λ (k : ℕ) (lt : k < rows * f.channels).
      ap (λ l. fits depth (number_of l)) (taken_at samples rows f.channels wide width depth small long thick narrow deep less refl k lt)
      ∙ (ap (fits depth) (sym (number_at samples rows f.channels wide width depth small long thick narrow deep less refl k lt))
      ∙ shifted_fits (8 * wide) depth (number_of (take wide (drop (k * wide) samples))) deep (omega (arith, less)) (one_fits samples rows f.channels wide small long thick narrow k lt)) in
      subst (λ l. IsSurvey depth f.channels width l total true) (sym is)
      (survey_plain low rows f.channels width (lowered_small wide width shift (length samples / wide) samples) has (omega (arith, some)) (omega (arith, less, narrow)) depth fit range.channels total many)

  pub stream_survey : IsSurvey (depth_in f samples) f.channels (sample_width (depth_in f samples)) (stream_samples wide (depth_in f samples) samples) total true
  stream_survey = elim (depth_cases f samples) [
    | inl all ↦ survey_whole (depth_in f samples) all
    | inr n ↦ survey_low (depth_in f samples) (stated_some (depth_in f samples) n.stated) n.few
  ]
