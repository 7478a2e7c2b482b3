-- The samples of a WAV file, as they are read in pieces and shifted down in place.
use Rattle.std.proofs.Common.{◌≡◌, ◌≢◌, ◌≤◌, ◌<◌, ◌+◌, ◌-◌, ◌*◌, ◌/◌, ◌%◌, ◌^◌, ◌&&◌, ℕ, zero, suc, ℤ, Vec, Global, Bool, true, false, cond, List, [], ◌∷◌, ◌++◌, length, take, drop, map, get_or, ◌⊎◌, inl, inr, refl, ap, sym, ◌∙◌, subst, arith, append_assoc, length-append}
use Rattle.std.specs.Prelude.{nat_lt, nat_eq, not, max, Result, Ok, Err, OnOk}
use Rattle.std.specs.Int.{int_shr}
use Rattle.std.proofs.Math.Nat.{add-mul, mul_assoc, mul-div_cancel, mul-le-mul_right, mod-lt, mul-pos, pow-suc}
use Rattle.std.proofs.lemmas.Bool.{eq-eqb, le-ltb, ne_eqb, and_parts, ltb-true, cases_lt}
use Rattle.std.proofs.lemmas.List.{append-nil, drop-append-le, get_or-map, get_or_append_left, get_or_push, length-drop, length-map, length-take-le, length_push, map-append, take_all}
use Rattle.std.proofs.lemmas.Nat.{pow_pos, pow-add}
use Rattle.byteorder.specs.Endian.{twos_complement, little_bytes, little_number}
use Rattle.byteorder.specs.Numbers.{length-bytes_low_first, little_number-reads_back, little_from-append}
use Rattle.flac_bits.specs.Signed.{FitsBits}
use Rattle.flac_frame.specs.Audio.{samples_each}
use Rattle.flac_native.specs.Message.{sample_width, sample_bytes}
use Rattle.flac_wave.specs.Format.{IsInRange, row_of}
use Rattle.flac_wave.specs.Shift.{lowered, lowered_number, are_low_zero, AreBytes, wave_width_of, may_be_narrow, is_stated_depth, depth_in}
use Rattle.flac_wave.specs.declared.format.WaveFormat.{WaveFormat}
use Rattle.flac_wave.proofs.Shifts.{lowered_long, IsNarrow, depth_cases, stated_some}
use Rattle.flac_raw.specs.Raw.{number_of, samples_at, channels_at}
use Rattle.flac_cli.specs.Waves.{turned, wave_samples, stream_samples}
use Rattle.flac_cli.specs.inner.HeldWaves.{shifted, HasRoom, IsHeld, AreHeld}
use Rattle.flac_raw.specs.Reading.{IsChannel, AreParts, IsMore, AreChannels}
use Rattle.flac_cli.specs.inner.WaveSamples.{AreTaken}
use Rattle.flac_cli.specs.declared.wave_samples.HeldSamples.{HeldSamples}
use Rattle.flac_raw.proofs.Rows.{AreFirst, ReadSoFar, no_samples, sample_more, numbers_are, channels_are, none_read, all_read, part_read}
use Rattle.flac_cli.proofs.Shifted.{shifted_number, lowered_at}
use Rattle.flac_cli.proofs.TakenWaves.{low_small, small_both, small_front, wave_long, channels_long, width_of_all, some_width, narrow_width, stream_whole, depth_fits, lists}
use Rattle.flac_raw.proofs.TwosComplement.{little_small, twos_bytes, twos_fit}
use Rattle.flac_cli.proofs.Waved.{wave_append, wave_none}

-- ---- samples that are shifted down in place

-- each is a byte
pub small_at : (bs : List ℕ) → AreBytes bs → (i : ℕ) → get_or bs i 0 < 256
small_at [] small i = omega arith
small_at (b ∷ bs) small zero = small.0
small_at (b ∷ bs) small (suc i) = small_at bs small.1 i

pub small_drop : (n : ℕ) (bs : List ℕ) → AreBytes bs → AreBytes (drop n bs)
small_drop zero bs small = small
small_drop (suc n) [] small = tt
small_drop (suc n) (b ∷ bs) small = small_drop n bs small.1

pow_bytes : (n : ℕ) → 256 ^ n ≡ 2 ^ (8 * n)
pow_bytes zero = refl
pow_bytes (suc n) =
    let e : 8 * suc n ≡ 8 * n + 8 = omega arith in
    pow-suc 256 n ∙ (ap (λ x. x * 256) (pow_bytes n) ∙ (sym (pow-add 2 (8 * n) 8) ∙ ap (λ k. 2 ^ k) (sym e)))

channels_count : (bytes : List ℕ) (rows row width n : ℕ) → length (channels_at bytes rows row width n) ≡ n
unfolding channels_at
channels_count bytes rows row width zero = refl
channels_count bytes rows row width (suc n) =
    let all = channels_count bytes rows row width n in
    omega (arith, length_push (channels_at bytes rows row width n) (samples_at bytes row (n * width) width rows), all)

-- one of the channels
channel_at : (bytes : List ℕ) (rows row width n c : ℕ) → c < n → get_or (channels_at bytes rows row width n) c [] ≡ samples_at bytes row (c * width) width rows
unfolding channels_at
channel_at bytes rows row width zero c lt = absurd (omega (arith, lt))
channel_at bytes rows row width (suc n) c lt = elim (cases_lt c n) [
  | inl below ↦
      get_or_append_left (channels_at bytes rows row width n) (samples_at bytes row (n * width) width rows ∷ []) [] c (omega (arith, below, channels_count bytes rows row width n)) ∙ channel_at bytes rows row width n c below
  | inr over ↦
      let same : c ≡ n = omega (arith, lt, over) in
      get_or_push (channels_at bytes rows row width n) (samples_at bytes row (n * width) width rows) [] c (channels_count bytes rows row width n ∙ sym same) ∙ ap (λ k. samples_at bytes row (k * width) width rows) (sym same)
]

-- how many samples all channels have
pub whole_count : (rows count wide : ℕ) → rows * (count * wide) ≡ rows * count * wide
whole_count rows count wide = sym (mul_assoc rows count wide)

module _ (bytes : List ℕ) (rows count wide width depth : ℕ) (small : AreBytes bytes) (long : length bytes ≡ rows * (count * wide)) (some : 0 < wide) (few : wide ≤ 4)
    (deep : 0 < depth) (less : depth < 8 * wide) (wide_is : width ≡ sample_width depth) where
  abbrev shift : ℕ
  shift = 8 * wide - depth

  abbrev low : List ℕ
  low = lowered wide width shift (length bytes / wide) bytes

  many : length bytes / wide ≡ rows * count
  many = ap (λ n. n / wide) (long ∙ whole_count rows count wide) ∙ mul-div_cancel (rows * count) some

  pub low_has : length low ≡ rows * (count * width)
  low_has = lowered_long wide width shift (length bytes / wide) bytes ∙ (ap (λ n. n * width) many ∙ mul_assoc rows count width)

  -- the sample of this number: the bytes that a stream has of it
  abbrev bytes_at : ℕ → List ℕ
  bytes_at k = little_bytes width (lowered_number wide width shift (little_number wide (take wide (drop (k * wide) bytes))))

  bytes_long : (k : ℕ) → length (bytes_at k) ≡ width
  bytes_long k = length-bytes_low_first 0 width (lowered_number wide width shift (little_number wide (take wide (drop (k * wide) bytes))))

  pub number_at : (k : ℕ) → k < rows * count → int_shr (number_of (take wide (drop (k * wide) bytes))) shift ≡ number_of (bytes_at k)
  number_at k lt =
      let one = take wide (drop (k * wide) bytes) in
      let n = little_number wide one in
      let next : suc k * wide ≡ k * wide + wide = omega arith in
      let within : suc k * wide ≤ rows * count * wide = mul-le-mul_right {m = suc k} {n = rows * count} wide lt in
      let all : length bytes ≡ rows * count * wide = long ∙ whole_count rows count wide in
      let left = length-drop (k * wide) bytes in
      let full : length one ≡ wide = length-take-le wide (drop (k * wide) bytes) (omega (arith, next, within, all, left)) in
      let byte : (i : ℕ) → get_or one i 0 < 256 = small_at one (small_front wide (drop (k * wide) bytes) (small_drop (k * wide) bytes small)) in
      let fits : n < 2 ^ (8 * wide) = subst (λ w. little_number w one < 2 ^ (8 * w)) full (little_small one (omega (arith, full, few)) byte) in
      let m = lowered_number wide width shift n in
      let low_fits : m < 256 ^ width =
      subst (λ x. m < x) (sym (pow_bytes width)) (mod-lt (n / 2 ^ shift % 2 ^ (8 * width) + cond (nat_lt n (2 ^ (8 * wide - 1))) 0 (2 ^ (8 * width) - 2 ^ (8 * wide - shift))) (pow_pos (8 * width))) in
      let back : little_number width (little_bytes width m) ≡ m = ap (little_number width) (sym (append-nil (little_bytes width m))) ∙ little_number-reads_back width m [] low_fits in
      let room : depth ≤ 8 * width = omega (arith, wide_is) in
      ap (λ (w : ℕ). int_shr (twos_complement w (little_number w one)) shift) full
      ∙ (shifted_number wide depth width n fits deep less room
      ∙ sym (ap (λ (w : ℕ). twos_complement w (little_number w (bytes_at k))) (bytes_long k) ∙ ap (twos_complement width) back))

  pub taken_at : (k : ℕ) → k < rows * count → take width (drop (k * width) low) ≡ bytes_at k
  taken_at k lt = lowered_at wide width shift k (length bytes / wide) bytes (omega (arith, lt, many))

  place_at : (w i c : ℕ) → i * (count * w) + c * w ≡ (i * count + c) * w
  place_at w i c = let e = mul_assoc i count w in let f = add-mul (i * count) c w in omega (arith, e, f)

  below_all : (i c : ℕ) → i < rows → c < count → i * count + c < rows * count
  below_all i c lt below =
      let next : suc i * count ≡ i * count + count = omega arith in
      let within : suc i * count ≤ rows * count = mul-le-mul_right {m = suc i} {n = rows} count lt in
      omega (arith, next, within, below)

  channel_lowered : (c n : ℕ) → c < count → n ≤ rows → IsChannel low n (count * width) (c * width) width (shifted shift (samples_at bytes (count * wide) (c * wide) wide n))
  unfolding samples_at
  channel_lowered c zero below within = no_samples low (count * width) (c * width) width
  channel_lowered c (suc n) below within =
      let front = samples_at bytes (count * wide) (c * wide) wide n in
      let one = take wide (drop (n * (count * wide) + c * wide) bytes) in
      let k = n * count + c in
      let z = int_shr (number_of one) shift in
      let lt : k < rows * count = below_all n c (omega (arith, within)) below in
      let here : take width (drop (n * (count * width) + c * width) low) ≡ bytes_at k = ap (λ p. take width (drop p low)) (place_at width n c) ∙ taken_at k lt in
      let is : z ≡ number_of (bytes_at k) = ap (λ p. int_shr (number_of (take wide (drop p bytes))) shift) (place_at wide n c) ∙ number_at k lt in
      let byte : (i : ℕ) → get_or (bytes_at k) i 0 < 256 = small_at (bytes_at k) (low_small 0 width (lowered_number wide width shift (little_number wide (take wide (drop (k * wide) bytes))))) in
      let thin : length (bytes_at k) ≤ 4 = omega (arith, bytes_long k, wide_is, less, few) in
      let thick : 1 ≤ length (bytes_at k) = omega (arith, bytes_long k, wide_is, deep) in
      let spelled : sample_bytes width z ≡ bytes_at k = ap (sample_bytes width) is ∙ (ap (λ w. sample_bytes w (number_of (bytes_at k))) (sym (bytes_long k)) ∙ twos_bytes (bytes_at k) thin byte) in
      let fits : FitsBits (8 * width) z = subst (FitsBits (8 * width)) (sym is) (subst (λ w. FitsBits (8 * w) (number_of (bytes_at k))) (bytes_long k) (twos_fit (bytes_at k) thick thin byte)) in
      let more = sample_more low n (count * width) (c * width) width (shifted shift front) z (channel_lowered c n below (omega (arith, within))) (is ∙ ap number_of (sym here)) (spelled ∙ sym here) fits in
      let e : n + 1 ≡ suc n = omega arith in
      subst (λ j. IsChannel low j (count * width) (c * width) width (shifted shift (front ++ number_of one ∷ []))) e
      (subst (IsChannel low (n + 1) (count * width) (c * width) width) (sym (map-append (λ x. int_shr x shift) front (number_of one ∷ []))) more)

  pub channels_lowered : (channels : List (List ℤ)) → 0 < count → AreChannels bytes count wide channels → AreChannels low count width (map (shifted shift) channels)
  channels_lowered channels one are =
      let row = count * wide in
      let positive : 0 < width = omega (arith, wide_is, deep) in
      let rows_is : length bytes / row ≡ rows = ap (λ n. n / row) long ∙ mul-div_cancel rows (mul-pos one some) in
      let all = map (shifted shift) channels in
      let listed : channels ≡ channels_at bytes rows row wide count = are.numbers ∙ ap (λ n. channels_at bytes n row wide count) rows_is in
      let each_is = λ (c : ℕ) (lt : c < count).
      get_or-map (shifted shift) channels c [] [] (omega (arith, lt, are.many)) ∙ ap (shifted shift) (ap (λ l. get_or l c []) listed ∙ channel_at bytes rows row wide count c lt) in
      let each = λ (c : ℕ) (lt : c < count).
      subst (IsChannel low rows (count * width) (c * width) width) (sym (each_is c lt)) (channel_lowered c rows lt (omega arith)) in
      let counted : length all ≡ count = length-map channels (shifted shift) ∙ are.many in
      let first : AreFirst low rows (count * width) width count all = record {
        many = counted;
        each = each;
        numbers = sym (take_all count all (omega (arith, counted))) ∙ numbers_are low rows (count * width) width count all (omega (arith, counted)) (λ c lt. let h = each c lt in h.numbers);
      } in
      let rows_low : rows ≡ length low / (count * width) = sym (ap (λ n. n / (count * width)) low_has ∙ mul-div_cancel rows (mul-pos one positive)) in
      channels_are low rows (count * width) width count all first one refl low_has rows_low

-- ---- as those of a stream

-- samples of more than a byte are in a file as they are in a stream, and no others are shifted
pub same_wide : (wide : ℕ) (xs : List ℕ) → 1 < wide → wave_samples (8 * wide) xs ≡ xs
same_wide wide xs more = ap (λ b. cond b (map turned xs) xs) (le-ltb (8 * wide) 9 (omega (arith, more)))

module _ (f : WaveFormat) (range : IsInRange f) (bytes : List ℕ) (h : HeldSamples) (are : AreHeld f bytes h) (odd : Bool)
    (odd_is : not odd ≡ nat_eq (samples_each (lists h.channels) * (f.channels * wave_width_of f) % 2) 0) where
  abbrev wide : ℕ
  wide = wave_width_of f

  abbrev signed : List ℕ
  signed = wave_samples (8 * wide) bytes

  long : length bytes ≡ samples_each (lists h.channels) * (f.channels * wide)
  long = sym (wave_long (8 * wide) bytes) ∙ channels_long signed f.channels wide (lists h.channels) are.are (narrow_width f.bits range.narrow)

  odd_bytes : not odd ≡ nat_eq (length bytes % 2) 0
  odd_bytes = odd_is ∙ ap (λ n. nat_eq (n % 2) 0) (sym long)

  signed_whole : length signed % (f.channels * wide) ≡ 0
  signed_whole = ap (λ n. n % (f.channels * wide)) (wave_long (8 * wide) bytes) ∙ are.whole

  -- all bits are those of a stream
  pub taken_whole : h.depth ≡ 8 * wide → AreTaken f bytes (record { depth = h.depth; channels = h.channels; odd = odd })
  taken_whole all =
      let same : stream_samples wide h.depth bytes ≡ signed =
      ap (λ b. cond b signed (lowered wide (sample_width h.depth) (8 * wide - h.depth) (length signed / wide) signed)) (eq-eqb h.depth (8 * wide) all) in
      let width : sample_width h.depth ≡ wide = ap sample_width all ∙ width_of_all wide in
      record {
        small = are.small;
        whole = are.whole;
        deep = are.deep;
        raw = record {
          whole = ap (λ w. length (stream_samples wide h.depth bytes) % (f.channels * w)) width ∙ (ap (λ l. length l % (f.channels * wide)) same ∙ signed_whole);
          are = subst (λ l. AreChannels l f.channels (sample_width h.depth) (lists h.channels)) (sym same) (subst (λ w. AreChannels signed f.channels w (lists h.channels)) (sym width) are.are);
        };
        odd = odd_bytes;
      }

  -- fewer are
  pub taken_low : (v : Vec (Vec ℤ Global) Global) → HasRoom f h.depth → 0 < 8 * wide - h.depth → lists v ≡ map (shifted (8 * wide - h.depth)) (lists h.channels) → AreTaken f bytes (record { depth = h.depth; channels = v; odd = odd })
  taken_low v room more is =
      let deep = room.some in
      let few = room.few in
      let rows = samples_each (lists h.channels) in
      let width = sample_width h.depth in
      let narrow = narrow_width f.bits range.narrow in
      let one : 0 < f.channels = range.channels in
      let wider : 1 < wide = wider_by (depth_cases f bytes) in
      let same : signed ≡ bytes = same_wide wide bytes wider in
      let low : stream_samples wide h.depth bytes ≡ lowered wide width (8 * wide - h.depth) (length bytes / wide) bytes =
      ap (λ b. cond b signed (lowered wide width (8 * wide - h.depth) (length signed / wide) signed)) (ne_eqb h.depth (8 * wide) (λ e. absurd (omega (arith, e, more))))
      ∙ ap (λ l. lowered wide width (8 * wide - h.depth) (length l / wide) l) same in
      let here : AreChannels bytes f.channels wide (lists h.channels) = subst (λ l. AreChannels l f.channels wide (lists h.channels)) same are.are in
      let lower = channels_lowered bytes rows f.channels wide width h.depth are.small long (some_width f.bits range.bits) narrow deep (omega (arith, more)) refl (lists h.channels) one here in
      let shown : AreChannels (stream_samples wide h.depth bytes) f.channels width (lists v) =
      subst (λ l. AreChannels (stream_samples wide h.depth bytes) f.channels width l) (sym is) (subst (λ l. AreChannels l f.channels width (map (shifted (8 * wide - h.depth)) (lists h.channels))) (sym low) lower) in
      record {
        small = are.small;
        whole = are.whole;
        deep = are.deep;
        raw = record {
          whole = stream_whole f.channels wide h.depth bytes (some_width f.bits range.bits) are.whole;
          are = shown;
        };
        odd = odd_bytes;
      }
    where
      wider_by : (depth_in f bytes ≡ 8 * wide) ⊎ IsNarrow f bytes (depth_in f bytes) → 1 < wide
      wider_by (inl all) = absurd (let e = are.deep in omega (arith, e, all, more))
      wider_by (inr n) = let some = stated_some (depth_in f bytes) n.stated in let few = n.few in omega (arith, some, few)

-- ---- piece by piece

and_assoc : (a b c : Bool) → (a && (b && c)) ≡ ((a && b) && c)
and_assoc true b c = refl
and_assoc false b c = refl

-- samples whose lowest bits are zeros, in two parts
low_append : (wide shift n m : ℕ) (xs ys : List ℕ) → length xs ≡ n * wide → are_low_zero wide shift (n + m) (xs ++ ys) ≡ (are_low_zero wide shift n xs && are_low_zero wide shift m ys)
low_append wide shift zero m [] ys long = let e : zero + m ≡ m = omega arith in ap (λ k. are_low_zero wide shift k ys) e
low_append wide shift zero m (x ∷ xs) ys long = absurd (omega (arith, long))
low_append wide shift (suc n) m xs ys long =
    let e : suc n * wide ≡ n * wide + wide = omega arith in
    let within : wide ≤ length xs = omega (arith, long, e) in
    let left : length (drop wide xs) ≡ n * wide = let d = length-drop wide xs in omega (arith, d, long, e) in
    let next : suc n + m ≡ suc (n + m) = omega arith in
    let first = nat_eq (little_number wide xs % 2 ^ shift) 0 in
    ap (λ k. are_low_zero wide shift k (xs ++ ys)) next
    ∙ (ap (λ k. nat_eq (k % 2 ^ shift) 0 && are_low_zero wide shift (n + m) (drop wide (xs ++ ys))) (little_from-append wide xs ys within)
    ∙ (ap (λ l. first && are_low_zero wide shift (n + m) l) (drop-append-le wide xs ys within)
    ∙ (ap (λ b. first && b) (low_append wide shift n m (drop wide xs) ys left)
    ∙ and_assoc first (are_low_zero wide shift n (drop wide xs)) (are_low_zero wide shift m ys))))

depth_of_both : (narrow a b : Bool) (v all : ℕ) → (narrow ≡ true → v ≤ all) → cond (narrow && (a && b)) v all ≡ max (cond (narrow && a) v all) (cond (narrow && b) v all)
depth_of_both false a b v all few = omega arith
depth_of_both true true true v all few = omega arith
depth_of_both true true false v all few = let le = few refl in omega (arith, le)
depth_of_both true false true v all few = let le = few refl in omega (arith, le)
depth_of_both true false false v all few = omega arith

whole_parts : (n wide k : ℕ) → 0 < wide → n ≡ k * wide → n / wide ≡ k
whole_parts n wide k some is = ap (λ x. x / wide) is ∙ mul-div_cancel k some

-- how many bits samples have, in two parts
pub depth_append : (f : WaveFormat) (range : IsInRange f) (xs ys : List ℕ) (n m : ℕ) → length xs ≡ n * wave_width_of f → length ys ≡ m * wave_width_of f → depth_in f (xs ++ ys) ≡ max (depth_in f xs) (depth_in f ys)
depth_append f range xs ys n m long more =
    let wide = wave_width_of f in
    let shift = 8 * wide - f.valid in
    let some = some_width f.bits range.bits in
    let both : length (xs ++ ys) ≡ (n + m) * wide = length-append xs ys ∙ (let e = add-mul n m wide in omega (arith, e, long, more)) in
    let all : are_low_zero wide shift (length (xs ++ ys) / wide) (xs ++ ys) ≡ (are_low_zero wide shift (length xs / wide) xs && are_low_zero wide shift (length ys / wide) ys) =
    ap (λ k. are_low_zero wide shift k (xs ++ ys)) (whole_parts (length (xs ++ ys)) wide (n + m) some both) ∙ (low_append wide shift n m xs ys long
    ∙ (ap (λ k. are_low_zero wide shift k xs && are_low_zero wide shift m ys) (sym (whole_parts (length xs) wide n some long))
    ∙ ap (λ k. are_low_zero wide shift (length xs / wide) xs && are_low_zero wide shift k ys) (sym (whole_parts (length ys) wide m some more)))) in
    ap (λ b. cond (may_be_narrow f && b) f.valid (8 * wide)) all
    ∙ depth_of_both (may_be_narrow f) (are_low_zero wide shift (length xs / wide) xs) (are_low_zero wide shift (length ys / wide) ys) f.valid (8 * wide)
    (λ is. let p = and_parts (is_stated_depth f.valid) (nat_lt f.valid (8 * wide)) is in let lt = ltb-true f.valid (8 * wide) p.1 in omega (arith, lt))

-- a row is of whole samples
pub samples_in : (f : WaveFormat) (n rows : ℕ) → n ≡ rows * row_of f → n ≡ rows * f.channels * wave_width_of f
samples_in f n rows is = is ∙ whole_count rows f.channels (wave_width_of f)

-- the samples of a piece more
pub held_more : (f : WaveFormat) (range : IsInRange f) (piece : List ℕ) (rows : ℕ) (old new : HeldSamples) → AreBytes piece → length piece ≡ rows * row_of f → new.depth ≡ max old.depth (depth_in f piece)
    → IsMore (AreParts f.channels (wave_width_of f)) (wave_samples (8 * wave_width_of f) piece) (row_of f) rows (lists old.channels) (lists new.channels) → IsMore (IsHeld f) piece (row_of f) rows old new
held_more f range piece rows old new small long deep more = λ bytes before whole is.
    let all = 8 * wave_width_of f in
    record {
      small = small_both bytes piece is.small small;
      deep = deep ∙ (ap (λ d. max d (depth_in f piece)) is.deep ∙ sym (depth_append f range bytes piece (before * f.channels) (rows * f.channels) (samples_in f (length bytes) before whole) (samples_in f (length piece) rows long)));
      are = subst (λ l. AreParts f.channels (wave_width_of f) l (before + rows) (lists new.channels)) (sym (wave_append all bytes piece))
          (more (wave_samples all bytes) before (wave_long all bytes ∙ whole) is.are);
    }

-- the same by other names
pub more_as : (k k' w w' m m' : ℕ) (xs ys : List ℕ) (was was' news news' : List (List ℤ)) → k ≡ k' → w ≡ w' → xs ≡ ys → m ≡ m' → was ≡ was' → news ≡ news'
    → IsMore (AreParts k w) xs (k * w) m was news → IsMore (AreParts k' w') ys (k' * w') m' was' news'
more_as k k' w w' m m' xs ys was was' news news' a b c d e g h =
    subst (λ n. IsMore (AreParts k' w') ys (k' * w') m' was' n) g
    (subst (λ n. IsMore (AreParts k' w') ys (k' * w') m' n news) e
    (subst (λ n. IsMore (AreParts k' w') ys (k' * w') n was news) d
    (subst (λ n. IsMore (AreParts k' w') n (k' * w') m was news) c
    (subst (λ n. IsMore (AreParts k' n) xs (k' * n) m was news) b
    (subst (λ n. IsMore (AreParts n w) xs (n * w) m was news) a h)))))

pub on_ok : {T E : Type 0} (r : Result T E) (P Q : Type 0) → OnOk r P → (P → Q) → OnOk r Q
on_ok (Ok t) P Q h f = f h
on_ok (Err e) P Q h f = tt

-- none so far
pub held_none : (f : WaveFormat) (h : HeldSamples) → length h.channels.items ≡ f.channels → ((c : ℕ) → get_or (lists h.channels) c [] ≡ []) → h.depth ≡ depth_in f [] → IsHeld f [] 0 h
held_none f h many none deep =
    let so = none_read [] f.channels (wave_width_of f) (lists h.channels) (length-map h.channels.items (λ (v : Vec ℤ Global). v.items) ∙ many) none in
    record {
      small = tt;
      deep = deep;
      are = subst (λ l. AreParts f.channels (wave_width_of f) l 0 (lists h.channels)) (sym (wave_none (8 * wave_width_of f) [] refl))
          (record { many = so.are.many; each = λ c lt. subst (λ l. IsChannel [] 0 (row_of f) (c * wave_width_of f) (wave_width_of f) l) (sym (none c)) (no_samples [] (row_of f) (c * wave_width_of f) (wave_width_of f)) });
    }

-- whole rows of a source's bytes are held, and the rest is still to come
pub record ReadHeld (f : WaveFormat) (all coming : List ℕ) (h : HeldSamples) : Type 0 where
  pub bytes : List ℕ
  pub rows : ℕ
  pub whole : length bytes ≡ rows * row_of f
  pub are : IsHeld f bytes rows h
  pub rest : all ≡ bytes ++ coming

pub first_held : (f : WaveFormat) (all : List ℕ) (h : HeldSamples) → IsHeld f [] 0 h → ReadHeld f all all h
first_held f all h is = record { bytes = []; rows = 0; whole = omega arith; are = is; rest = refl }

pub next_held : (f : WaveFormat) (all coming later piece : List ℕ) (rows : ℕ) (old new : HeldSamples) → ReadHeld f all coming old → coming ≡ piece ++ later → length piece ≡ rows * row_of f
    → IsMore (IsHeld f) piece (row_of f) rows old new → ReadHeld f all later new
next_held f all coming later piece rows old new so is whole more = record {
  bytes = so.bytes ++ piece;
  rows = so.rows + rows;
  whole = let e = add-mul so.rows rows (row_of f) in let h = so.whole in omega (arith, length-append so.bytes piece, h, whole, e);
  are = more so.bytes so.rows so.whole so.are;
  rest = so.rest ∙ ap (λ k. so.bytes ++ k) is ∙ sym (append_assoc so.bytes piece later);
}

as_read : (f : WaveFormat) (all coming : List ℕ) (h : HeldSamples) → ReadHeld f all coming h → ReadSoFar (wave_samples (8 * wave_width_of f) all) (wave_samples (8 * wave_width_of f) coming) f.channels (wave_width_of f) (lists h.channels)
as_read f all coming h so = record {
  bytes = wave_samples (8 * wave_width_of f) so.bytes;
  rows = so.rows;
  whole = wave_long (8 * wave_width_of f) so.bytes ∙ so.whole;
  are = so.are.are;
  rest = ap (wave_samples (8 * wave_width_of f)) so.rest ∙ wave_append (8 * wave_width_of f) so.bytes coming;
}

pub all_held : (f : WaveFormat) (range : IsInRange f) (all coming : List ℕ) (h : HeldSamples) → ReadHeld f all coming h → coming ≡ [] → AreHeld f all h
all_held f range all coming h so end =
    let is : all ≡ so.bytes = so.rest ∙ ap (λ k. so.bytes ++ k) end ∙ append-nil so.bytes in
    let some = some_width f.bits range.bits in
    let one : 1 ≤ f.channels = range.channels in
    let read = all_read (wave_samples (8 * wave_width_of f) all) (wave_samples (8 * wave_width_of f) coming) f.channels (wave_width_of f) (lists h.channels) (as_read f all coming h so) (wave_none (8 * wave_width_of f) coming end) one some in
    record {
      small = subst AreBytes (sym is) so.are.small;
      whole = ap (λ n. n % row_of f) (sym (wave_long (8 * wave_width_of f) all)) ∙ read.0;
      deep = so.are.deep ∙ ap (depth_in f) (sym is);
      are = read.1;
    }

-- the last row is not whole
pub part_held : (f : WaveFormat) (all coming piece later : List ℕ) (n : ℕ) (h : HeldSamples) → ReadHeld f all coming h → coming ≡ piece ++ later → later ≡ [] → length piece ≡ n → n % row_of f ≢ 0 → length all % row_of f ≢ 0
part_held f all coming piece later n h so is end long part =
    let w = wave_samples (8 * wave_width_of f) in
    let other = part_read (w all) (w coming) (w piece) (w later) f.channels (wave_width_of f) n (lists h.channels) (as_read f all coming h so) (ap w is ∙ wave_append (8 * wave_width_of f) piece later) (wave_none (8 * wave_width_of f) later end)
    (wave_long (8 * wave_width_of f) piece ∙ long) part in
    λ none. other (ap (λ k. k % row_of f) (wave_long (8 * wave_width_of f) all) ∙ none)

-- the greater of two depths has room
pub room_both : (f : WaveFormat) (range : IsInRange f) (depth : ℕ) (xs : List ℕ) → HasRoom f depth → HasRoom f (max depth (depth_in f xs))
room_both f range depth xs room =
    let fits = depth_fits f xs range in
    let some = room.some in
    let few = room.few in
    record { some = omega (arith, some); few = omega (arith, few, fits.1) }

pub room_of : (f : WaveFormat) (range : IsInRange f) (xs : List ℕ) → HasRoom f (depth_in f xs)
room_of f range xs = let fits = depth_fits f xs range in record { some = fits.0; few = fits.1 }
