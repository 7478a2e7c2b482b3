-- Rows of raw samples.
use Rattle.std.proofs.Common.{◌≡◌, ◌≢◌, ◌≤◌, ◌<◌, ◌+◌, ◌-◌, ◌*◌, ◌/◌, ◌%◌, ℕ, zero, suc, ℤ, pos, List, [], ◌∷◌, ◌++◌, length, length-append, append_assoc, take, drop, get_or, set, refl, ap, sym, ◌∙◌, subst, below_more, inl, inr, arith}
use Rattle.std.proofs.lemmas.List.{length_push, get_or_push, get_or_append_left, get_or-append-add, drop-drop, take_all, length-take, length-drop, append-nil, drop-append-le, take-append-le, take_more, length-set, get_or-set_same, get_or-set_other}
use Rattle.std.proofs.lemmas.List.Elements.{All-from_get_or, All-push, All-nil, All-append}
use Rattle.std.proofs.Math.Nat.{mod-add-div', mul-le-mul_left, mul-pos, mul-div_left, mul-mod_left, mul-add-mod_self_right}
use Rattle.std.proofs.Math.Seq.{take-add, drop-append-add}
use Rattle.std.specs.Prelude.{All}
use Rattle.flac_bits.specs.Signed.{FitsBits}
use Rattle.flac_native.specs.Message.{sample_bytes, sample_width, row_bytes, rows_bytes}
use Rattle.flac_native.specs.Given.{sound_message}
use Rattle.std.proofs.lemmas.Bool.{cases_lt}
use Rattle.flac_header.specs.declared.subset.Profile.{Profile}
use Rattle.flac_frame.specs.Audio.{Sound, IsSound, samples_each}
use Rattle.flac_jobs.specs.declared.formats.RawFormat.{RawFormat}
use Rattle.flac_raw.specs.Raw.{number_of, samples_at, channels_at, IsRaw}
use Rattle.flac_raw.specs.Reading.{IsChannel, IsPart, AreParts, IsMore, AreChannels}

-- the first n channels
pub record AreFirst (bytes : List ℕ) (rows row width count : ℕ) (channels : List (List ℤ)) : Type 0 where
  pub many : length channels ≡ count
  pub each : (c : ℕ) → c < count → IsChannel bytes rows row (c * width) width (get_or channels c [])
  pub numbers : channels ≡ channels_at bytes rows row width count

-- ---- one row

pub row_is : (width place : ℕ) (bytes : List ℕ) (channels : List (List ℤ)) (i : ℕ)
    → ((c : ℕ) → c < length channels → sample_bytes width (get_or (get_or channels c []) i (pos 0)) ≡ take width (drop (place + c * width) bytes))
    → row_bytes width channels i ≡ take (length channels * width) (drop place bytes)
unfolding row_bytes
row_is width place bytes [] i is = let e : 0 ≡ zero * width = omega arith in rw (sym e) refl
row_is width place bytes (x ∷ xs) i is =
    let first : sample_bytes width (get_or x i (pos 0)) ≡ take width (drop place bytes) =
    (let e : place + zero * width ≡ place = omega arith in rw e at (is zero (omega arith))) in
    let later : row_bytes width xs i ≡ take (length xs * width) (drop (place + width) bytes) =
    row_is width (place + width) bytes xs i (λ c lt. let e : place + suc c * width ≡ place + width + c * width = omega arith in rw e at (is (suc c) (omega arith))) in
    let e : suc (length xs) * width ≡ width + length xs * width = omega arith in
    rw e
    (ap (λ l. l ++ row_bytes width xs i) first
    ∙ ap (λ l. take width (drop place bytes) ++ l) (later ∙ ap (λ l. take (length xs * width) l) (sym (drop-drop width place bytes)))
    ∙ sym (take-add width (length xs * width) (drop place bytes)))

-- ---- all rows

pub rows_are : (width row : ℕ) (bytes : List ℕ) (channels : List (List ℤ)) (n i : ℕ)
    → ((j : ℕ) → j < i + n → row_bytes width channels j ≡ take row (drop (j * row) bytes))
    → rows_bytes width channels n i ≡ take (n * row) (drop (i * row) bytes)
unfolding rows_bytes
rows_are width row bytes channels zero i is = let e : 0 ≡ zero * row = omega arith in rw (sym e) refl
rows_are width row bytes channels (suc n) i is =
    let first : row_bytes width channels i ≡ take row (drop (i * row) bytes) = is i (omega arith) in
    let place : i * row + row ≡ (i + 1) * row = omega arith in
    let later : rows_bytes width channels n (i + 1) ≡ take (n * row) (drop row (drop (i * row) bytes)) =
    rows_are width row bytes channels n (i + 1) (λ j lt. is j (omega arith)) ∙ ap (λ l. take (n * row) l) (sym (drop-drop row (i * row) bytes ∙ ap (λ p. drop p bytes) place)) in
    let e : suc n * row ≡ row + n * row = omega arith in
    rw e
    (ap (λ l. l ++ rows_bytes width channels n (i + 1)) first
    ∙ ap (λ l. take row (drop (i * row) bytes) ++ l) later
    ∙ sym (take-add row (n * row) (drop (i * row) bytes)))

-- ---- channels

first_samples : (bytes : List ℕ) (rows row width count : ℕ) (channels : List (List ℤ)) → AreFirst bytes rows row width count channels → 1 ≤ count → samples_each channels ≡ rows
first_samples bytes rows row width count channels are some = (are.each 0 (omega arith)).long

pub channels_are : (bytes : List ℕ) (rows row width count : ℕ) (channels : List (List ℤ)) → AreFirst bytes rows row width count channels → 1 ≤ count
    → row ≡ count * width → length bytes ≡ rows * row → rows ≡ length bytes / row → AreChannels bytes count width channels
channels_are bytes rows row width count channels are some wide whole many =
    let each : samples_each channels ≡ rows = first_samples bytes rows row width count channels are some in
    let one : (i : ℕ) → i < 0 + rows → row_bytes width channels i ≡ take row (drop (i * row) bytes) =
    (λ i lt. row_is width (i * row) bytes channels i (λ c below. (are.each c (omega (arith, are.many))).spelled i (omega arith))
    ∙ ap (λ n. take n (drop (i * row) bytes)) (ap (λ n. n * width) are.many ∙ sym wide)) in
    let none : zero * row ≡ 0 = omega arith in
    record {
      many = are.many;
      long = All-from_get_or (λ c. length c ≡ samples_each channels) channels [] (λ c lt. (are.each c (omega (arith, are.many))).long ∙ sym each);
      spelled = ap (λ n. rows_bytes width channels n 0) each ∙ rows_are width row bytes channels rows 0 one ∙ ap (λ p. take (rows * row) (drop p bytes)) none ∙ take_all (rows * row) bytes (omega arith);
      fits = All-from_get_or (λ c. All (FitsBits (8 * width)) c) channels [] (λ c lt. (are.each c (omega (arith, are.many))).fits);
      numbers = are.numbers ∙ (ap (λ n. channels_at bytes n row width count) many ∙ ap (λ r. channels_at bytes (length bytes / r) r width count) wide);
    }

-- ---- samples of a channel

pub no_samples : (bytes : List ℕ) (row start width : ℕ) → IsChannel bytes 0 row start width []
unfolding samples_at
no_samples bytes row start width = record { long = refl; spelled = λ i lt. absurd (omega arith); fits = All-nil (FitsBits (8 * width)); numbers = refl }

pub sample_more : (bytes : List ℕ) (n row start width : ℕ) (samples : List ℤ) (z : ℤ) → IsChannel bytes n row start width samples
    → z ≡ number_of (take width (drop (n * row + start) bytes)) → sample_bytes width z ≡ take width (drop (n * row + start) bytes) → FitsBits (8 * width) z
    → IsChannel bytes (n + 1) row start width (samples ++ z ∷ [])
unfolding samples_at
sample_more bytes n row start width samples z is number spelled fits = record {
  long = omega (arith, length_push samples z, is.long);
  spelled = below_more (λ i. sample_bytes width (get_or (samples ++ z ∷ []) i (pos 0)) ≡ take width (drop (i * row + start) bytes)) n
      (λ i lt. ap (sample_bytes width) (get_or_append_left samples (z ∷ []) (pos 0) i (omega (arith, is.long))) ∙ is.spelled i lt)
      (ap (sample_bytes width) (get_or_push samples z (pos 0) n is.long) ∙ spelled);
  fits = All-push (FitsBits (8 * width)) samples z is.fits fits;
  numbers = let e : n + 1 ≡ suc n = omega arith in rw e (ap (λ l. l ++ z ∷ []) is.numbers ∙ ap (λ x. samples_at bytes row start width n ++ x ∷ []) number);
}

-- one sample more of the rows of these bytes
pub sample_pushed : (bytes : List ℕ) (i rows row start width n : ℕ) (samples pushed : List ℤ) (z y : ℤ) → IsChannel bytes i row start width samples
    → i < rows → start + width ≤ row → length bytes ≡ rows * row → n ≡ width → z ≡ number_of (take n (drop (i * row + start) bytes))
    → sample_bytes (length (take n (drop (i * row + start) bytes))) z ≡ take n (drop (i * row + start) bytes)
    → FitsBits (8 * length (take n (drop (i * row + start) bytes))) z → y ≡ z → pushed ≡ samples ++ y ∷ []
    → IsChannel bytes (i + 1) row start width pushed
sample_pushed bytes i rows row start width n samples pushed z y is lt within whole e number spelled fits same push =
    let at = i * row + start in
    let below : row * (i + 1) ≤ row * rows = mul-le-mul_left row (omega arith) in
    let room : at + width ≤ length bytes = omega arith in
    let long : length (take n (drop at bytes)) ≡ width = length-take n (drop at bytes) ∙ (let h = length-drop at bytes in omega arith) in
    let more : sample_bytes width z ≡ take width (drop at bytes) = ap (λ k. sample_bytes k z) (sym long) ∙ (spelled ∙ ap (λ k. take k (drop at bytes)) e) in
    let here : IsChannel bytes (i + 1) row start width (samples ++ z ∷ []) = sample_more bytes i row start width samples z is (number ∙ ap (λ k. number_of (take k (drop at bytes))) e) more (subst (λ k. FitsBits (8 * k) z) long fits) in
    subst (λ l. IsChannel bytes (i + 1) row start width l) (sym (push ∙ ap (λ x. samples ++ x ∷ []) same)) here

-- ---- more rows

pub take_front : (bytes piece : List ℕ) (at n : ℕ) → at + n ≤ length bytes → take n (drop at (bytes ++ piece)) ≡ take n (drop at bytes)
take_front bytes piece at n few = ap (take n) (drop-append-le at bytes piece (omega (arith, few))) ∙ take-append-le n (drop at bytes) piece (let h = length-drop at bytes in omega arith)

pub samples_front : (bytes piece : List ℕ) (row start width n : ℕ) → start + width ≤ row → n * row ≤ length bytes → samples_at (bytes ++ piece) row start width n ≡ samples_at bytes row start width n
unfolding samples_at
samples_front bytes piece row start width zero within few = refl
samples_front bytes piece row start width (suc n) within few =
    let e : suc n * row ≡ n * row + row = omega arith in
    let at = n * row + start in
    ap (λ l. l ++ number_of (take width (drop at (bytes ++ piece))) ∷ []) (samples_front bytes piece row start width n within (omega arith))
    ∙ ap (λ t. samples_at bytes row start width n ++ number_of t ∷ []) (take_front bytes piece at width (omega arith))

-- the samples of whole rows are so too where more bytes stand after them
pub channel_front : (bytes piece : List ℕ) (rows row start width : ℕ) (samples : List ℤ) → length bytes ≡ rows * row → start + width ≤ row → IsChannel bytes rows row start width samples
    → IsChannel (bytes ++ piece) rows row start width samples
channel_front bytes piece rows row start width samples whole within is = record {
  long = is.long;
  spelled = λ i lt.
      let below : row * (i + 1) ≤ row * rows = mul-le-mul_left row (omega arith) in
      is.spelled i lt ∙ sym (take_front bytes piece (i * row + start) width (omega arith));
  fits = is.fits;
  numbers = is.numbers ∙ sym (samples_front bytes piece row start width rows within (omega arith));
}

pub samples_after_rows : (bytes piece : List ℕ) (before row start width n : ℕ) → length bytes ≡ before * row
    → samples_at (bytes ++ piece) row start width (before + n) ≡ samples_at (bytes ++ piece) row start width before ++ samples_at piece row start width n
unfolding samples_at
samples_after_rows bytes piece before row start width zero long =
    let none : before + zero ≡ before = omega arith in
    ap (samples_at (bytes ++ piece) row start width) none ∙ sym (append-nil (samples_at (bytes ++ piece) row start width before))
samples_after_rows bytes piece before row start width (suc n) long =
    let next : before + suc n ≡ suc (before + n) = omega arith in
    let at : (before + n) * row + start ≡ length bytes + (n * row + start) = omega (arith, long) in
    let here : drop ((before + n) * row + start) (bytes ++ piece) ≡ drop (n * row + start) piece = ap (λ k. drop k (bytes ++ piece)) at ∙ drop-append-add bytes piece (n * row + start) in
    let first = samples_at (bytes ++ piece) row start width before in
    ap (samples_at (bytes ++ piece) row start width) next
    ∙ ap (λ l. l ++ number_of (take width (drop ((before + n) * row + start) (bytes ++ piece))) ∷ []) (samples_after_rows bytes piece before row start width n long)
    ∙ ap (λ t. (first ++ samples_at piece row start width n) ++ number_of (take width t) ∷ []) here
    ∙ append_assoc first (samples_at piece row start width n) (number_of (take width (drop (n * row + start) piece)) ∷ [])

-- the samples of a piece after those of whole rows
pub channel_more : (bytes piece : List ℕ) (before rows row start width : ℕ) (old new : List ℤ) → length bytes ≡ before * row → start + width ≤ row → IsChannel bytes before row start width old → IsChannel piece rows row start width new
    → IsChannel (bytes ++ piece) (before + rows) row start width (old ++ new)
channel_more bytes piece before rows row start width old new long within was is =
    let front = channel_front bytes piece before row start width old long within was in
    record {
      long = omega (arith, length-append old new, was.long, is.long);
      spelled = λ i lt. elim (cases_lt i before) [
        | inl low ↦ ap (sample_bytes width) (get_or_append_left old new (pos 0) i (omega (arith, low, was.long))) ∙ front.spelled i low
        | inr over ↦
            let j : ℕ = i - before in
            let at : i ≡ length old + j = omega (arith, over, was.long) in
            let place : i * row + start ≡ length bytes + (j * row + start) = (let e : i ≡ before + j = omega (arith, over) in ap (λ k. k * row + start) e ∙ omega (arith, long)) in
            ap (λ k. sample_bytes width (get_or (old ++ new) k (pos 0))) at ∙ ap (sample_bytes width) (get_or-append-add old new j (pos 0)) ∙ is.spelled j (omega (arith, lt, over))
            ∙ ap (take width) (sym (ap (λ k. drop k (bytes ++ piece)) place ∙ drop-append-add bytes piece (j * row + start)))
      ];
      fits = All-append (FitsBits (8 * width)) old new was.fits is.fits;
      numbers = ap (λ l. l ++ new) front.numbers ∙ ap (λ l. samples_at (bytes ++ piece) row start width before ++ l) is.numbers ∙ sym (samples_after_rows bytes piece before row start width rows long);
    }

-- ---- more rows of each channel

-- the first n channels have the rows of a piece too
pub record HalfMore (bytes piece : List ℕ) (before rows count width channel : ℕ) (lists : List (List ℤ)) : Type 0 where
  pub many : length lists ≡ count
  pub done : (c : ℕ) → c < channel → IsChannel (bytes ++ piece) (before + rows) (count * width) (c * width) width (get_or lists c [])
  pub left : (c : ℕ) → channel ≤ c → c < count → IsChannel bytes before (count * width) (c * width) width (get_or lists c [])

pub half_none : (bytes piece : List ℕ) (before rows count width : ℕ) (lists : List (List ℤ)) → AreParts count width bytes before lists → HalfMore bytes piece before rows count width 0 lists
half_none bytes piece before rows count width lists are = record { many = are.many; done = λ c lt. absurd (omega arith); left = λ c over lt. are.each c lt }

pub half_more : (bytes piece : List ℕ) (before rows count width channel : ℕ) (lists : List (List ℤ)) (old new : List ℤ) → length bytes ≡ before * (count * width) → HalfMore bytes piece before rows count width channel lists → channel < count
    → old ≡ get_or lists channel [] → IsMore (IsPart (count * width) (channel * width) width) piece (count * width) rows old new → HalfMore bytes piece before rows count width (channel + 1) (set lists channel new)
half_more bytes piece before rows count width channel lists old new long half lt is more = record {
  many = length-set lists channel new ∙ half.many;
  done = below_more (λ c. IsChannel (bytes ++ piece) (before + rows) (count * width) (c * width) width (get_or (set lists channel new) c [])) channel
      (λ c low. subst (λ l. IsChannel (bytes ++ piece) (before + rows) (count * width) (c * width) width l) (sym (get_or-set_other lists channel c new [] (λ e. absurd (omega (arith, e, low))))) (half.done c low))
      (subst (λ l. IsChannel (bytes ++ piece) (before + rows) (count * width) (channel * width) width l) (sym (get_or-set_same lists channel new [] (omega (arith, lt, half.many))))
      (more bytes before long (subst (λ l. IsChannel bytes before (count * width) (channel * width) width l) (sym is) (half.left channel (omega arith) lt))));
  left = λ c over below. subst (λ l. IsChannel bytes before (count * width) (c * width) width l) (sym (get_or-set_other lists channel c new [] (λ e. absurd (omega (arith, e, over))))) (half.left c (omega (arith, over)) below);
}

pub half_all : (bytes piece : List ℕ) (before rows count width channel : ℕ) (lists : List (List ℤ)) → HalfMore bytes piece before rows count width channel lists → count ≤ channel → AreParts count width (bytes ++ piece) (before + rows) lists
half_all bytes piece before rows count width channel lists half all = record { many = half.many; each = λ c lt. half.done c (omega (arith, lt, all)) }

-- ---- all that was read

pub numbers_are : (bytes : List ℕ) (rows row width n : ℕ) (channels : List (List ℤ)) → n ≤ length channels → ((c : ℕ) → c < n → get_or channels c [] ≡ samples_at bytes row (c * width) width rows) → take n channels ≡ channels_at bytes rows row width n
unfolding channels_at
numbers_are bytes rows row width zero channels few is = refl
numbers_are bytes rows row width (suc n) channels few is =
    let e : n + 1 ≡ suc n = omega arith in
    ap (λ k. take k channels) (sym e) ∙ take_more channels n [] (omega arith)
    ∙ ap (λ l. l ++ get_or channels n [] ∷ []) (numbers_are bytes rows row width n channels (omega arith) (λ c lt. is c (omega arith)))
    ∙ ap (λ x. channels_at bytes rows row width n ++ x ∷ []) (is n (omega arith))

-- whole rows of a source's bytes were read, and the rest is still to come
pub record ReadSoFar (all coming : List ℕ) (count width : ℕ) (channels : List (List ℤ)) : Type 0 where
  pub bytes : List ℕ
  pub rows : ℕ
  pub whole : length bytes ≡ rows * (count * width)
  pub are : AreParts count width bytes rows channels
  pub rest : all ≡ bytes ++ coming

pub none_read : (all : List ℕ) (count width : ℕ) (channels : List (List ℤ)) → length channels ≡ count → ((c : ℕ) → get_or channels c [] ≡ []) → ReadSoFar all all count width channels
none_read all count width channels many none = record {
  bytes = [];
  rows = 0;
  whole = omega arith;
  are = record { many = many; each = λ c lt. subst (λ l. IsChannel [] 0 (count * width) (c * width) width l) (sym (none c)) (no_samples [] (count * width) (c * width) width) };
  rest = refl;
}

pub more_read : (all coming later piece : List ℕ) (count width rows : ℕ) (old new : List (List ℤ)) → ReadSoFar all coming count width old → coming ≡ piece ++ later → length piece ≡ rows * (count * width)
    → IsMore (AreParts count width) piece (count * width) rows old new → ReadSoFar all later count width new
more_read all coming later piece count width rows old new so is whole more = record {
  bytes = so.bytes ++ piece;
  rows = so.rows + rows;
  whole = omega (arith, length-append so.bytes piece, so.whole, whole);
  are = more so.bytes so.rows so.whole so.are;
  rest = so.rest ∙ ap (λ k. so.bytes ++ k) is ∙ sym (append_assoc so.bytes piece later);
}

pub all_read : (all coming : List ℕ) (count width : ℕ) (channels : List (List ℤ)) → ReadSoFar all coming count width channels → coming ≡ [] → 1 ≤ count → 1 ≤ width → (length all % (count * width) ≡ 0) × AreChannels all count width channels
all_read all coming count width channels so end some wide =
    let row = count * width in
    let is : all ≡ so.bytes = so.rest ∙ ap (λ k. so.bytes ++ k) end ∙ append-nil so.bytes in
    let long : length all ≡ so.rows * row = ap length is ∙ so.whole in
    let one : 0 < row = mul-pos some wide in
    let rows : so.rows ≡ length all / row = sym (ap (λ n. n / row) long ∙ mul-div_left so.rows one) in
    let first : AreFirst all so.rows row width count channels = record {
      many = so.are.many;
      each = λ c lt. subst (λ b. IsChannel b so.rows row (c * width) width (get_or channels c [])) (sym is) (so.are.each c lt);
      numbers = sym (take_all count channels (omega (arith, so.are.many))) ∙ numbers_are all so.rows row width count channels (omega (arith, so.are.many)) (λ c lt. (so.are.each c lt).numbers ∙ ap (λ b. samples_at b row (c * width) width so.rows) (sym is));
    } in
    (ap (λ n. n % row) long ∙ mul-mod_left so.rows row, channels_are all so.rows row width count channels first some refl long rows)

-- the last row is not whole
pub part_read : (all coming piece later : List ℕ) (count width n : ℕ) (channels : List (List ℤ)) → ReadSoFar all coming count width channels → coming ≡ piece ++ later → later ≡ [] → length piece ≡ n → n % (count * width) ≢ 0 → length all % (count * width) ≢ 0
part_read all coming piece later count width n channels so is end long part =
    let row = count * width in
    let rest : length coming ≡ n = ap length (is ∙ ap (λ k. piece ++ k) end ∙ append-nil piece) ∙ long in
    let whole : length all ≡ so.rows * row + n = ap length so.rest ∙ length-append so.bytes coming ∙ omega (arith, so.whole, rest) in
    λ none. part (sym (mul-add-mod_self_right so.rows row n) ∙ ap (λ k. k % row) (sym whole) ∙ none)

-- a piece that is not of whole rows does not fill the places, which are
pub not_full : (count row rows : ℕ) → count ≤ rows * row → count % row ≢ 0 → count < rows * row
not_full count row rows few part = elim (cases_lt count (rows * row)) [
  | inl lt ↦ lt
  | inr over ↦ let same : rows * row ≡ count = omega (arith, few, over) in absurd (part (ap (λ n. n % row) (sym same) ∙ mul-mod_left rows row))
]

pub whole_rows : (count row : ℕ) → count % row ≡ 0 → count ≡ count / row * row
whole_rows count row whole = let parts = mod-add-div' count row in omega (arith, parts, whole)

-- a vector whose places were lent has just what they hold
pub whole_back : {X : Type 0} (n : ℕ) (new old : List X) → length new ≡ length old → n ≡ length old → take n (new ++ drop (length new) old) ≡ new
whole_back n new old same is =
    let none : drop (length new) old ≡ [] = drop_none old (length new) (omega (arith, same)) in
    ap (λ l. take n (new ++ l)) none ∙ ap (take n) (append-nil new) ∙ take_all n new (omega (arith, same, is))
  where
    drop_none : {X : Type 0} (xs : List X) (n : ℕ) → length xs ≤ n → drop n xs ≡ []
    drop_none [] zero h = refl
    drop_none [] (suc n) h = refl
    drop_none (x ∷ xs) zero h = absurd (omega (arith, h))
    drop_none (x ∷ xs) (suc n) h = drop_none xs n (omega (arith, h))

-- ---- samples of a format

-- the channels of these bytes, under the profile and the format's rate and bits
pub raw_is : (profile : Profile) (format : RawFormat) (raw bytes : List ℕ) (a : Sound) (channels : List (List ℤ)) → a ≡ record { profile = profile; rate = format.rate; bits = format.bits; channels = channels }
    → IsSound a → AreChannels bytes format.channels (sample_width format.bits) channels → bytes ≡ raw → IsRaw profile format raw a
unfolding sound_message
raw_is profile format raw bytes a channels is sound are same =
    let listed : a.channels ≡ channels = ap (λ (s : Sound). s.channels) is in
    let depth : a.bits ≡ format.bits = ap (λ (s : Sound). s.bits) is in
    record {
      profiled = ap (λ (s : Sound). s.profile) is;
      rate = ap (λ (s : Sound). s.rate) is;
      bits = depth;
      channels = ap length listed ∙ are.many;
      sound = sound;
      samples = ap (λ d. rows_bytes (sample_width d) a.channels (samples_each a.channels) 0) depth
          ∙ (ap (λ l. rows_bytes (sample_width format.bits) l (samples_each l) 0) listed ∙ (are.spelled ∙ same));
    }
