-- Steps of writing a WAV file.
use Rattle.std.proofs.Common.{◌≡◌, ◌≤◌, ◌<◌, ◌+◌, ◌*◌, ◌-◌, ◌/◌, ◌%◌, ◌^◌, ℕ, zero, suc, ℤ, pos, Bool, true, false, cond, Option, Some, None, List, [], ◌∷◌, ◌++◌, length, take, drop, map, get_or, refl, ap, sym, inl, inr, ◌∙◌, append_assoc, arith, slice_set, length-append}
use Rattle.std.specs.Prelude.{nat_lt, nat_eq, not, slice_index_or, Vec}
use Rattle.std.proofs.Math.Nat.{add-mul, add-mul-div_right, mul-div_cancel, mul-mod_left}
use Rattle.std.specs.Int.{to_le_bytes, cast_unsigned, w32}
use Rattle.std.proofs.lemmas.Nat.{div-add-mod'}
use Rattle.std.specs.Global.{Global}
use Rattle.std.proofs.lemmas.Bool.{ltb-true, ltb-false, and_parts, eqb-false, eq-eqb, ne_eqb, cases_lt}
use Rattle.std.proofs.lemmas.List.{take_more, map-append, append-nil, length-take-le}
use Rattle.flac_bits.specs.Forms as forms
use Rattle.flac_native.specs.Message.{sample_width, sample_bytes, row_bytes, rows_bytes}
use Rattle.flac_native.proofs.Messages.{rows_split}
use Rattle.flac_wave.specs.Wave.{all_of}
use Rattle.flac_wave.specs.Shift.{raised, AreBytes}
use Rattle.flac_wave.proofs.Shifts.{raised_append}
use Rattle.flac_cli.specs.Waves.{turned, wave_samples, high_samples, file_samples, has_room}
use Rattle.flac_cli.specs.Speakers.{hex_value, hex_after}
use Rattle.flac_cli.specs.inner.Waving.{Holds}
use Rattle.flac_wave.specs.Plain.{CanBeWritten, MaskFits}
use Rattle.flac_wave.specs.declared.format.WaveFormat.{WaveFormat}
use Rattle.std.proofs.lemmas.List.{at_drop_more, at_drop_all}

pub map_taken : {A B : Type 0} (f : A → B) (n : ℕ) (xs : List A) → map f (take n xs) ≡ take n (map f xs)
map_taken f zero xs = refl
map_taken f (suc n) [] = refl
map_taken f (suc n) (x ∷ xs) = ap (λ l. f x ∷ l) (map_taken f n xs)

pub map_dropped : {A B : Type 0} (f : A → B) (n : ℕ) (xs : List A) → map f (drop n xs) ≡ drop n (map f xs)
map_dropped f zero xs = refl
map_dropped f (suc n) [] = refl
map_dropped f (suc n) (x ∷ xs) = map_dropped f n xs

-- the pieces of a file that is kept, or else those of a plain one
pub none_kept : {A : Type 0} (kept : Bool) (file plain : A) → kept ≡ false → plain ≡ cond kept file plain
none_kept kept file plain e = ap (λ b. cond b file plain) (sym e)

pub some_kept : {A : Type 0} (kept : Bool) (file plain : A) → kept ≡ true → file ≡ cond kept file plain
some_kept kept file plain e = ap (λ b. cond b file plain) (sym e)

-- one byte more is turned
pub turn_next : (xs : List ℕ) (i : ℕ) → i < length xs → slice_set (map turned (take i xs) ++ drop i xs) i (turned (get_or (map turned (take i xs) ++ drop i xs) i 0)) ≡ map turned (take (suc i) xs) ++ drop (suc i) xs
turn_next [] i within = absurd (omega (arith, within))
turn_next (x ∷ xs) zero within = refl
turn_next (x ∷ xs) (suc i) within = ap (λ l. turned x ∷ l) (turn_next xs i (omega (arith, within)))

-- one piece more is joined
pub joined_push : (ps : List (List ℕ)) (p : List ℕ) → all_of (ps ++ p ∷ []) ≡ all_of ps ++ p
joined_push [] p = append-nil p
joined_push (q ∷ ps) p = ap (λ l. q ++ l) (joined_push ps p) ∙ sym (append_assoc q (all_of ps) p)

abbrev pub items : Vec ℕ Global → List ℕ
items v = v.items

pub joined_next : (ps : List (Vec ℕ Global)) (i : ℕ) (p : Vec ℕ Global) → i < length ps → p ≡ get_or ps i p → all_of (map items (take (i + 1) ps)) ≡ all_of (map items (take i ps)) ++ items p
joined_next ps i p within is =
    ap (λ l. all_of (map items l)) (take_more ps i p within) ∙ (ap all_of (map-append items (take i ps) (get_or ps i p ∷ []))
    ∙ (joined_push (map items (take i ps)) (items (get_or ps i p)) ∙ ap (λ v. all_of (map items (take i ps)) ++ items v) (sym is)))

-- a count that did not fall, and then rose or did not fall
pub kept_more : (a b c : ℕ) → a ≤ b → b ≤ c → a ≤ c
kept_more a b c first then = omega (arith, first, then)

pub rises_later : (a b c : ℕ) → a ≤ b → b < c → a < c
rises_later a b c first then = omega (arith, first, then)

-- samples in two parts
append_by : (b : Bool) (xs ys : List ℕ) → cond b (map turned (xs ++ ys)) (xs ++ ys) ≡ cond b (map turned xs) xs ++ cond b (map turned ys) ys
append_by true xs ys = map-append turned xs ys
append_by false xs ys = refl

pub wave_append : (depth : ℕ) (xs ys : List ℕ) → wave_samples depth (xs ++ ys) ≡ wave_samples depth xs ++ wave_samples depth ys
wave_append depth xs ys = append_by (nat_lt depth 9) xs ys

none_by : (b : Bool) → cond b (map turned []) [] ≡ []
none_by true = refl
none_by false = refl

pub wave_none : (depth : ℕ) (xs : List ℕ) → xs ≡ [] → wave_samples depth xs ≡ []
wave_none depth xs none = ap (λ l. wave_samples depth l) none ∙ none_by (nat_lt depth 9)

-- ---- as the highest bits

-- whole samples of n bytes
abbrev pub Whole : (width : ℕ) → List ℕ → Type 0
Whole width xs = (n : ℕ) × (length xs ≡ n * width)

pub whole_append : (width : ℕ) (xs ys : List ℕ) → Whole width xs → Whole width ys → Whole width (xs ++ ys)
whole_append width xs ys a b = (a.0 + b.0, length-append xs ys ∙ (ap (λ k. k + length ys) a.1 ∙ (ap (λ k. a.0 * width + k) b.1 ∙ sym (add-mul a.0 b.0 width))))

pub whole_rest : (width : ℕ) (xs : List ℕ) → Whole width xs → length xs % width ≡ 0
whole_rest width xs a = ap (λ k. k % width) a.1 ∙ mul-mod_left a.0 width

pub rest_whole : (width : ℕ) (xs : List ℕ) → length xs % width ≡ 0 → Whole width xs
rest_whole width xs none = (length xs / width, let e = div-add-mod' (length xs) width in omega (arith, e, none))

-- has_room is a test
not_is : (b : Bool) → not b ≡ true → b ≡ false
not_is true e = absurd cc
not_is false e = refl

pub room_holds : (wide depth : ℕ) → has_room wide depth ≡ true → Holds wide depth
room_holds wide depth e =
    let a = and_parts (nat_lt wide 5) _ e in
    let b = and_parts (nat_lt 0 depth) _ a.1 in
    let few = ltb-true wide 5 a.0 in
    let some = ltb-true 0 depth b.0 in
    record { few = omega (arith, few); room = ltb-false (8 * wide) depth (not_is (nat_lt (8 * wide) depth) b.1); some = λ any. some }

some_width : (wide depth : ℕ) → Holds wide depth → nat_eq depth (8 * wide) ≡ false → 0 < sample_width depth
some_width wide depth h e = elim (cases_lt 0 depth) [
  | inl some ↦ omega (arith, some)
  | inr none ↦ elim (cases_lt 0 wide) [ inl wider ↦ let some = h.some wider in omega (arith, some, none) | inr thin ↦ absurd (eqb-false depth (8 * wide) e (omega (arith, none, thin))) ]
]

-- n samples
count_of : (w n : ℕ) (xs : List ℕ) → 0 < w → length xs ≡ n * w → length xs / w ≡ n
count_of w n xs some long = ap (λ k. k / w) long ∙ mul-div_cancel n some

count_both : (w n : ℕ) (xs ys : List ℕ) → 0 < w → length xs ≡ n * w → length (xs ++ ys) / w ≡ n + length ys / w
count_both w n xs ys some long =
    let e : length (xs ++ ys) ≡ length ys + n * w = length-append xs ys ∙ omega (arith, long) in
    ap (λ k. k / w) e ∙ (add-mul-div_right (length ys) n some ∙ omega arith)

high_by : (b : Bool) (w v gap n : ℕ) (xs ys : List ℕ) → (b ≡ false → 0 < w) → length xs ≡ n * w
    → cond b (xs ++ ys) (raised w v gap (length (xs ++ ys) / w) (xs ++ ys)) ≡ cond b xs (raised w v gap (length xs / w) xs) ++ cond b ys (raised w v gap (length ys / w) ys)
high_by true w v gap n xs ys some long = refl
high_by false w v gap n xs ys some long =
    ap (λ k. raised w v gap k (xs ++ ys)) (count_both w n xs ys (some refl) long)
    ∙ (raised_append w v gap n (length ys / w) xs ys long ∙ ap (λ k. raised w v gap k xs ++ raised w v gap (length ys / w) ys) (sym (count_of w n xs (some refl) long)))

high_none_by : (b : Bool) (w v gap : ℕ) → (b ≡ false → 0 < w) → cond b [] (raised w v gap (length {A = ℕ} [] / w) []) ≡ []
high_none_by true w v gap some = refl
high_none_by false w v gap some = ap (λ k. raised w v gap k []) (count_of w 0 [] (some refl) (omega arith))

-- of all bits of the file they stay
pub high_same : (wide depth : ℕ) (xs : List ℕ) → depth ≡ 8 * wide → high_samples wide depth xs ≡ xs
high_same wide depth xs same = ap (λ b. cond b xs (raised (sample_width depth) wide (8 * wide - depth) (length xs / sample_width depth) xs)) (eq-eqb depth (8 * wide) same)

pub high_other : (wide depth : ℕ) (xs : List ℕ) → (depth ≡ 8 * wide → ⊥) → high_samples wide depth xs ≡ raised (sample_width depth) wide (8 * wide - depth) (length xs / sample_width depth) xs
high_other wide depth xs other = ap (λ b. cond b xs (raised (sample_width depth) wide (8 * wide - depth) (length xs / sample_width depth) xs)) (ne_eqb depth (8 * wide) other)

pub file_append : (wide depth : ℕ) (xs ys : List ℕ) → Holds wide depth → Whole (sample_width depth) xs → file_samples wide depth (xs ++ ys) ≡ file_samples wide depth xs ++ file_samples wide depth ys
file_append wide depth xs ys h a =
    ap (λ l. wave_samples (8 * wide) l) (high_by (nat_eq depth (8 * wide)) (sample_width depth) wide (8 * wide - depth) a.0 xs ys (some_width wide depth h) a.1)
    ∙ wave_append (8 * wide) (high_samples wide depth xs) (high_samples wide depth ys)

pub file_none : (wide depth : ℕ) (xs : List ℕ) → Holds wide depth → xs ≡ [] → file_samples wide depth xs ≡ []
file_none wide depth xs h none =
    ap (λ l. file_samples wide depth l) none
    ∙ (ap (λ l. wave_samples (8 * wide) l) (high_none_by (nat_eq depth (8 * wide)) (sample_width depth) wide (8 * wide - depth) (some_width wide depth h)) ∙ wave_none (8 * wide) [] refl)

-- rows have whole samples
row_whole : (w : ℕ) (channels : List (List ℤ)) (i : ℕ) → w ≤ 4 → Whole w (row_bytes w channels i)
unfolding row_bytes
row_whole w [] i few = (0, omega arith)
row_whole w (c ∷ cs) i few =
    let z = cast_unsigned w32 (slice_index_or c i (pos 0)) in
    whole_append w (sample_bytes w (slice_index_or c i (pos 0))) (row_bytes w cs i) (1, let e = length-take-le w (to_le_bytes w32 z) (omega (arith, few)) in omega (arith, e)) (row_whole w cs i few)

pub rows_whole : (w : ℕ) (channels : List (List ℤ)) (n i : ℕ) → w ≤ 4 → Whole w (rows_bytes w channels n i)
unfolding rows_bytes
rows_whole w channels zero i few = (0, omega arith)
rows_whole w channels (suc n) i few = whole_append w (row_bytes w channels i) (rows_bytes w channels n (i + 1)) (row_whole w channels i few) (rows_whole w channels n (i + 1) few)

-- k rows more
file_grown : (wide depth : ℕ) (channels : List (List ℤ)) (n k : ℕ) → Holds wide depth → depth ≤ 32
    → file_samples wide depth (rows_bytes (sample_width depth) channels (n + k) 0) ≡ file_samples wide depth (rows_bytes (sample_width depth) channels n 0) ++ file_samples wide depth (rows_bytes (sample_width depth) channels k n)
file_grown wide depth channels n k h small =
    let width = sample_width depth in
    let e : 0 + n ≡ n = omega arith in
    let grown : rows_bytes width channels (n + k) 0 ≡ rows_bytes width channels n 0 ++ rows_bytes width channels k n = rows_split width channels n k 0 ∙ ap (λ j. rows_bytes width channels n 0 ++ rows_bytes width channels k j) e in
    ap (λ l. file_samples wide depth l) grown ∙ file_append wide depth (rows_bytes width channels n 0) (rows_bytes width channels k n) h (rows_whole width channels n 0 (omega (arith, small)))

-- n rows were sent; k more are sent
pub rows_more : (wide depth : ℕ) (channels : List (List ℤ)) (n k : ℕ) (whole sent later piece : List ℕ) → Holds wide depth → depth ≤ 32
    → sent ≡ whole ++ file_samples wide depth (rows_bytes (sample_width depth) channels n 0) → piece ≡ rows_bytes (sample_width depth) channels k n → later ≡ sent ++ file_samples wide depth piece
    → later ≡ whole ++ file_samples wide depth (rows_bytes (sample_width depth) channels (n + k) 0)
rows_more wide depth channels n k whole sent later piece h small before put more =
    let all = rows_bytes (sample_width depth) channels in
    more ∙ (ap (λ l. l ++ file_samples wide depth piece) before ∙ (append_assoc whole (file_samples wide depth (all n 0)) (file_samples wide depth piece)
    ∙ ap (λ l. whole ++ l) (ap (λ l. file_samples wide depth (all n 0) ++ file_samples wide depth l) put ∙ sym (file_grown wide depth channels n k h small))))

-- their number is odd or even
pub odd_none : (o n : ℕ) → o < 2 → n ≡ 0 → o ≡ (o + n) % 2
odd_none o n few none = omega (arith, few, none)

odd_sum : (o b x y : ℕ) → o ≡ (b + x) % 2 → (o + y % 2) % 2 ≡ (b + (x + y)) % 2
odd_sum o b x y is = omega (arith, is)

pub odd_more : (wide depth : ℕ) (channels : List (List ℤ)) (n k o b end : ℕ) (piece : List ℕ) → Holds wide depth → depth ≤ 32 → o ≡ (b + length (file_samples wide depth (rows_bytes (sample_width depth) channels n 0))) % 2
    → piece ≡ rows_bytes (sample_width depth) channels k n → end ≡ length (file_samples wide depth piece)
    → (o + end % 2) % 2 ≡ (b + length (file_samples wide depth (rows_bytes (sample_width depth) channels (n + k) 0))) % 2
odd_more wide depth channels n k o b end piece h small is put long =
    let all = rows_bytes (sample_width depth) channels in
    odd_sum o b (length (file_samples wide depth (all n 0))) end is
    ∙ ap (λ m. (b + m) % 2) (ap (λ m. length (file_samples wide depth (all n 0)) + m) (long ∙ ap (λ l. length (file_samples wide depth l)) put)
    ∙ (sym (length-append (file_samples wide depth (all n 0)) (file_samples wide depth (all k n))) ∙ ap length (sym (file_grown wide depth channels n k h small))))

-- bytes, as the definitions of WAV files say it
pub are_wave_bytes : (xs : List ℕ) → forms.AreBytes xs → AreBytes xs
are_wave_bytes [] fit = tt
are_wave_bytes (x ∷ xs) fit = (omega (arith, fit.0), are_wave_bytes xs fit.1)

-- a format that can be written can be for any speakers
mask_fits : (valid bits : ℕ) (o : Option ℕ) (m : ℕ) → bits < 33 → MaskFits valid bits o → m < 4294967296 → MaskFits valid bits (Some m)
mask_fits valid bits None m few fits small = (omega (arith, few, fits), small)
mask_fits valid bits (Some k) m few fits small = (fits.0, small)

pub speakers_written : (f : WaveFormat) (m : ℕ) → CanBeWritten f → m < 4294967296 → CanBeWritten (record f { mask = Some m })
speakers_written f m w small = let r = w.range in record {
  range = record { channels = r.channels; few = r.few; bits = r.bits; narrow = r.narrow };
  rate = w.rate;
  fast = w.fast;
  mask = mask_fits f.valid f.bits f.mask m r.narrow w.mask small;
}

-- one hexadecimal digit more
pub hex_next : (ds : List ℕ) (i n d v : ℕ) → i < length ds → get_or ds i 0 ≡ d → hex_value d ≡ Some v → hex_after n (drop i ds) ≡ hex_after ((n * 16 + v) % 2 ^ 32) (drop (i + 1) ds)
unfolding hex_after
hex_next ds i n d v within is value = at_drop_more (hex_after n) ds i 0 within ∙ (rw is (rw value refl))

pub hex_none : (ds : List ℕ) (i n d : ℕ) → i < length ds → get_or ds i 0 ≡ d → hex_value d ≡ None → hex_after n (drop i ds) ≡ None
unfolding hex_after
hex_none ds i n d within is value = at_drop_more (hex_after n) ds i 0 within ∙ (rw is (rw value refl))

pub hex_end : (ds : List ℕ) (i n : ℕ) → length ds ≤ i → hex_after n (drop i ds) ≡ Some n
unfolding hex_after
hex_end ds i n end = at_drop_all (hex_after n) ds i end
