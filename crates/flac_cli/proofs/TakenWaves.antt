-- The samples of WAV files, as they are taken.
use Rattle.std.proofs.Common.{◌≡◌, ◌≢◌, ◌≤◌, ◌<◌, ◌+◌, ◌*◌, ◌-◌, ◌/◌, ◌%◌, ◌^◌, ◌&&◌, ℕ, zero, suc, ℤ, pos, Bool, true, false, cond, Option, Some, None, Result, Ok, Err, IfOk, IfErr, OnOk, List, [], ◌∷◌, ◌++◌, length, take, map, get_or, refl, ap, sym, ◌∙◌, subst, inl, inr, arith, length-append}
use Rattle.std.specs.Prelude.{nat_lt, nat_eq, not, slice_index_or, is_some, IfSome, Vec}
use Rattle.std.specs.Global.{Global}
use Rattle.std.specs.Int.{to_le_bytes, cast_unsigned, w32, bytes_low_first}
use Rattle.std.proofs.Math.Nat.{mod-lt, mul_assoc, mul_comm, add-mul, mul-mod_left, mul-div_cancel}
use Rattle.std.proofs.lemmas.Nat.{div-add-mod'}
use Rattle.std.proofs.lemmas.Bool.{eq-eqb, ne_eqb, eqb-true}
use Rattle.std.proofs.lemmas.List.{length-take-le, length-map}
use Rattle.flac_native.specs.Message.{sample_width, sample_bytes, row_bytes, rows_bytes}
use Rattle.flac_frame.specs.Audio.{samples_each}
use Rattle.flac_wave.specs.Format.{IsInRange, row_of}
use Rattle.flac_wave.specs.Shift.{lowered, AreBytes, wave_width_of, depth_in}
use Rattle.flac_wave.specs.declared.format.WaveFormat.{WaveFormat}
use Rattle.flac_wave.proofs.Shifts.{lowered_long, depth_cases, stated_some}
use Rattle.flac_cli.specs.Waves.{turned, wave_samples, low_samples, stream_samples, contents}
use Rattle.flac_raw.specs.Reading.{AreChannels}
use Rattle.flac_cli.specs.inner.WaveSamples.{AreTaken, IsTaken, IsPart, states_none, IsJudged, IsSamplesError, samples_fault}
use Rattle.flac_cli.specs.declared.wave_samples.WaveSamples.{WaveSamples}
use Rattle.flac_cli.specs.declared.wave_file.WaveFile.{WaveFile}
use Rattle.flac_wave.specs.Chunks.{begins_chunk, is_unstated, size_in}
use Rattle.flac_wave.specs.Front.{BeginsWith, front_fault, are_whole, rest_fault}
use Rattle.flac_wave.specs.Parts.{given, beyond, is_cut}
use Rattle.flac_wave.specs.Wave.{IsWave, IsErrorOf, IsNoWave, ArePiecesBy, begins_zero}
use Rattle.flac_wave.specs.declared.front.WaveFront.{WaveFront}
use Rattle.flac_wave.specs.declared.waves.WaveError.{WaveError}
use Rattle.flac_wave.specs.declared.waves.WaveError.TheVariants as error
use Rattle.flac_wave.specs.declared.why.WaveWhy.TheVariants.{DataUnstated}
use Rattle.flac_wave.proofs.Fronts.{front_file, front_none}

-- ---- bytes

pub low_small : (i n x : ℕ) → AreBytes (bytes_low_first i n x)
low_small i zero x = tt
low_small zero (suc n) x = (mod-lt x {m = 256} (omega arith), low_small 1 n x)
low_small (suc i) (suc n) x = (mod-lt (x / 256 ^ suc i) {m = 256} (omega arith), low_small (suc (suc i)) n x)

pub small_front : (n : ℕ) (bs : List ℕ) → AreBytes bs → AreBytes (take n bs)
small_front zero [] h = tt
small_front zero (b ∷ bs) h = tt
small_front (suc n) [] h = tt
small_front (suc n) (b ∷ bs) h = (h.0, small_front n bs h.1)

pub small_both : (xs ys : List ℕ) → AreBytes xs → AreBytes ys → AreBytes (xs ++ ys)
small_both [] ys h k = k
small_both (x ∷ xs) ys h k = (h.0, small_both xs ys h.1 k)

-- ---- lengths

sample_long : (w : ℕ) (z : ℤ) → w ≤ 4 → length (sample_bytes w z) ≡ w
sample_long w z few = length-take-le w (to_le_bytes w32 (cast_unsigned w32 z)) (omega (arith, few))

row_long : (w : ℕ) (channels : List (List ℤ)) (i : ℕ) → w ≤ 4 → length (row_bytes w channels i) ≡ length channels * w
unfolding row_bytes
row_long w [] i few = omega arith
row_long w (c ∷ cs) i few =
    let one = sample_long w (slice_index_or c i (pos 0)) few in
    let more = row_long w cs i few in
    let e : suc (length cs) * w ≡ w + length cs * w = omega arith in
    length-append (sample_bytes w (slice_index_or c i (pos 0))) (row_bytes w cs i) ∙ omega (arith, one, more, e)

rows_long : (w : ℕ) (channels : List (List ℤ)) (n i : ℕ) → w ≤ 4 → length (rows_bytes w channels n i) ≡ n * (length channels * w)
unfolding rows_bytes
rows_long w channels zero i few = omega arith
rows_long w channels (suc n) i few =
    let row = length channels * w in
    let one = row_long w channels i few in
    let more = rows_long w channels n (i + 1) few in
    let e : suc n * row ≡ row + n * row = omega arith in
    length-append (row_bytes w channels i) (rows_bytes w channels n (i + 1)) ∙ omega (arith, one, more, e)

module _ (bytes : List ℕ) (count width : ℕ) (channels : List (List ℤ)) (are : AreChannels bytes count width channels) where
  pub channels_long : width ≤ 4 → length bytes ≡ samples_each channels * (count * width)
  channels_long few = ap length (sym are.spelled) ∙ (rows_long width channels (samples_each channels) 0 few ∙ ap (λ k. samples_each channels * (k * width)) are.many)

-- ---- odd numbers

even_left : (c m n : ℕ) → m ≡ c * 2 → m * n % 2 ≡ 0
even_left c m n e =
    let f : m * n ≡ n * c * 2 = ap (λ k. k * n) e ∙ (mul_comm (c * 2) n ∙ sym (mul_assoc n c 2)) in
    ap (λ k. k % 2) f ∙ mul-mod_left (n * c) 2

even_right : (d m n : ℕ) → n ≡ d * 2 → m * n % 2 ≡ 0
even_right d m n e =
    let f : m * n ≡ m * d * 2 = ap (λ k. m * k) e ∙ sym (mul_assoc m d 2) in
    ap (λ k. k % 2) f ∙ mul-mod_left (m * d) 2

odd_both : (c d m n : ℕ) → m ≡ c * 2 + 1 → n ≡ d * 2 + 1 → m * n % 2 ≡ 0 → ⊥
odd_both c d m n e h z =
    let f : m * n ≡ c * 2 * n + 1 * n = ap (λ k. k * n) e ∙ add-mul (c * 2) 1 n in
    let g : c * 2 * n ≡ n * c * 2 = mul_comm (c * 2) n ∙ sym (mul_assoc n c 2) in
    omega (arith, f, g, h, z)

both_by : (m n a b : ℕ) → m % 2 ≡ a → n % 2 ≡ b → not (nat_eq a 1 && nat_eq b 1) ≡ nat_eq (m * n % 2) 0
both_by m n zero b ea eb = sym (eq-eqb (m * n % 2) 0 (even_left (m / 2) m n (let d = div-add-mod' m 2 in omega (arith, d, ea))))
both_by m n (suc zero) zero ea eb = sym (eq-eqb (m * n % 2) 0 (even_right (n / 2) m n (let d = div-add-mod' n 2 in omega (arith, d, eb))))
both_by m n (suc zero) (suc zero) ea eb =
    sym (ne_eqb (m * n % 2) 0 (odd_both (m / 2) (n / 2) m n (let d = div-add-mod' m 2 in omega (arith, d, ea)) (let d = div-add-mod' n 2 in omega (arith, d, eb))))
both_by m n (suc zero) (suc (suc b)) ea eb = absurd (let l = mod-lt n {m = 2} (omega arith) in omega (arith, l, eb))
both_by m n (suc (suc a)) b ea eb = absurd (let l = mod-lt m {m = 2} (omega arith) in omega (arith, l, ea))

pub both_odd : (m n : ℕ) (b : Bool) → b ≡ (nat_eq (m % 2) 1 && nat_eq (n % 2) 1) → not b ≡ nat_eq (m * n % 2) 0
both_odd m n b is = ap not is ∙ both_by m n (m % 2) (n % 2) refl refl

pub none_odd : (m n : ℕ) → m ≡ 0 → true ≡ nat_eq (m * n % 2) 0
none_odd m n none = sym (eq-eqb (m * n % 2) 0 (even_left 0 m n (omega (arith, none))))

-- ---- how many bytes they have

pub width_of_all : (w : ℕ) → (8 * w + 7) / 8 ≡ w
width_of_all w = omega arith

pub depth_fits : (f : WaveFormat) (xs : List ℕ) → IsInRange f → (0 < depth_in f xs) × (depth_in f xs ≤ 8 * wave_width_of f)
depth_fits f xs r = elim (depth_cases f xs) [
  | inl all ↦ let some = r.bits in (omega (arith, all, some), omega (arith, all))
  | inr n ↦ let some = stated_some (depth_in f xs) n.stated in let few = n.few in (omega (arith, some), omega (arith, few))
]

pub wave_long : (depth : ℕ) (xs : List ℕ) → length (wave_samples depth xs) ≡ length xs
wave_long depth xs = by_test (nat_lt depth 9)
  where
    by_test : (b : Bool) → length (cond b (map turned xs) xs) ≡ length xs
    by_test true = length-map xs turned
    by_test false = refl

low_long : (wide depth : ℕ) (xs : List ℕ) → 0 < wide → length xs % wide ≡ 0 → length (low_samples wide depth xs) ≡ length xs / wide * sample_width depth
low_long wide depth xs some whole = by_depth (nat_eq depth (8 * wide)) refl
  where
    low : List ℕ
    low = lowered wide (sample_width depth) (8 * wide - depth) (length xs / wide) xs

    by_depth : (b : Bool) → nat_eq depth (8 * wide) ≡ b → length (cond b xs low) ≡ length xs / wide * sample_width depth
    by_depth true e =
        let all = eqb-true depth (8 * wide) e in
        let same : sample_width depth ≡ wide = ap sample_width all ∙ width_of_all wide in
        let d = div-add-mod' (length xs) wide in
        let back : length xs ≡ length xs / wide * wide = omega (arith, d, whole) in
        back ∙ ap (λ w. length xs / wide * w) (sym same)
    by_depth false e = lowered_long wide (sample_width depth) (8 * wide - depth) (length xs / wide) xs

-- and those of a stream
pub stream_whole : (count wide depth : ℕ) (xs : List ℕ) → 0 < wide → length xs % (count * wide) ≡ 0 → length (stream_samples wide depth xs) % (count * sample_width depth) ≡ 0
stream_whole count wide depth xs some whole =
    let ys = wave_samples (8 * wide) xs in
    let same = wave_long (8 * wide) xs in
    let w = sample_width depth in
    let k = length xs / (count * wide) in
    let d = div-add-mod' (length xs) (count * wide) in
    let e : length ys ≡ k * count * wide = same ∙ omega (arith, d, whole) in
    let part : length ys % wide ≡ 0 = ap (λ n. n % wide) e ∙ mul-mod_left (k * count) wide in
    let many : length ys / wide ≡ k * count = ap (λ n. n / wide) e ∙ mul-div_cancel (k * count) some in
    let f : length (low_samples wide depth ys) ≡ k * (count * w) = low_long wide depth ys some part ∙ (ap (λ n. n * w) many ∙ mul_assoc k count w) in
    ap (λ n. n % (count * w)) f ∙ mul-mod_left k (count * w)

-- ---- what is taken

-- the samples of each channel
abbrev pub lists : Vec (Vec ℤ Global) Global → List (List ℤ)
lists v = map (λ (c : Vec ℤ Global). c.items) v.items

pub narrow_width : (bits : ℕ) → bits < 33 → (bits + 7) / 8 ≤ 4
narrow_width bits few = omega (arith, few)

pub some_width : (bits : ℕ) → 0 < bits → 0 < (bits + 7) / 8
some_width bits some = omega (arith, some)

-- ---- how many bytes the samples have, by how many there are

pub rows_in : (channels : List (Vec ℤ Global)) (v : Vec ℤ Global) (n : ℕ) → v ≡ get_or channels 0 v → 0 < length channels → n ≡ v.len → v.len ≡ length v.items → n ≡ samples_each (map (λ (c : Vec ℤ Global). c.items) channels)
rows_in [] v n is some len long = absurd (omega (arith, some))
rows_in (x ∷ xs) v n is some len long = len ∙ (long ∙ ap (λ (c : Vec ℤ Global). length c.items) is)

pub odd_then : (s n row : ℕ) → n ≡ s → n % 2 ≡ 1 → not (nat_eq (row % 2) 1) ≡ nat_eq (s * row % 2) 0
odd_then s n row same is = both_odd s row (nat_eq (row % 2) 1) (ap (λ b. b && nat_eq (row % 2) 1) (sym (eq-eqb (s % 2) 1 (ap (λ k. k % 2) (sym same) ∙ is))))

pub odd_else : (s n row : ℕ) → n ≡ s → n % 2 ≢ 1 → not (nat_eq (n % 2) 1) ≡ nat_eq (s * row % 2) 0
odd_else s n row same other_is =
    let even : nat_eq (n % 2) 1 ≡ false = ne_eqb (n % 2) 1 other_is in
    let other : nat_eq (s % 2) 1 ≡ false = ap (λ k. nat_eq (k % 2) 1) (sym same) ∙ even in
    both_odd s row (nat_eq (n % 2) 1) (even ∙ ap (λ b. b && nat_eq (row % 2) 1) (sym other))

-- ---- samples that were read of a part of a source

pub known_part : (known failed : Bool) → known ≡ true → failed ≡ false → (known && not failed) ≡ true
known_part true false k f = refl
known_part true true k f = absurd cc
known_part false failed k f = absurd cc

pub left_by : {T E : Type 0} (r : Result T E) (K : Type 0) (now then rest : List ℕ) → now ≡ then → (K → then ≡ rest) → OnOk r (K → now ≡ rest)
left_by (Ok t) K now then rest same is = λ known. same ∙ is known
left_by (Err e) K now then rest same is = tt

pub whole_by : (read : Option WaveSamples) (f : WaveFormat) (part : List ℕ) (K : Type 0) → IfSome read (λ s. K → AreTaken f part s) → (read ≡ None → K → length part % row_of f ≢ 0) → K → is_some read ≡ nat_eq (length part % row_of f) 0
whole_by None f part K taken none k = sym (ne_eqb (length part % row_of f) 0 (none refl k))
whole_by (Some s) f part K taken none k = let t = taken k in sym (eq-eqb (length part % row_of f) 0 t.whole)

pub fault_by : (r : Result WaveSamples WaveError) (read : Option WaveSamples) (front : WaveFront) (size : Option ℕ) (to_end cut : Bool) (bytes : List ℕ) (K S : Type 0) → IsJudged read front.count to_end cut r → (K → cut ≡ is_cut size bytes)
    → (K → is_some read ≡ are_whole front.format size bytes) → IfErr r (λ e. K → S → IsSamplesError to_end front size bytes e)
fault_by (Ok s) read front size to_end cut bytes K S j same whole = tt
fault_by (Err e) read front size to_end cut bytes K S j same whole = λ k s.
    subst (IsSamplesError to_end front size bytes) (sym j.1)
    (refl, ap (λ b. front_fault to_end b (are_whole front.format size bytes)) (sym (same k)) ∙ (ap (λ b. front_fault to_end cut b) (sym (whole k)) ∙ j.2))

-- ---- the file

-- this is how many bytes the samples have, by what follows their header, which does not lack their length
pub record IsSize (to_end : Bool) (f : WaveFront) (size : Option ℕ) (rest : List ℕ) : Type 0 where
  pub is : size_in to_end f.size rest ≡ size
  pub said : is_unstated size rest ≡ false

-- a length that is not 0 is not lacking
pub other_size : (to_end : Bool) (f : WaveFront) (rest : List ℕ) → states_none f.size ≡ false → IsSize to_end f f.size rest
other_size to_end f rest other = let said = said_by f.size other in record { is = size_by to_end said; said = said }
  where
    said_by : (size : Option ℕ) → states_none size ≡ false → is_unstated size rest ≡ false
    said_by None e = refl
    said_by (Some n) e = ap (λ b. b && (nat_lt 0 (length rest) && not (begins_chunk rest))) e

    size_by : (ends : Bool) → is_unstated f.size rest ≡ false → size_in ends f.size rest ≡ f.size
    size_by true said = ap (λ b. cond b None f.size) said
    size_by false said = refl

-- then what is judged of the rest is judged of the samples
pub rest_judged : (to_end : Bool) (f : WaveFront) (size : Option ℕ) (rest : List ℕ) → IsSize to_end f size rest → rest_fault to_end f.format (size_in to_end f.size rest) rest ≡ samples_fault to_end f size rest
rest_judged to_end f size rest s = ap (λ o. rest_fault to_end f.format o rest) s.is ∙ ap (λ b. cond b (Some DataUnstated) (samples_fault to_end f size rest)) s.said

pub samples_error : (to_end : Bool) (bytes rest : List ℕ) (f : WaveFront) (size : Option ℕ) (e : WaveError) → BeginsWith to_end bytes f rest → IsSize to_end f size rest → IsSamplesError to_end f size rest e → IsErrorOf to_end bytes e
samples_error to_end bytes rest f size error.Memory b s h = tt
samples_error to_end bytes rest f size error.Read b s h = absurd h
samples_error to_end bytes rest f size (error.Fault x) b s h =
    subst (λ o. IsNoWave to_end bytes o x.why) (sym h.0)
    (front_none to_end bytes f.format (map (λ p. p.items) f.pieces.items) f.size f.count rest b x.why (rest_judged to_end f size rest s ∙ h.1))

-- the length is lacking
pub unstated_error : (to_end : Bool) (bytes rest : List ℕ) (f : WaveFront) → BeginsWith to_end bytes f rest → is_unstated (size_in to_end f.size rest) rest ≡ true → IsNoWave to_end bytes (Some f.count) DataUnstated
unstated_error to_end bytes rest f b lacks =
    front_none to_end bytes f.format (map (λ p. p.items) f.pieces.items) f.size f.count rest b DataUnstated
    (ap (λ k. cond k (Some DataUnstated) (front_fault to_end (is_cut (size_in to_end f.size rest) rest) (are_whole f.format (size_in to_end f.size rest) rest))) lacks)

pub cut_by : (even other : Bool) (xs ys : List ℕ) (ps : List (List ℕ)) → even ≡ other → xs ≡ ys → ArePiecesBy even (begins_zero xs) xs ps → ArePiecesBy other (begins_zero ys) ys ps
cut_by even other xs ys ps same is h = subst (λ l. ArePiecesBy other (begins_zero l) l ps) is (subst (λ b. ArePiecesBy b (begins_zero xs) xs ps) same h)

pub part_taken : (to_end : Bool) (rest back : List ℕ) (f : WaveFront) (size : Option ℕ) (s : WaveSamples) (after : Vec (Vec ℕ Global) Global) → samples_fault to_end f size rest ≡ None → AreTaken f.format (given size rest) s
    → back ≡ beyond size rest → ArePiecesBy (not s.odd) (begins_zero back) back (map (λ p. p.items) after.items) → IsPart to_end f size rest (record { format = f.format; pieces = f.pieces; samples = s; after = after })
part_taken to_end rest back f size s after good t is pieces = record {
  form = refl;
  pieces = refl;
  good = good;
  taken = t;
  cut = cut_by (not s.odd) (nat_eq (length (given size rest) % 2) 0) back (beyond size rest) (map (λ p. p.items) after.items) t.odd is pieces;
}

pub file_taken : (to_end : Bool) (bytes rest : List ℕ) (f : WaveFront) (size : Option ℕ) (file : WaveFile) → BeginsWith to_end bytes f rest → IsSize to_end f size rest → IsPart to_end f size rest file → IsTaken to_end bytes file
file_taken to_end bytes rest f size file b s p = record {
  samples = given size rest;
  back = beyond size rest;
  wave = subst (λ v. IsWave to_end bytes (record { format = file.format; pieces = contents v.items; samples = given size rest; back = beyond size rest })) (sym p.pieces)
      (subst (λ w. IsWave to_end bytes (record { format = w; pieces = contents f.pieces.items; samples = given size rest; back = beyond size rest })) (sym p.form)
      (subst (λ o. IsWave to_end bytes (record { format = f.format; pieces = contents f.pieces.items; samples = given o rest; back = beyond o rest })) s.is
      (front_file to_end bytes f.format (map (λ p. p.items) f.pieces.items) f.size f.count rest b (rest_judged to_end f size rest s ∙ p.good))));
  cut = p.cut;
  taken = subst (λ w. AreTaken w (given size rest) file.samples) (sym p.form) p.taken;
}

-- what a call returned that read the rest
module _ (r : Result WaveFile WaveError) (to_end : Bool) (f : WaveFront) (size : Option ℕ) (bytes rest : List ℕ) (K T S : Type 0) (t : T) (s : S) (same : K → bytes ≡ rest) (sized : K → IsSize to_end f size rest) where
  pub all_taken : IfOk r (λ w. T → IsPart to_end f size bytes w) → IfOk r (λ w. K → (all : List ℕ) → BeginsWith to_end all f rest → IsTaken to_end all w)
  all_taken p = by_result r p
    where
      by_result : (r : Result WaveFile WaveError) → IfOk r (λ w. T → IsPart to_end f size bytes w) → IfOk r (λ w. K → (all : List ℕ) → BeginsWith to_end all f rest → IsTaken to_end all w)
      by_result (Ok w) p = λ k all b. file_taken to_end all rest f size w b (sized k) (subst (λ l. IsPart to_end f size l w) (same k) (p t))
      by_result (Err e) p = tt

  pub all_refused : (Q : Type 0) → IfErr r (λ e. T → S → IsSamplesError to_end f size bytes e) → IfErr r (λ e. K → Q → (all : List ℕ) → BeginsWith to_end all f rest → IsErrorOf to_end all e)
  all_refused Q p = by_result r p
    where
      by_result : (r : Result WaveFile WaveError) → IfErr r (λ e. T → S → IsSamplesError to_end f size bytes e) → IfErr r (λ e. K → Q → (all : List ℕ) → BeginsWith to_end all f rest → IsErrorOf to_end all e)
      by_result (Ok w) p = tt
      by_result (Err e) p = λ k q all b. samples_error to_end all rest f size e b (sized k) (subst (λ l. IsSamplesError to_end f size l e) (same k) (p t s))

-- the same of a whole file, whose source was read on
module _ (to_end : Bool) (f : WaveFront) (size : Option ℕ) (bytes rest : List ℕ) (K T : Type 0) (t : K → T) (begins : K → BeginsWith to_end bytes f rest) where
  pub sized_taken : (r : Result WaveFile WaveError) → IsSize to_end f size rest → IfOk r (λ w. T → IsPart to_end f size rest w) → IfOk r (λ w. K → IsTaken to_end bytes w)
  sized_taken (Ok w) s p = λ k. file_taken to_end bytes rest f size w (begins k) s (p (t k))
  sized_taken (Err e) s p = tt

  pub sized_refused : (r : Result WaveFile WaveError) (Q S : Type 0) → (Q → S) → IsSize to_end f size rest → IfErr r (λ e. T → S → IsSamplesError to_end f size rest e) → IfErr r (λ e. K → Q → IsErrorOf to_end bytes e)
  sized_refused (Ok w) Q S later s p = tt
  sized_refused (Err e) Q S later s p = λ k q. samples_error to_end bytes rest f size e (begins k) s (p (t k) (later q))

  pub rest_refused : (r : Result WaveFile WaveError) (Q S : Type 0) → (Q → S) → IfErr r (λ e. T → S → (all : List ℕ) → BeginsWith to_end all f rest → IsErrorOf to_end all e) → IfErr r (λ e. K → Q → IsErrorOf to_end bytes e)
  rest_refused (Ok w) Q S later p = tt
  rest_refused (Err e) Q S later p = λ k q. p (t k) (later q) bytes (begins k)
