-- A pass over a WAV file that holds none of its samples.
use Rattle.std.proofs.Common.{◌≡◌, ◌≢◌, ◌≤◌, ◌<◌, ◌+◌, ◌-◌, ◌*◌, ◌/◌, ◌%◌, ◌^◌, ◌++◌, ◌∷◌, [], ℕ, zero, suc, Bool, true, false, List, length, take, drop, map, Option, Some, None, Result, Ok, Err, IfOk, IfErr, Vec, Global, refl, sym, ap, ◌∙◌, subst, append_assoc, length-append, inl, inr, arith}
use Rattle.std.specs.Prelude.{not, nat_eq, max, min}
use mathlib.Core.Bool.{beq}
use Rattle.std.proofs.Math.Nat.{add-mul, mul-pos, mul-div_cancel, mul-mod_left, mul-add-mod_self_right, mod-lt}
use Rattle.std.proofs.lemmas.Bool.{eq-eqb, ne_eqb}
use Rattle.std.proofs.lemmas.List.{append-nil, take-append-drop, length-take-le}
use Rattle.std.proofs.lemmas.Nat.{div-add-mod'}
use Rattle.flac_wave.specs.Chunks.{is_unstated}
use Rattle.flac_wave.specs.Format.{IsInRange, row_of}
use Rattle.flac_wave.specs.Front.{BeginsWith, front_fault, are_whole}
use Rattle.flac_wave.specs.Parts.{given, beyond, is_cut}
use Rattle.flac_wave.specs.Shift.{AreBytes, wave_width_of, depth_in}
use Rattle.flac_wave.specs.Wave.{IsWave, IsErrorOf, ArePiecesBy, begins_zero, all_of}
use Rattle.flac_wave.specs.declared.format.WaveFormat.{WaveFormat}
use Rattle.flac_wave.specs.declared.front.WaveFront.{WaveFront}
use Rattle.flac_wave.specs.declared.waves.WaveError.{WaveError}
use Rattle.flac_wave.specs.declared.why.WaveWhy.{WaveWhy}
use Rattle.flac_wave.proofs.Files.{leads_joined}
use Rattle.flac_wave.proofs.Fronts.{front_file}
use Rattle.flac_wave.proofs.Shifts.{depth_cases, stated_some}
use Rattle.flac_cli.specs.Waves.{contents}
use Rattle.flac_cli.specs.inner.WaveSamples.{IsSamplesError, samples_fault}
use Rattle.flac_cli.specs.inner.WaveSurvey.{HasDepth, IsFoundOf, SurveysMore, AreFoundOf, IsSampled, IsSurveyed, FindsPart, none_found, surveyed_parts}
use Rattle.flac_cli.specs.declared.wave_survey.SampleSurvey.{SampleSurvey}
use Rattle.flac_cli.specs.declared.wave_survey.WaveSurvey.{WaveSurvey}
use Rattle.flac_cli.proofs.HeldWaves.{depth_append, samples_in}
use Rattle.flac_cli.proofs.TakenWaves.{small_both, cut_by, IsSize, rest_judged, samples_error}
use Rattle.flac_cli.proofs.Waved.{joined_push}

-- ---- samples

-- how many bits a stream has
pub depth_has : (f : WaveFormat) (range : IsInRange f) (xs : List ℕ) → HasDepth f (depth_in f xs)
depth_has f range xs = elim (depth_cases f xs) [
  | inl all ↦ let bits = range.bits in record { some = omega (arith, all, bits); few = omega (arith, all) }
  | inr n ↦ let some = stated_some (depth_in f xs) n.stated in let few = n.few in record { some = some; few = omega (arith, few) }
]

pub depth_both : (f : WaveFormat) (range : IsInRange f) (depth : ℕ) (xs : List ℕ) → HasDepth f depth → HasDepth f (max depth (depth_in f xs))
depth_both f range depth xs has =
    let other = depth_has f range xs in
    let a = has.some in
    let b = has.few in
    let c = other.few in
    record { some = omega (arith, a); few = omega (arith, b, c) }

-- whether two numbers of bytes are odd together, by whether each is
parity_by : (odd : Bool) (n m a b : ℕ) → n % 2 ≡ a → m % 2 ≡ b → not odd ≡ nat_eq a 0 → not (not (beq odd (nat_eq b 1))) ≡ nat_eq ((n + m) % 2) 0
parity_by true n m zero b ea eb is = absurd cc
parity_by false n m zero zero ea eb is = sym (eq-eqb ((n + m) % 2) 0 (omega (arith, ea, eb)))
parity_by false n m zero (suc zero) ea eb is = sym (ne_eqb ((n + m) % 2) 0 (λ h. omega (arith, ea, eb, h)))
parity_by true n m (suc zero) zero ea eb is = sym (ne_eqb ((n + m) % 2) 0 (λ h. omega (arith, ea, eb, h)))
parity_by true n m (suc zero) (suc zero) ea eb is = sym (eq-eqb ((n + m) % 2) 0 (omega (arith, ea, eb)))
parity_by false n m (suc zero) b ea eb is = absurd cc
parity_by odd n m (suc (suc a)) b ea eb is = absurd (let l = mod-lt n {m = 2} (omega arith) in omega (arith, l, ea))
parity_by odd n m a (suc (suc b)) ea eb is = absurd (let l = mod-lt m {m = 2} (omega arith) in omega (arith, l, eb))

-- what was found of samples, and of those of a piece
pub found_more : (f : WaveFormat) (range : IsInRange f) (bytes piece : List ℕ) (rows : ℕ) (old new : SampleSurvey) → length bytes ≡ rows * row_of f → length piece % row_of f ≡ 0 → AreBytes piece → IsFoundOf f bytes rows old
    → new.depth ≡ max old.depth (depth_in f piece) → new.total ≡ min (old.total + length piece / row_of f) (2 ^ 64 - 1) → new.odd ≡ not (beq old.odd (nat_eq (length piece % 2) 1)) → new.whole ≡ old.whole
    → IsFoundOf f (bytes ++ piece) (rows + length piece / row_of f) new
found_more f range bytes piece rows old new long part small is deep many odd whole =
    let k = length piece / row_of f in
    let d = div-add-mod' (length piece) (row_of f) in
    let piece_long : length piece ≡ k * row_of f = omega (arith, d, part) in
    let was = is.many in
    record {
      small = small_both bytes piece is.small small;
      deep = deep ∙ (ap (λ d. max d (depth_in f piece)) is.deep ∙ sym (depth_append f range bytes piece (rows * f.channels) (k * f.channels) (samples_in f (length bytes) rows long) (samples_in f (length piece) k piece_long)));
      many = omega (arith, many, was);
      odd = ap not odd ∙ (parity_by old.odd (length bytes) (length piece) (length bytes % 2) (length piece % 2) refl refl is.odd ∙ ap (λ n. nat_eq (n % 2) 0) (sym (length-append bytes piece)));
      whole = whole ∙ is.whole;
    }

-- whole rows of a source's bytes were read, and the rest is still to come
pub record FoundSoFar (f : WaveFormat) (all coming : List ℕ) (s : SampleSurvey) : Type 0 where
  pub bytes : List ℕ
  pub rows : ℕ
  pub whole : length bytes ≡ rows * row_of f
  pub are : IsFoundOf f bytes rows s
  pub rest : all ≡ bytes ++ coming

pub first_found : (f : WaveFormat) (all : List ℕ) (s : SampleSurvey) → s ≡ none_found f → FoundSoFar f all all s
first_found f all s is = record {
  bytes = [];
  rows = 0;
  whole = omega arith;
  are = subst (λ x. IsFoundOf f [] 0 x) (sym is) (record { small = tt; deep = refl; many = omega arith; odd = refl; whole = refl });
  rest = refl;
}

pub next_found : (f : WaveFormat) (all coming later piece : List ℕ) (old new : SampleSurvey) → FoundSoFar f all coming old → coming ≡ piece ++ later → length piece % row_of f ≡ 0 → SurveysMore f piece old new → FoundSoFar f all later new
next_found f all coming later piece old new so is part more = record {
  bytes = so.bytes ++ piece;
  rows = so.rows + length piece / row_of f;
  whole = let e = add-mul so.rows (length piece / row_of f) (row_of f) in let h = so.whole in let d = div-add-mod' (length piece) (row_of f) in omega (arith, length-append so.bytes piece, h, d, part, e);
  are = more so.bytes so.rows so.whole so.are;
  rest = so.rest ∙ ap (λ k. so.bytes ++ k) is ∙ sym (append_assoc so.bytes piece later);
}

-- n bytes are there
pub long_front : {X : Type 0} (n most : ℕ) (xs : List X) → n ≤ most → most ≤ 16384 → length xs ≡ 16384 → length (take n xs) ≡ n
long_front n most xs few size long = length-take-le n xs (omega (arith, few, size, long))

-- they are whole rows
pub rows_of : (n count row due : ℕ) → n ≡ count → row ≡ due → count % row ≡ 0 → n % due ≡ 0
rows_of n count row due is same whole = ap (λ k. k % due) is ∙ (ap (λ r. count % r) (sym same) ∙ whole)

row_some : (f : WaveFormat) → IsInRange f → 0 < row_of f
row_some f range = let bits = range.bits in let wide : 0 < (f.bits + 7) / 8 = omega (arith, bits) in mul-pos range.channels wide

pub all_found : (f : WaveFormat) (range : IsInRange f) (all coming : List ℕ) (s : SampleSurvey) → FoundSoFar f all coming s → coming ≡ [] → IsSampled f all s
all_found f range all coming s so end =
    let is : all ≡ so.bytes = so.rest ∙ ap (λ k. so.bytes ++ k) end ∙ append-nil so.bytes in
    let long : length all ≡ so.rows * row_of f = ap length is ∙ so.whole in
    let part : length all % row_of f ≡ 0 = ap (λ n. n % row_of f) long ∙ mul-mod_left so.rows (row_of f) in
    let count : length all / row_of f ≡ so.rows = ap (λ n. n / row_of f) long ∙ mul-div_cancel so.rows (row_some f range) in
    let are = so.are in
    record {
      whole = are.whole ∙ sym (eq-eqb (length all % row_of f) 0 part);
      are = λ whole. record {
        small = subst AreBytes (sym is) are.small;
        whole = part;
        deep = are.deep ∙ ap (depth_in f) (sym is);
        many = are.many ∙ ap (λ n. min n (2 ^ 64 - 1)) (sym count);
        odd = are.odd ∙ ap (λ l. nat_eq (length l % 2) 0) (sym is);
      };
    }

-- the last row is not whole
pub part_found : (f : WaveFormat) (all coming piece later : List ℕ) (n : ℕ) (old new : SampleSurvey) → FoundSoFar f all coming old → coming ≡ piece ++ later → later ≡ [] → length piece ≡ n → n % row_of f ≢ 0 → new.whole ≡ false → IsSampled f all new
part_found f all coming piece later n old new so is end long part none =
    let rest : length coming ≡ n = ap length (is ∙ ap (λ k. piece ++ k) end ∙ append-nil piece) ∙ long in
    let all_long : length all ≡ so.rows * row_of f + n = ap length so.rest ∙ length-append so.bytes coming ∙ (let h = so.whole in omega (arith, h, rest)) in
    let other : length all % row_of f ≢ 0 = λ zero. part (sym (mul-add-mod_self_right so.rows (row_of f) n) ∙ ap (λ k. k % row_of f) (sym all_long) ∙ zero) in
    record {
      whole = none ∙ sym (ne_eqb (length all % row_of f) 0 other);
      are = λ whole. let bad : false ≡ true = sym none ∙ whole in absurd cc;
    }

-- ---- of a part of a file

-- nothing is wrong with them
pub whole_of : (to_end cut whole : Bool) → front_fault to_end cut whole ≡ None → whole ≡ true
whole_of to_end cut true h = refl
whole_of true true false h = absurd cc
whole_of false true false h = absurd cc
whole_of true false false h = absurd cc
whole_of false false false h = absurd cc

-- why they are none
pub survey_fault : (to_end : Bool) (f : WaveFront) (size : Option ℕ) (bytes : List ℕ) (s : SampleSurvey) (cut : Bool) (why : WaveWhy) → cut ≡ is_cut size bytes → s.whole ≡ are_whole f.format size bytes
    → Some why ≡ front_fault to_end cut s.whole → samples_fault to_end f size bytes ≡ Some why
survey_fault to_end f size bytes s cut why same whole is = sym (is ∙ (ap (λ b. front_fault to_end b s.whole) same ∙ ap (front_fault to_end (is_cut size bytes)) whole))

pub survey_good : (to_end : Bool) (f : WaveFront) (size : Option ℕ) (bytes : List ℕ) (s : SampleSurvey) (cut : Bool) → cut ≡ is_cut size bytes → s.whole ≡ are_whole f.format size bytes
    → None ≡ front_fault to_end cut s.whole → samples_fault to_end f size bytes ≡ None
survey_good to_end f size bytes s cut same whole is = sym (is ∙ (ap (λ b. front_fault to_end b s.whole) same ∙ ap (front_fault to_end (is_cut size bytes)) whole))

-- ---- the file

-- what comes before the samples, and the rest
pub front_joined : (to_end : Bool) (bytes rest : List ℕ) (f : WaveFront) → BeginsWith to_end bytes f rest → bytes ≡ all_of (contents f.pieces.items) ++ rest
front_joined to_end bytes rest f b =
    let head = take 12 bytes in
    let last = take 8 b.here in
    let ps = head ∷ b.chunks in
    let chunks : all_of b.chunks ++ b.here ≡ drop 12 bytes = leads_joined _ b.chunks (drop 12 bytes) b.here b.seen b.leads in
    let all : all_of (contents f.pieces.items) ≡ all_of ps ++ last = ap all_of b.list ∙ joined_push ps last in
    sym (ap (λ l. l ++ rest) all ∙ (ap (λ l. (all_of ps ++ last) ++ l) b.left
    ∙ (append_assoc (all_of ps) last (drop 8 b.here) ∙ (ap (λ l. all_of ps ++ l) (take-append-drop 8 b.here)
    ∙ (append_assoc head (all_of b.chunks) b.here ∙ (ap (λ l. head ++ l) chunks ∙ take-append-drop 12 bytes))))))

pub part_surveyed : (to_end : Bool) (rest back : List ℕ) (f : WaveFront) (size : Option ℕ) (s : SampleSurvey) (after : Vec (Vec ℕ Global) Global) → samples_fault to_end f size rest ≡ None → AreFoundOf f.format (given size rest) s
    → back ≡ beyond size rest → ArePiecesBy (not s.odd) (begins_zero back) back (map (λ p. p.items) after.items) → FindsPart to_end f size rest (record { format = f.format; pieces = f.pieces; size = size; samples = s; after = after })
part_surveyed to_end rest back f size s after good t is pieces = record {
  form = refl;
  pieces = refl;
  sized = refl;
  good = good;
  are = t;
  cut = cut_by (not s.odd) (nat_eq (length (given size rest) % 2) 0) back (beyond size rest) (map (λ p. p.items) after.items) t.odd is pieces;
}

pub file_surveyed : (to_end : Bool) (bytes rest : List ℕ) (f : WaveFront) (size : Option ℕ) (file : WaveSurvey) → BeginsWith to_end bytes f rest → IsSize to_end f size rest → FindsPart to_end f size rest file → IsSurveyed to_end bytes file
file_surveyed to_end bytes rest f size file b s p = record {
  rest = rest;
  wave = subst (λ o. IsWave to_end bytes (record { format = file.format; pieces = contents file.pieces.items; samples = given o rest; back = beyond o rest })) (sym p.sized)
      (subst (λ v. IsWave to_end bytes (record { format = file.format; pieces = contents v.items; samples = given size rest; back = beyond size rest })) (sym p.pieces)
      (subst (λ w. IsWave to_end bytes (record { format = w; pieces = contents f.pieces.items; samples = given size rest; back = beyond size rest })) (sym p.form)
      (subst (λ o. IsWave to_end bytes (record { format = f.format; pieces = contents f.pieces.items; samples = given o rest; back = beyond o rest })) s.is
      (front_file to_end bytes f.format (map (λ p. p.items) f.pieces.items) f.size f.count rest b (rest_judged to_end f size rest s ∙ p.good)))));
  cut = subst (λ o. ArePiecesBy (nat_eq (length (given o rest) % 2) 0) (begins_zero (beyond o rest)) (beyond o rest) (contents file.after.items)) (sym p.sized) p.cut;
  joined = front_joined to_end bytes rest f b ∙ ap (λ (v : Vec (Vec ℕ Global) Global). all_of (contents v.items) ++ rest) (sym p.pieces);
  are = subst (λ w. AreFoundOf w (given file.size rest) file.samples) (sym p.form) (subst (λ o. AreFoundOf f.format (given o rest) file.samples) (sym p.sized) p.are);
}

-- what a call returned that read the rest
module _ (r : Result WaveSurvey WaveError) (to_end : Bool) (f : WaveFront) (size : Option ℕ) (bytes rest : List ℕ) (K T S : Type 0) (t : T) (s : S) (same : K → bytes ≡ rest) (sized : K → IsSize to_end f size rest) where
  pub all_surveyed : IfOk r (λ w. T → FindsPart to_end f size bytes w) → IfOk r (λ w. K → (all : List ℕ) → BeginsWith to_end all f rest → IsSurveyed to_end all w)
  all_surveyed p = by_result r p
    where
      by_result : (r : Result WaveSurvey WaveError) → IfOk r (λ w. T → FindsPart to_end f size bytes w) → IfOk r (λ w. K → (all : List ℕ) → BeginsWith to_end all f rest → IsSurveyed to_end all w)
      by_result (Ok w) p = λ k all b. file_surveyed to_end all rest f size w b (sized k) (subst (λ l. FindsPart to_end f size l w) (same k) (p t))
      by_result (Err e) p = tt

  pub all_stopped : (Q : Type 0) → IfErr r (λ e. T → S → IsSamplesError to_end f size bytes e) → IfErr r (λ e. K → Q → (all : List ℕ) → BeginsWith to_end all f rest → IsErrorOf to_end all e)
  all_stopped Q p = by_result r p
    where
      by_result : (r : Result WaveSurvey WaveError) → IfErr r (λ e. T → S → IsSamplesError to_end f size bytes e) → IfErr r (λ e. K → Q → (all : List ℕ) → BeginsWith to_end all f rest → IsErrorOf to_end all e)
      by_result (Ok w) p = tt
      by_result (Err e) p = λ k q all b. samples_error to_end all rest f size e b (sized k) (subst (λ l. IsSamplesError to_end f size l e) (same k) (p t s))

-- the same of a whole file, whose source was read on
module _ (to_end : Bool) (f : WaveFront) (size : Option ℕ) (bytes rest : List ℕ) (K T : Type 0) (t : K → T) (begins : K → BeginsWith to_end bytes f rest) where
  pub sized_surveyed : (r : Result WaveSurvey WaveError) → IsSize to_end f size rest → IfOk r (λ w. T → FindsPart to_end f size rest w) → IfOk r (λ w. K → IsSurveyed to_end bytes w)
  sized_surveyed (Ok w) s p = λ k. file_surveyed to_end bytes rest f size w (begins k) s (p (t k))
  sized_surveyed (Err e) s p = tt

  pub sized_stopped : (r : Result WaveSurvey WaveError) (Q S : Type 0) → (Q → S) → IsSize to_end f size rest → IfErr r (λ e. T → S → IsSamplesError to_end f size rest e) → IfErr r (λ e. K → Q → IsErrorOf to_end bytes e)
  sized_stopped (Ok w) Q S later s p = tt
  sized_stopped (Err e) Q S later s p = λ k q. samples_error to_end bytes rest f size e (begins k) s (p (t k) (later q))

  pub rest_stopped : (r : Result WaveSurvey WaveError) (Q S : Type 0) → (Q → S) → IfErr r (λ e. T → S → (all : List ℕ) → BeginsWith to_end all f rest → IsErrorOf to_end all e) → IfErr r (λ e. K → Q → IsErrorOf to_end bytes e)
  rest_stopped (Ok w) Q S later p = tt
  rest_stopped (Err e) Q S later p = λ k q. p (t k) (later q) bytes (begins k)
