-- Partitions one after another.
use Rattle.std.proofs.Common.{◌≡◌, ℕ, suc, ◌+◌, ◌-◌, ◌*◌, ◌<◌, ◌≤◌, true, List, [], ◌∷◌, ◌++◌, length, take, drop, refl, sym, ap, arith, Result, Ok, Err, ◌∙◌, ℤ, append_assoc, All}
use borrow.Rule.Slice.PartMut.{put_mid, mid_of}
use Rattle.std.proofs.lemmas.List.{take_all, append-nil, length-take, length-drop}
use Rattle.std.proofs.lemmas.List.Elements.{All-append}
use Rattle.std.proofs.lemmas.Slice.{take-put_mid}
use Rattle.flac_bits.specs.State.{Cursor, State}
use Rattle.flac_bits.specs.Layout.{Layout, run, and_then, bind, done, Reason}
use Rattle.flac_bits.specs.inner.Reading.{Goes}
use Rattle.flac_bits.proofs.Loops.{goes_on}
use Rattle.flac_bits.specs.Signed.{FitsBits}
use Rattle.flac_subframe.specs.format.Residual.{Partition, partition, partitions, all_values}
use Rattle.flac_subframe.proofs.lemmas.format.Steps.{starts, and_then_and_then, same_then}

-- the values of partitions, after those before
abbrev pub gathered : List ℤ → List Partition → Cursor → Result (List ℤ × Cursor) Reason
gathered front ps c = Ok (front ++ all_values ps, c)

-- the values of one partition
abbrev pub one_partition : ℕ → ℕ → Layout (List ℤ)
one_partition w n = bind (partition w n) (λ p. done p.values)

abbrev okay : List ℤ × Cursor → Result (List ℤ × Cursor) Reason
okay y = Ok y

after_one : (r : Result (Partition × Cursor) Reason) (f : Cursor → Result (List Partition × Cursor) Reason) (front : List ℤ)
    → and_then (and_then r (λ p d. and_then (f d) (λ ps e. Ok (p ∷ ps, e)))) (gathered front) ≡ and_then (and_then r (λ p d. Ok (p.values, d))) (λ vs d. and_then (f d) (gathered (front ++ vs)))
after_one (Ok (p, d)) f front = and_then_and_then (f d) (λ ps e. Ok (p ∷ ps, e)) (gathered front) ∙ same_then (f d) _ _ (λ ps e. ap (λ zs. okay (zs, e)) (sym (append_assoc front p.values (all_values ps))))
after_one (Err e) f front = refl

pub parts_more : (w next size n i : ℕ) (front : List ℤ) (c : Cursor) → i < n
    → and_then (run (partitions w next size (n - i)) c) (gathered front) ≡ and_then (run (one_partition w next) c) (λ vs d. and_then (run (partitions w size size (n - (i + 1))) d) (gathered (front ++ vs)))
unfolding partitions
parts_more w next size n i front c lt =
    let k : n - i ≡ suc (n - (i + 1)) = omega arith in
    rw k (after_one (run (partition w next) c) (λ d. run (partitions w size size (n - (i + 1))) d) front)

pub parts_end : (w next size n i : ℕ) (front : List ℤ) (c : Cursor) → n ≤ i → and_then (run (partitions w next size (n - i)) c) (gathered front) ≡ Ok (front, c)
unfolding partitions
parts_end w next size n i front c le =
    let k : n - i ≡ 0 = omega arith in
    rw k (ap (λ zs. okay (zs, c)) (append-nil front))

pub gathers_nothing : (r : Result (List Partition × Cursor) Reason) → and_then r (gathered []) ≡ and_then r (λ ps d. Ok (all_values ps, d))
gathers_nothing (Ok x) = refl
gathers_nothing (Err e) = refl

-- where the i-th of n partitions begins and ends: after all that are of the one size but the first, which is shorter
pub record Cuts (order size n len start end i : ℕ) : Type 0 where
  pub ahead : end + (n - i) * size ≡ len + size
  pub first : i ≡ 0 → (start ≡ 0) × (end + order ≡ size)
  pub later : 0 < i → start + size ≡ end
  pub ordered : start ≤ end

one_less : (n i size : ℕ) → i < n → (n - i) * size ≡ (n - (i + 1)) * size + size
one_less n i size lt =
    let k : n - i ≡ suc (n - (i + 1)) = omega arith in
    rw k (omega arith)

pub cuts_start : (order size n len : ℕ) → order < size → len + order ≡ n * size → Cuts order size n len 0 (size - order) 0
cuts_start order size n len room cut =
    let e : n - 0 ≡ n = omega arith in
    record { ahead = rw e (omega arith); first = λ _. (refl, omega arith); later = λ h. absurd (omega arith); ordered = omega arith }

pub cuts_within : (order size n len start end i : ℕ) → i < n → Cuts order size n len start end i → end ≤ len
cuts_within order size n len start end i lt c = omega (arith, one_less n i size lt, c.ahead)

pub cuts_more : (order size n len start end i : ℕ) → i < n → Cuts order size n len start end i → Cuts order size n len end (end + size) (i + 1)
cuts_more order size n len start end i lt c =
    record { ahead = omega (arith, one_less n i size lt, c.ahead); first = λ h. absurd (omega arith); later = λ h. omega arith; ordered = omega arith }

pub cuts_end : (order size n len start end i : ℕ) → 0 < i → n ≤ i → Cuts order size n len start end i → start ≡ len
cuts_end order size n len start end i some over c =
    let k : n - i ≡ 0 = omega arith in
    let e : (n - i) * size ≡ 0 = rw k (omega arith) in
    omega (arith, e, c.ahead, c.later some)

-- i of n partitions were read
pub record PartsTo (w order size n : ℕ) (old now : State) (out : List ℤ) (start end i : ℕ) : Type 0 where
  pub goes : Goes old now (and_then (run (partitions w (end - start) size (n - i)) now.cursor) (gathered (take start out))) (and_then (run (partitions w (size - order) size n) old.cursor) (λ ps d. Ok (all_values ps, d)))
  pub cuts : Cuts order size n (length out) start end i
  pub fits : All (FitsBits 32) (take start out)
  pub spent : now.most ≤ old.most

module _ (w order size n : ℕ) (old : State) where
  pub parts_start : (out : List ℤ) → order < size → length out + order ≡ n * size → PartsTo w order size n old old out 0 (size - order) 0
  parts_start out room cut =
      let e : n - 0 ≡ n = omega arith in
      let f : size - order - 0 ≡ size - order = omega arith in
      record {
        goes = starts old _ _ (rw (e, f) (gathers_nothing (run (partitions w (size - order) size n) old.cursor)));
        cuts = cuts_start order size n (length out) room cut;
        fits = λ k d h. absurd (omega arith);
        spent = omega arith;
      }

  module _ (now next : State) (out part : List ℤ) (start end i m : ℕ) (lt : i < n) (so : PartsTo w order size n old now out start end i) (whole : m ≡ end - start) where
    pub parts_next : length part ≡ m → length (put_mid start (end - start) out part) ≡ length out → All (FitsBits 32) part → next.most ≤ now.most
        → (now.known ≡ true → next.known ≡ true) × (next.errors ≡ now.errors) × (next.raised ≡ now.raised) × (now.known ≡ true → next.after ≡ now.after) × (next.names ≡ now.names)
        → (now.known ≡ true → next.errors ≡ now.errors → run (one_partition w m) now.cursor ≡ Ok (part, next.cursor))
        → PartsTo w order size n old next (put_mid start (end - start) out part) end (end + size) (i + 1)
    parts_next long kept fit less counts reads =
        let within = cuts_within order size n (length out) start end i lt so.cuts in
        let front : take end (put_mid start (end - start) out part) ≡ take start out ++ part = take-put_mid start (end - start) out part end (omega (arith, so.cuts.ordered)) (omega (arith, so.cuts.ordered)) in
        let more : List ℤ → Cursor → _ = λ vs d. and_then (run (partitions w size size (n - (i + 1))) d) (gathered (take start out ++ vs)) in
        let size_is : end + size - end ≡ size = omega arith in
        record {
          goes = goes_on old now next (run (one_partition w m) now.cursor) part more _ _ _ so.goes
              (rw whole (parts_more w (end - start) size n i (take start out) now.cursor lt))
              (rw (front, size_is) refl) counts reads;
          cuts = rw kept (cuts_more order size n (length out) start end i lt so.cuts);
          fits = rw front (All-append (FitsBits 32) (take start out) part so.fits fit);
          spent = omega (arith, so.spent);
        }

    pub parts_fail : (e : Reason) → run (one_partition w m) now.cursor ≡ Err e → old.known ≡ true → and_then (run (partitions w (size - order) size n) old.cursor) (λ ps d. Ok (all_values ps, d)) ≡ Err e
    parts_fail e fails known = sym (so.goes.reads known) ∙ parts_more w (end - start) size n i (take start out) now.cursor lt ∙ rw (← whole, fails) refl

  module _ (now : State) (out : List ℤ) (start end i : ℕ) (some : 0 < i) (over : n ≤ i) (so : PartsTo w order size n old now out start end i) where
    all_is : take start out ≡ out
    all_is = take_all start out (omega (arith, cuts_end order size n (length out) start end i some over so.cuts))

    pub parts_fit : All (FitsBits 32) out
    parts_fit = rw all_is at so.fits

    pub parts_read : old.known ≡ true → and_then (run (partitions w (size - order) size n) old.cursor) (λ ps d. Ok (all_values ps, d)) ≡ Ok (out, now.cursor)
    parts_read known = sym (so.goes.reads known) ∙ parts_end w (end - start) size n i (take start out) now.cursor over ∙ ap (λ zs. okay (zs, now.cursor)) all_is

pub length_mid : (a e : ℕ) (xs : List ℤ) → a ≤ e → e ≤ length xs → length (mid_of a (e - a) xs) ≡ e - a
length_mid a e xs le within = omega (arith, length-take (e - a) (drop a xs), length-drop a xs)
