-- Bytes that are read at once.
use Rattle.std.proofs.Common.{◌≡◌, ℕ, zero, suc, ◌+◌, ◌*◌, ◌^◌, ◌<◌, ◌≤◌, Bool, List, [], ◌∷◌, ◌++◌, length, take, drop, get_or, ◌-◌, Result, Ok, Err, refl, sym, ap, inl, inr, ◌∙◌, arith, append_assoc}
use Rattle.std.proofs.lemmas.List.{length-append, length-take, length-drop, take-append-le, drop_at, take_at}
use Rattle.std.proofs.Math.Seq.{take-add}
use borrow.Rule.Slice.PartMut.{put_mid}
use Rattle.flac_bits.specs.Bits.{unsigned, bits_of}
use Rattle.flac_bits.specs.State.{Mark, Cursor, past, Consumes}
use Rattle.flac_bits.specs.Layout.{bits, run, because, Reason}
use Rattle.flac_bits.specs.declared.why.Why.{Why}
use Rattle.flac_bits.specs.Lists.{list_of}
use Rattle.flac_bits.proofs.Holding.{length-bits_of, bits_of-append}
use Rattle.flac_bits.proofs.Readings.{at_, number_again, number_reads, past-append}
use Rattle.flac_bits.proofs.Meaning.{past-short}

-- bytes are read one after another as what they are
pub bytes_again : (xs : List ℕ) (rest : List Bool) (m : Mark) → ((k : ℕ) → k < length xs → get_or xs k 0 < 2 ^ 8) → run (list_of (length xs) (bits 8)) (at_ (bits_of xs ++ rest) m) ≡ Ok (xs, at_ rest (past (bits_of xs) m))
unfolding list_of
bytes_again [] rest m small = refl
bytes_again (x ∷ xs) rest m small =
    let head = number_again 8 x (bits_of xs ++ rest) m (small 0 (omega arith)) in
    let tail = bytes_again xs rest (past (unsigned 8 x) m) (λ k lt. small (suc k) (omega (arith, lt))) in
    rw (append_assoc (unsigned 8 x) (bits_of xs) rest, head, tail, past-append (unsigned 8 x) (bits_of xs) m) refl

-- too few bits are left
pub bits_cut : (n : ℕ) (left : List Bool) (m : Mark) → length left < 8 * n → run (list_of n (bits 8)) (at_ left m) ≡ Err (because m.short)
unfolding list_of
bits_cut zero left m lt = absurd (omega (arith, lt))
bits_cut (suc n) left m lt = elim (number_reads 8 left m) [
  | inl (v, rest, good, is) ↦
      let few : length rest < 8 * n = omega (arith, lt, ap (λ (bs : List Bool). length bs) good.1, length-append (unsigned 8 v) rest) in
      rw (is, bits_cut n rest (past (unsigned 8 v) m) few, past-short (unsigned 8 v) m) refl
  | inr short ↦ rw (short.1) refl
]

-- more bytes after those that were taken
pub consumes_more : (xs ys zs : List ℕ) (old now new : Cursor) → zs ≡ xs ++ ys → Consumes (bits_of xs) old now → Consumes (bits_of ys) now new → Consumes (bits_of zs) old new
consumes_more xs ys zs old now new e a b = (
  a.0 ∙ ap (λ bs. bits_of xs ++ bs) (b.0) ∙ sym (append_assoc (bits_of xs) (bits_of ys) new.left) ∙ ap (λ bs. bs ++ new.left) (sym (bits_of-append xs ys) ∙ ap bits_of (sym e)),
  b.1 ∙ ap (past (bits_of ys)) (a.1) ∙ sym (past-append (bits_of xs) (bits_of ys) old.mark) ∙ ap (λ bs. past bs old.mark) (sym (bits_of-append xs ys) ∙ ap bits_of (sym e)),
)

-- a part of the places was filled
pub put_taken : (a k n : ℕ) (xs ys : List ℕ) → a ≤ length xs → n ≤ length ys → take (a + n) (put_mid a k xs ys) ≡ take a xs ++ take n ys
put_taken a k n xs ys le few =
    let long : length (take a xs) ≡ a = omega (arith, length-take a xs, le) in
    let post = drop k (drop a xs) in
    take-add a n (put_mid a k xs ys) ∙ ap (λ zs. zs ++ take n (drop a (put_mid a k xs ys))) (take_at (take a xs) (ys ++ post) a long)
    ∙ ap (λ zs. take a xs ++ take n zs) (drop_at (take a xs) (ys ++ post) a long) ∙ ap (λ zs. take a xs ++ zs) (take-append-le n ys post few)

pub put_long : (a : ℕ) (xs ys : List ℕ) → a ≤ length xs → length ys ≡ length xs - a → length (put_mid a (length xs - a) xs ys) ≡ length xs
put_long a xs ys le e =
    omega (arith, length-append (take a xs) (ys ++ drop (length xs - a) (drop a xs)), length-append ys (drop (length xs - a) (drop a xs)), length-take a xs, length-drop (length xs - a) (drop a xs), length-drop a xs, le, e)

okay : List ℕ × Cursor → Result (List ℕ × Cursor) Reason
okay x = Ok x

-- as many bytes as are wanted
pub exact : (xs : List ℕ) (n : ℕ) (old new : Cursor) → length xs ≡ n → ((k : ℕ) → k < length xs → get_or xs k 0 < 2 ^ 8) → Consumes (bits_of xs) old new → run (list_of n (bits 8)) old ≡ Ok (xs, new)
unfolding okay
exact xs n old new e small taken =
    ap (λ k. run (list_of k (bits 8)) old) (sym e) ∙ ap (λ bs. run (list_of (length xs) (bits 8)) (at_ bs old.mark)) (taken.0) ∙ bytes_again xs new.left old.mark small ∙ ap (λ m. okay (xs, at_ new.left m)) (sym (taken.1))

-- fewer of them
pub missing : (xs : List ℕ) (n : ℕ) (why : Why) (old new : Cursor) → length xs < n → new.left ≡ [] → why ≡ new.mark.short → Consumes (bits_of xs) old new → run (list_of n (bits 8)) old ≡ Err (because why)
missing xs n why old new lt none is taken =
    let few : length old.left < 8 * n = omega (arith, lt, ap (λ (bs : List Bool). length bs) (taken.0), length-append (bits_of xs) new.left, length-bits_of xs, ap (λ (bs : List Bool). length bs) none) in
    let same : old.mark.short ≡ why = sym (past-short (bits_of xs) old.mark) ∙ ap (λ (m : Mark). m.short) (sym (taken.1)) ∙ sym is in
    bits_cut n old.left old.mark few ∙ ap (λ w. Err (because w)) same
