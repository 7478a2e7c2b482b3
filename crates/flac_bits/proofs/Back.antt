-- Whole bytes of the word that are given back to the array, and bytes that are copied out of it.
use Rattle.std.proofs.Common.{◌≡◌, ℕ, ◌+◌, ◌-◌, ◌*◌, ◌≤◌, Bool, List, [], ◌++◌, length, drop, take, refl, sym, ap, ◌∙◌, arith, append_assoc}
use Rattle.std.proofs.lemmas.List.{append-nil, drop-take, length-append, take_at, take-append-drop, append_cancel_left, drop-drop}
use Rattle.std.specs.List.{slice_range}
use Rattle.flac_bits.specs.Bits.{bits_of}
use Rattle.flac_bits.specs.State.{Mark, past}
use Rattle.flac_bits.specs.Store.{passed}
use Rattle.flac_bits.proofs.Holding.{length-bits_of, bits_of-append, passed_is}
use Rattle.flac_bits.proofs.Readings.{past-append}
use Rattle.flac_bits.proofs.Partly.{held_fits, slice_is, begun_long}

pub same_parts : (a b c d : List Bool) → a ++ b ≡ c ++ d → length b ≡ length d → (a ≡ c) × (b ≡ d)
same_parts a b c d e same =
    let long : length a ≡ length c = omega (arith, length-append a b, length-append c d, ap (λ (x : List Bool). length x) e, same) in
    let front : a ≡ c = sym (take_at a b (length a) refl) ∙ ap (take (length a)) e ∙ take_at c d (length a) (sym long) in
    (front, append_cancel_left c b d (ap (λ x. x ++ b) (sym front) ∙ e))

-- the bytes up to a place are those up to an earlier one and those between
pub begun_more : (bytes : List ℕ) (from early place : ℕ) → from ≤ early → early ≤ place → place ≤ length bytes → drop from (take place bytes) ≡ drop from (take early bytes) ++ drop early (take place bytes)
begun_more bytes from early place le le' inside =
    let xs = drop from (take place bytes) in
    let a = early - from in
    let n : from + a ≡ early = omega (arith, le) in
    let front : take a xs ≡ drop from (take early bytes) = sym (slice_is bytes from place early le le' inside) ∙ sym (drop-take from a bytes) ∙ ap (λ k. drop from (take k bytes)) n in
    let rest : drop a xs ≡ drop early (take place bytes) = drop-drop a from (take place bytes) ∙ ap (λ k. drop k (take place bytes)) n in
    sym (take-append-drop a xs) ∙ ap (λ ys. ys ++ drop a xs) front ∙ ap (λ ys. drop from (take early bytes) ++ ys) rest

module _ (bytes : List ℕ) (from place end q : ℕ) (word new tail : List Bool) (le : from ≤ place) (le' : place ≤ end) (inside : end ≤ length bytes) (is : word ≡ new ++ tail) (long : length tail ≡ 8 * q)
    (tie : passed (drop from (take place bytes)) word ++ word ≡ bits_of (drop from (take place bytes))) where
  pub back_fits : from + q ≤ place
  back_fits = omega (arith, held_fits (drop from (take place bytes)) word tie, begun_long bytes from place le (omega (arith, le', inside)), ap (λ (x : List Bool). length x) is, length-append new tail, long)

  both : (passed (drop from (take place bytes)) word ++ new ≡ bits_of (drop from (take (place - q) bytes))) × (tail ≡ bits_of (drop (place - q) (take place bytes)))
  both =
      let xs = drop from (take place bytes) in
      let ys = drop from (take (place - q) bytes) in
      let zs = drop (place - q) (take place bytes) in
      let room = back_fits in
      let parts : xs ≡ ys ++ zs = begun_more bytes from (place - q) place (omega (arith, room)) (omega arith) (omega (arith, le', inside)) in
      let many : length zs ≡ q = omega (arith, begun_long bytes (place - q) place (omega arith) (omega (arith, le', inside)), room) in
      same_parts (passed xs word ++ new) tail (bits_of ys) (bits_of zs)
      (append_assoc (passed xs word) new tail ∙ ap (λ bs. passed xs word ++ bs) (sym is) ∙ tie ∙ ap bits_of parts ∙ bits_of-append ys zs)
      (omega (arith, long, length-bits_of zs, many))

  back_passed : passed (drop from (take (place - q) bytes)) new ≡ passed (drop from (take place bytes)) word
  back_passed = passed_is (drop from (take (place - q) bytes)) (passed (drop from (take place bytes)) word) new (both.0)

  pub back_tie : passed (drop from (take (place - q) bytes)) new ++ new ≡ bits_of (drop from (take (place - q) bytes))
  back_tie = rw back_passed (both.0)

  pub back_mark : (start : Mark) → past (passed (drop from (take (place - q) bytes)) new) start ≡ past (passed (drop from (take place bytes)) word) start
  back_mark start = ap (λ bs. past bs start) back_passed

  pub back_left : new ++ bits_of (drop (place - q) (take end bytes)) ≡ word ++ bits_of (drop place (take end bytes))
  back_left =
      let zs = drop (place - q) (take place bytes) in
      let more = drop place (take end bytes) in
      let parts : drop (place - q) (take end bytes) ≡ zs ++ more = begun_more bytes (place - q) place end (omega arith) le' inside in
      ap (λ ys. new ++ bits_of ys) parts ∙ ap (λ bs. new ++ bs) (bits_of-append zs more ∙ ap (λ bs. bs ++ bits_of more) (sym (both.1)))
      ∙ sym (append_assoc new tail (bits_of more)) ∙ ap (λ bs. bs ++ bits_of more) (sym is)

-- n bytes are copied, with nothing in the word
module _ (bytes : List ℕ) (from place end n : ℕ) (word : List Bool) (le : from ≤ place) (le' : place + n ≤ end) (inside : end ≤ length bytes) (none : word ≡ []) where
  all_passed : (xs : List ℕ) → passed xs word ≡ bits_of xs
  all_passed xs = passed_is xs (bits_of xs) word (ap (λ w. bits_of xs ++ w) none ∙ append-nil (bits_of xs))

  pub copied_tie : passed (drop from (take (place + n) bytes)) word ++ word ≡ bits_of (drop from (take (place + n) bytes))
  copied_tie = let xs = drop from (take (place + n) bytes) in ap (λ bs. bs ++ word) (all_passed xs) ∙ ap (λ w. bits_of xs ++ w) none ∙ append-nil (bits_of xs)

  copied_is : drop place (take (place + n) bytes) ≡ slice_range bytes place (place + n)
  copied_is = let k : place + n - place ≡ n = omega arith in drop-take place n bytes ∙ ap (λ i. take i (drop place bytes)) (sym k)

  pub copied_mark : (start : Mark) → past (passed (drop from (take (place + n) bytes)) word) start ≡ past (bits_of (slice_range bytes place (place + n))) (past (passed (drop from (take place bytes)) word) start)
  copied_mark start =
      let xs = drop from (take place bytes) in
      let ys = slice_range bytes place (place + n) in
      let parts : drop from (take (place + n) bytes) ≡ xs ++ ys = begun_more bytes from place (place + n) le (omega arith) (omega (arith, le', inside)) ∙ ap (λ zs. xs ++ zs) copied_is in
      ap (λ bs. past bs start) (all_passed (drop from (take (place + n) bytes)) ∙ ap bits_of parts ∙ bits_of-append xs ys) ∙ past-append (bits_of xs) (bits_of ys) start
      ∙ ap (λ bs. past (bits_of ys) (past bs start)) (sym (all_passed xs))

  pub copied_left : word ++ bits_of (drop place (take end bytes)) ≡ bits_of (slice_range bytes place (place + n)) ++ (word ++ bits_of (drop (place + n) (take end bytes)))
  copied_left =
      let ys = slice_range bytes place (place + n) in
      let more = drop (place + n) (take end bytes) in
      let parts : drop place (take end bytes) ≡ ys ++ more = begun_more bytes place (place + n) end (omega arith) le' inside ∙ ap (λ zs. zs ++ more) copied_is in
      rw none (ap bits_of parts ∙ bits_of-append ys more)
