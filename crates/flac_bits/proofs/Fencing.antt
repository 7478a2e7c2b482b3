-- A fence in the state of a reader.
use Rattle.std.proofs.Common.{◌≡◌, ℕ, zero, suc, ◌+◌, ◌-◌, ◌*◌, Bool, true, false, cond, List, [], ◌∷◌, ◌++◌, length, take, drop, Some, None, refl, sym, ap, ◌∙◌, arith, append_assoc}
use Rattle.std.specs.Prelude.{nat_le}
use Rattle.std.specs.Borrow.{GName}
use Rattle.std.proofs.lemmas.List.{length-append, length-take, length-drop}
use Rattle.std.proofs.Math.Seq.{take-append-add, drop-append-add}
use Rattle.flac_bits.specs.Bits.{unsigned, bits_of}
use Rattle.flac_bits.specs.State.{State, After, short_of}
use Rattle.flac_bits.specs.Fencing.{lifted, fence_at}
use Rattle.flac_bits.specs.Store.{Store, allowed, forbidden, left_of, fenced_of, most_of, reason_of, state_of}
use Rattle.flac_bits.specs.declared.why.Why.TheVariants.{FrameTooLong}
use Rattle.flac_bits.proofs.Holding.{length-bits_of, bits_of-append}
use Rattle.flac_bits.proofs.Coming.{take_over, drop_over, same_test}

-- whole bytes of bits
pub take_bits : (n : ℕ) (xs : List ℕ) → take (8 * n) (bits_of xs) ≡ bits_of (take n xs)
take_bits zero xs = refl
take_bits (suc n) [] = let e : 8 * suc n ≡ suc (8 * n + 7) = omega arith in rw e refl
take_bits (suc n) (x ∷ xs) = let e : 8 * suc n ≡ length (unsigned 8 x) + 8 * n = omega arith in rw e (take-append-add (unsigned 8 x) (bits_of xs) (8 * n) ∙ ap (λ bs. unsigned 8 x ++ bs) (take_bits n xs))

pub drop_bits : (n : ℕ) (xs : List ℕ) → drop (8 * n) (bits_of xs) ≡ bits_of (drop n xs)
drop_bits zero xs = refl
drop_bits (suc n) [] = let e : 8 * suc n ≡ suc (8 * n + 7) = omega arith in rw e refl
drop_bits (suc n) (x ∷ xs) = let e : 8 * suc n ≡ length (unsigned 8 x) + 8 * n = omega arith in rw e (drop-append-add (unsigned 8 x) (bits_of xs) (8 * n) ∙ drop_bits n xs)

reason_is : (b : Bool) (after : After) → reason_of b after ≡ cond b FrameTooLong (short_of after.fails)
reason_is true after = refl
reason_is false after = refl

module _ (known : Bool) (errors raised most : ℕ) (after : After) (names : List GName) (coming : List ℕ) (old new : Store) (s : State) (is : state_of known errors raised most after names coming old ≡ s) where
  -- all bits to come, whatever fence is set
  all_is : allowed old.fence.room coming ++ (old.fence.hidden ++ forbidden old.fence.room coming) ≡ old.fence.hidden ++ coming
      → left_of old coming ++ fenced_of old coming ≡ (old.word ++ bits_of (old.bytes ++ old.fence.hidden)) ++ bits_of coming
  all_is law =
      let w = old.word in
      let b = bits_of old.bytes in
      let h = old.fence.hidden in
      append_assoc (w ++ b) (bits_of (allowed old.fence.room coming)) (bits_of (h ++ forbidden old.fence.room coming))
      ∙ ap (λ bs. (w ++ b) ++ bs) (sym (bits_of-append (allowed old.fence.room coming) (h ++ forbidden old.fence.room coming)) ∙ ap bits_of law ∙ bits_of-append h coming)
      ∙ sym (append_assoc (w ++ b) (bits_of h) (bits_of coming)) ∙ ap (λ bs. bs ++ bits_of coming) (append_assoc w b (bits_of h) ∙ ap (λ bs. w ++ bs) (sym (bits_of-append old.bytes h)))

  all_long : length (old.word ++ bits_of (old.bytes ++ old.fence.hidden)) ≡ most_of old
  all_long = omega (arith, length-append old.word (bits_of (old.bytes ++ old.fence.hidden)), length-bits_of (old.bytes ++ old.fence.hidden), length-append old.bytes old.fence.hidden, length-append old.word (bits_of old.bytes), length-bits_of old.bytes)

  pub lift_is : new.word ≡ old.word → new.bytes ≡ old.bytes ++ old.fence.hidden → new.mark ≡ old.mark → new.fence ≡ record { room = None; hidden = [] }
      → allowed old.fence.room coming ++ (old.fence.hidden ++ forbidden old.fence.room coming) ≡ old.fence.hidden ++ coming → state_of known errors raised most after names coming new ≡ lifted s
  lift_is word bytes mark fence law =
      let long = all_long in
      let none : 8 * 0 ≡ 0 = omega arith in
      let sum : length (old.word ++ bits_of (old.bytes ++ old.fence.hidden)) + 0 ≡ most_of old = omega (arith, long) in
      rw (← is, word, bytes, mark, fence, all_is law, none, sum) refl

  pub fence_is : (n : ℕ) (held : List ℕ) → new.mark ≡ old.mark → length new.word ≡ old.mark.unread → new.word ++ bits_of held ≡ old.word ++ bits_of (old.bytes ++ old.fence.hidden)
      → new.bytes ≡ take n held → new.fence ≡ record { room = Some (n - length held); hidden = drop n held }
      → allowed old.fence.room coming ++ (old.fence.hidden ++ forbidden old.fence.room coming) ≡ old.fence.hidden ++ coming → state_of known errors raised most after names coming new ≡ fence_at n s
  fence_is n held mark part same bytes fence law =
      let ys = held ++ coming in
      let k = old.mark.unread + 8 * n in
      let all : left_of old coming ++ fenced_of old coming ≡ new.word ++ bits_of ys =
      all_is law ∙ ap (λ bs. bs ++ bits_of coming) (sym same) ∙ append_assoc new.word (bits_of held) (bits_of coming) ∙ ap (λ bs. new.word ++ bs) (sym (bits_of-append held coming)) in
      let k_is : k ≡ length new.word + 8 * n = ap (λ u. u + 8 * n) (sym part) in
      let front : take k (new.word ++ bits_of ys) ≡ (new.word ++ bits_of (take n held)) ++ bits_of (take (n - length held) coming) =
      ap (λ i. take i (new.word ++ bits_of ys)) k_is ∙ take-append-add new.word (bits_of ys) (8 * n) ∙ ap (λ bs. new.word ++ bs) (take_bits n ys ∙ ap bits_of (take_over n held coming) ∙ bits_of-append (take n held) (take (n - length held) coming))
      ∙ sym (append_assoc new.word (bits_of (take n held)) (bits_of (take (n - length held) coming))) in
      let rest : drop k (new.word ++ bits_of ys) ≡ bits_of (drop n held ++ drop (n - length held) coming) =
      ap (λ i. drop i (new.word ++ bits_of ys)) k_is ∙ drop-append-add new.word (bits_of ys) (8 * n) ∙ drop_bits n ys ∙ ap bits_of (drop_over n held coming) in
      let many : length (new.word ++ bits_of ys) ≡ old.mark.unread + 8 * (length held + length coming) = omega (arith, length-append new.word (bits_of ys), length-bits_of ys, length-append held coming, part) in
      let test : nat_le (n - length held) (length coming) ≡ nat_le k (length (new.word ++ bits_of ys)) =
      same_test (n - length held) (length coming) k (length (new.word ++ bits_of ys)) (λ le. omega (arith, le, many)) (λ le. omega (arith, le, many)) in
      let sum : length (new.word ++ bits_of (take n held)) + 8 * length (drop n held) ≡ most_of old =
      omega (arith, sym all_long, ap (λ (bs : List Bool). length bs) same, length-append new.word (bits_of held), length-bits_of held, length-append new.word (bits_of (take n held)), length-bits_of (take n held), length-take n held, length-drop n held) in
      rw (← is, bytes, mark, fence, all, front, rest, sum, test, reason_is (nat_le k (length (new.word ++ bits_of ys))) after) refl
