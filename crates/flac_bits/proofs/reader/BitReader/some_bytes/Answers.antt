use Rattle.std.proofs.Common.{◌≡◌, ◌++◌, ◌+◌, ◌*◌, ◌<◌, ◌≤◌, ℕ, List, Bool, [], length, take, Result, Ok, Err, sym, refl, ap, ◌∙◌, arith, append_assoc}
use Rattle.std.proofs.lemmas.List.{length-append, length-take}
use Rattle.flac_bits.specs.Bits.{bits_of}
use Rattle.flac_bits.specs.Store.{Store, Fence, allowed, reached, reason_of, most_of}
use Rattle.flac_bits.specs.inner.Store.{Passes}
use Rattle.flac_bits.specs.State.{State, Mark, past, with_short}
use Rattle.flac_bits.specs.declared.why.Why.{Why}
use Rattle.flac_bits.proofs.Fields.{past-with_short}
use Rattle.flac_bits.proofs.Holding.{length-bits_of}
use Rattle.flac_bits.proofs.Marks.{past-unread}
use Rattle.flac_bits.proofs.Pulled.{pulled_counts, cut_counts}
use Rattle.flac_bits.proofs.Standing.{same_reason}
use Rattle.flac_bits.proofs.reader.BitReader.some_bytes.Goals as goal

-- how many bits were taken
spent : (n : ℕ) (xs : List ℕ) (old new : Store) → n ≤ length xs → Passes (bits_of (take n xs)) old new → most_of old ≡ 8 * n + most_of new
spent n xs old new le passes =
    omega (arith, ap (λ (bs : List Bool). length bs) (passes.0), length-append (bits_of (take n xs)) (new.word ++ bits_of new.bytes), length-bits_of (take n xs), length-take n xs, le, ap (λ (f : Fence). length f.hidden) (passes.2))

no_less : (n : ℕ) → 0 ≤ n
no_less n = omega arith

none_spent : (a b d : ℕ) → a ≤ b → b ≡ d → a + 0 ≤ d
none_spent a b d le is = omega (arith, le, is)

none_less : (old here new : ℕ) → old ≡ here → old ≤ new → here ≤ new + 8 * 0
none_less old here new is le = omega (arith, is, le)

fewer : (n old here mid new : ℕ) → old ≡ here → old ≤ mid → mid ≡ 8 * n + new → here ≤ new + 8 * n
fewer n old here mid new is le spent = omega (arith, is, le, spent)

no_value : (r : Result ℕ Why) (e : Why) → r ≡ Err e → r ≡ Ok 0 → ⊥
no_value r e a b = cc

pub refill-requires : goal.refill-requires
refill-requires g c = ap (λ (s : State). s.cursor.mark.unread) c.self.view_is ∙ c.requires

pub copy-requires : goal.copy-requires
copy-requires g c = c.in-Ok-true.ensures.word

pub returns-in-Ok-true-clause-bound : goal.returns-in-Ok-true-clause-bound
returns-in-Ok-true-clause-bound g c = c.copy.ensures.bound

pub returns-in-Ok-true-clause-counts : goal.returns-in-Ok-true-clause-counts
returns-in-Ok-true-clause-counts g c =
    pulled_counts g.R.Source c.self.inside.held c.refill.new.held c.copy.new.self c.self.inside.source c.refill.new.source c.in-Ok-true.field-0 c.args.self.now c.self.view_is c.in-Ok-true.ensures.pulls c.copy.ensures.taken.2

pub returns-in-Ok-true-clause-spends : goal.returns-in-Ok-true-clause-spends
returns-in-Ok-true-clause-spends g c =
    omega (arith, spent c.copy.result c.copy.new.out c.refill.new.held c.copy.new.self c.copy.ensures.bound c.copy.ensures.taken, c.in-Ok-true.ensures.pulls.moved.most, ap (λ (s : State). s.most) c.self.view_is)

pub returns-in-Ok-true-clause-whole : goal.returns-in-Ok-true-clause-whole
returns-in-Ok-true-clause-whole g c =
    let xs = take c.copy.result c.copy.new.out in
    let z : c.refill.new.held.mark.unread ≡ 0 = ap (λ (m : Mark). m.unread) c.in-Ok-true.ensures.pulls.mark ∙ ap (λ (s : State). s.cursor.mark.unread) c.self.view_is ∙ c.requires in
    ap (λ (m : Mark). m.unread) (c.copy.ensures.taken.1) ∙ past-unread (bits_of xs) 0 c.refill.new.held.mark z (omega arith) ∙ omega (arith, length-bits_of xs)

pub returns-in-Ok-true-clause-taken : goal.returns-in-Ok-true-clause-taken
returns-in-Ok-true-clause-taken g c = λ known.
    let told = ap (λ (s : State). s.known) c.self.view_is ∙ known in
    let pulls = c.in-Ok-true.ensures.pulls in
    let bits = pulls.moved.same told in
    let ys = g.R.Source.coming c.refill.new.source in
    let text = bits_of (take c.copy.result c.copy.new.out) in
    let rest = bits_of (allowed c.refill.new.held.fence.room ys) in
    let why = reason_of (reached c.refill.new.held.fence.room ys) (g.R.Source.after c.refill.new.source) in
    let reason = same_reason c.self.inside.held c.refill.new.held (g.R.Source.coming c.self.inside.source) ys _ _ bits (pulls.foretold told pulls.moved.errors) in
    let left = bits.left ∙ ap (λ (s : State). s.cursor.left) c.self.view_is in
    let marked : with_short why c.refill.new.held.mark ≡ c.args.self.now.cursor.mark =
    ap (λ w. with_short w c.refill.new.held.mark) reason ∙ ap (with_short _) pulls.mark ∙ ap (λ (s : State). s.cursor.mark) c.self.view_is in
    rw c.copy.ensures.taken.2 (
      sym left ∙ ap (λ bs. bs ++ rest) (c.copy.ensures.taken.0) ∙ append_assoc text (c.copy.new.self.word ++ bits_of c.copy.new.self.bytes) rest,
      ap (with_short why) (c.copy.ensures.taken.1) ∙ sym (past-with_short text why c.refill.new.held.mark) ∙ ap (past text) marked,
    )

pub returns-in-Ok-true-clause-over : goal.returns-in-Ok-true-clause-over
returns-in-Ok-true-clause-over g c = λ zero room known.
    let n : c.copy.result ≡ 0 = cc in
    let out : c.copy.new.self.bytes ≡ [] = c.copy.ensures.all (omega (arith, n, room)) in
    let more : 0 < length c.refill.new.held.bytes = c.in-Ok-true.ensures.more (ap Ok c.in-Ok-true.field-0-test) in
    let long = spent c.copy.result c.copy.new.out c.refill.new.held c.copy.new.self c.copy.ensures.bound c.copy.ensures.taken in
    absurd (omega (arith, n, more, long, length-append c.refill.new.held.word (bits_of c.refill.new.held.bytes), length-bits_of c.refill.new.held.bytes, ap (λ (bs : List Bool). length bs) c.copy.ensures.word, length-append c.copy.new.self.word (bits_of c.copy.new.self.bytes), length-bits_of c.copy.new.self.bytes, ap (λ (xs : List ℕ). length xs) out, ap (λ (f : Fence). length f.hidden) (c.copy.ensures.taken.2)))

pub returns-in-Ok-false : goal.returns-in-Ok-false
returns-in-Ok-false g c =
    let pulls = c.in-Ok-false.ensures.pulls in
    let old = c.self.inside.held in
    let new = c.refill.new.held in
    let ys = g.R.Source.coming c.refill.new.source in
    let known_is = ap (λ (s : State). s.known) c.self.view_is in
    let left_is = ap (λ (s : State). s.cursor.left) c.self.view_is in
    record {
      bound = no_less (length c.args.out.now);
      spends = none_spent _ _ _ pulls.moved.most (ap (λ (s : State). s.most) c.self.view_is);
      whole = ap (λ (m : Mark). m.unread) pulls.mark ∙ ap (λ (s : State). s.cursor.mark.unread) c.self.view_is ∙ c.requires;
      counts = pulled_counts g.R.Source old new new c.self.inside.source c.refill.new.source c.in-Ok-false.field-0 c.args.self.now c.self.view_is pulls refl;
      taken = λ known.
          let bits = pulls.moved.same (known_is ∙ known) in
          let reason = same_reason old new (g.R.Source.coming c.self.inside.source) ys _ _ bits (pulls.foretold (known_is ∙ known) pulls.moved.errors) in (
            sym (bits.left ∙ left_is),
            ap (λ w. with_short w new.mark) reason ∙ ap (with_short _) pulls.mark ∙ ap (λ (s : State). s.cursor.mark) c.self.view_is,
          );
      over = λ _ _ known.
          let over = pulls.over (ap Ok c.in-Ok-false.field-0-test) (known_is ∙ known) in
          (sym left_is ∙ over.0, λ e. over.1 (ap (λ (s : State). s.cursor.mark.short) c.self.view_is ∙ e));
      cut = tt;
      needed = none_less _ _ _ (ap (λ (s : State). s.held) c.self.view_is) pulls.moved.held;
    }

pub returns-in-Err : goal.returns-in-Err
returns-in-Err g c =
    let pulls = c.in-Err.ensures.pulls in
    let known_is = ap (λ (s : State). s.known) c.self.view_is in
    let errors_is = ap (λ (s : State). s.errors) c.self.view_is in
    record {
      bound = tt;
      spends = tt;
      whole = tt;
      counts = cut_counts g.R.Source c.self.inside.held c.refill.new.held c.self.inside.source c.refill.new.source c.in-Err.why c.args.self.now c.self.view_is pulls;
      taken = tt;
      over = λ e. absurd (no_value _ _ refl e);
      cut = (
        pulls.read,
        λ known same.
            let ends = pulls.ended (known_is ∙ known) (same ∙ sym errors_is) in
            (sym (ap (λ (s : State). s.cursor.left) c.self.view_is) ∙ ends.left, sym (ap (λ (s : State). s.cursor.mark.short) c.self.view_is) ∙ ends.reason),
      );
      needed = sym (ap (λ (s : State). s.held) c.self.view_is) ∙ pulls.none;
    }

pub returns-in-Ok-true-clause-needed : goal.returns-in-Ok-true-clause-needed
returns-in-Ok-true-clause-needed g c =
    fewer c.copy.result _ _ _ _ (ap (λ (s : State). s.held) c.self.view_is) c.in-Ok-true.ensures.pulls.moved.held (spent c.copy.result c.copy.new.out c.refill.new.held c.copy.new.self c.copy.ensures.bound c.copy.ensures.taken)
