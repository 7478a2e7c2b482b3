use Rattle.std.proofs.Common.{◌≡◌, ◌+◌, ◌-◌, ◌*◌, ◌<◌, ◌≤◌, ℕ, zero, suc, List, [], Bool, Ok, length, take, drop, refl, sym, ap, ◌∙◌, arith}
use borrow.Rule.Slice.PartMut.{put_mid}
use Rattle.std.proofs.lemmas.List.{length-append, length-take, length-drop}
use Rattle.flac_bits.specs.Bits.{bits_of}
use Rattle.flac_bits.specs.State.{State, Mark, Cursor, Consumes}
use Rattle.flac_bits.specs.declared.why.Why.TheVariants.{Read}
use Rattle.flac_bits.proofs.Counting.{answered_then, failed_then}
use Rattle.flac_bits.proofs.Copied.{put_taken, put_long}
use Rattle.flac_bits.proofs.Holding.{length-bits_of}
use Rattle.flac_bits.proofs.Unchecked.{fills_zero, fills_more, fills_short, fills_still}
use Rattle.flac_bits.proofs.reader.BitReader.take_pieces.Goals as goal

-- no byte more is no bit fewer
still_over : (n : ℕ) (ys : List ℕ) (old new : Cursor) → n ≡ 0 → Consumes (bits_of (take n ys)) old new → (old.left ≡ []) × (old.mark.short ≡ Read → ⊥) → (new.left ≡ []) × (new.mark.short ≡ Read → ⊥)
still_over zero ys old new z c over = (sym c.0 ∙ over.0, λ e. over.1 (sym (ap (λ (m : Mark). m.short) c.1) ∙ e))
still_over (suc n) ys old new z c over = absurd (omega (arith, z))

still_spent : (n done new mid old : ℕ) → n ≡ 0 → new + 8 * n ≤ mid → mid + 8 * done ≤ old → new + 8 * done ≤ old
still_spent n done new mid old z a b = omega (arith, z, a, b)

still_held : (n done new mid old : ℕ) → n ≡ 0 → mid ≤ new + 8 * n → old ≤ mid + 8 * done → old ≤ new + 8 * done
still_held n done new mid old z a b = omega (arith, z, a, b)

few_held : (done long many mid old : ℕ) → long ≡ many → done < many → mid ≡ 0 → old ≤ mid + 8 * done → old < 8 * long
few_held done long many mid old is lt z a = omega (arith, is, lt, z, a)

within_long : (done a b : ℕ) → done ≤ b → a ≡ b → done ≤ a
within_long done a b le e = omega (arith, le, e)

room_left : (done a b : ℕ) → done < b → a ≡ b - done → 0 < a
room_left done a b lt e = omega (arith, lt, e)

all_done : (done a : ℕ) → a ≤ done → done < a → ⊥
all_done done a le lt = omega (arith, le, lt)

part_long : (k done n : ℕ) (xs : List ℕ) → n ≡ length (take k (drop done xs)) → k ≡ length xs - done → n ≡ length xs - done
part_long k done n xs e is = omega (arith, e, is, length-take k (drop done xs), length-drop done xs)

pub slice_bounds-some_bytes-count : goal.slice_bounds-some_bytes-count
slice_bounds-some_bytes-count g c = c.loop-done.invariant.within

pub some_bytes-requires : goal.some_bytes-requires
some_bytes-requires g c = c.loop-done.invariant.whole

pub loop-done-init : goal.loop-done-init
loop-done-init g c =
    let first = c.start_unless.ensures in
    record {
      within = omega arith;
      whole = fills_zero c.args.checked c.args.self.now.cursor.mark c.start_unless.new.self.cursor.mark c.requires (ap (λ (s : State). s.cursor.mark) first);
      spent = omega (arith, ap (λ (s : State). s.most) first);
      held = omega (arith, ap (λ (s : State). s.held) first);
      known = λ known. ap (λ (s : State). s.known) first ∙ known;
      errors = ap (λ (s : State). s.errors) first;
      raised = ap (λ (s : State). s.raised) first;
      after = λ _. ap (λ (s : State). s.after) first;
      names = ap (λ (s : State). s.names) first;
      taken = λ _. (sym (ap (λ (s : State). s.cursor.left) first), ap (λ (s : State). s.cursor.mark) first);
    }

pub loop-done-preserved : goal.loop-done-preserved
loop-done-preserved g c =
    let inv = c.loop-done.invariant in
    let got = c.in-Ok.ensures in
    let n = c.in-Ok.n in
    let done = c.loop-done.done in
    let xs = c.loop-done.out in
    let ys = c.some_bytes.new.out in
    let room = inv.within in
    let again = c.start_unless-in-loop-done.ensures in
    let long : length ys ≡ length xs - done = c.some_bytes.auto.out ∙ omega (arith, length-take (length xs - done) (drop done xs), length-drop done xs) in
    record {
      within = omega (arith, put_long done xs ys room long, got.bound, long, room);
      whole = fills_zero c.args.checked c.some_bytes.new.self.cursor.mark c.start_unless-in-loop-done.new.self.cursor.mark got.whole (ap (λ (s : State). s.cursor.mark) again);
      spent = omega (arith, got.spends, inv.spent, ap (λ (s : State). s.most) again);
      held = omega (arith, got.needed, inv.held, ap (λ (s : State). s.held) again);
      known = λ known. ap (λ (s : State). s.known) again ∙ got.counts.0 (inv.known known);
      errors = ap (λ (s : State). s.errors) again ∙ got.counts.1 ∙ inv.errors;
      raised = ap (λ (s : State). s.raised) again ∙ got.counts.2 ∙ inv.raised;
      after = λ known. ap (λ (s : State). s.after) again ∙ got.counts.3 (inv.known known) ∙ inv.after known;
      names = ap (λ (s : State). s.names) again ∙ got.counts.4 ∙ inv.names;
      taken = λ known. fills_more c.args.checked (take done xs) (take n ys) _ c.args.self.now.cursor c.loop-done.self.cursor c.some_bytes.new.self.cursor c.start_unless-in-loop-done.new.self.cursor
          (put_taken done (length xs - done) n xs ys room got.bound) (inv.taken known) (got.taken (inv.known known)) got.whole (ap (λ (s : State). s.cursor.left) again) (ap (λ (s : State). s.cursor.mark) again);
    }

pub returns-in-Ok-eq0 : goal.returns-in-Ok-eq0
returns-in-Ok-eq0 g c =
    let inv = c.loop-done.invariant in
    let got = c.in-Ok-eq0.ensures in
    let zero_is = c.in-Ok-eq0.field-0-test in
    let done = c.loop-done.done in
    let xs = c.loop-done.out in
    let ys = c.some_bytes.new.out in
    let n = c.in-Ok-eq0.field-0 in
    let long : length ys ≡ length xs - done = part_long _ done (length ys) xs c.some_bytes.auto.out refl in
    let none : done ≡ done + n = omega (arith, zero_is) in
    record {
      bound = within_long done _ (length xs) inv.within (put_long done xs ys inv.within long);
      spends = still_spent n done _ _ _ zero_is got.spends inv.spent;
      whole = got.whole;
      counts = answered_then c.args.self.now c.loop-done.self c.some_bytes.new.self (inv.known, inv.errors, inv.raised, inv.after, inv.names) got.counts;
      taken = λ known.
          fills_still c.args.checked n (take done xs) ys _ c.args.self.now.cursor c.loop-done.self.cursor c.some_bytes.new.self.cursor zero_is
          (ap (λ k. take k (put_mid done (length xs - done) xs ys)) none ∙ put_taken done (length xs - done) n xs ys inv.within got.bound) (inv.taken known) (got.taken (inv.known known));
      over = λ _ known.
          still_over n ys c.loop-done.self.cursor c.some_bytes.new.self.cursor zero_is (got.taken (inv.known known))
          (got.over (ap Ok zero_is) (room_left done (length ys) (length xs) c.loop-done-test.true long) (inv.known known));
      cut = tt;
      needed = still_held n done _ _ _ zero_is got.needed inv.held;
    }

pub returns-in-Err : goal.returns-in-Err
returns-in-Err g c =
    let inv = c.loop-done.invariant in
    let cut = c.in-Err.ensures.cut in
    let done = c.loop-done.done in
    let xs = c.loop-done.out in
    let ys = c.some_bytes.new.out in
    let long : length ys ≡ length xs - done = part_long _ done (length ys) xs c.some_bytes.auto.out refl in
    let all = put_long done xs ys inv.within long in
    record {
      bound = tt;
      spends = tt;
      whole = tt;
      counts = failed_then c.args.self.now c.loop-done.self c.some_bytes.new.self (inv.known, inv.errors, inv.raised, inv.after, inv.names) c.in-Err.ensures.counts;
      taken = tt;
      over = tt;
      cut = (
        cut.0,
        λ known same.
            let over = cut.1 (inv.known known) (same ∙ sym inv.errors) in
            let taken = inv.taken known in (
              omega (arith, all, c.loop-done-test.true, ap (λ (bs : List Bool). length bs) (taken.0), length-append (bits_of (take done xs)) c.loop-done.self.cursor.left, length-bits_of (take done xs), length-take done xs, ap (λ (bs : List Bool). length bs) (over.0)),
              sym (fills_short c.args.checked (bits_of (take done xs)) c.args.self.now.cursor c.loop-done.self.cursor taken) ∙ over.1,
            ),
      );
      needed = few_held done _ _ _ _ all c.loop-done-test.true c.in-Err.ensures.needed inv.held;
    }

pub returns : goal.returns
returns g c =
    let inv = c.loop-done.invariant in
    record {
      bound = inv.within;
      spends = inv.spent;
      whole = inv.whole;
      counts = (inv.known, inv.errors, inv.raised, inv.after, inv.names);
      taken = inv.taken;
      over = λ lt. absurd (all_done _ _ c.loop-done-test.false lt);
      cut = tt;
      needed = inv.held;
    }
