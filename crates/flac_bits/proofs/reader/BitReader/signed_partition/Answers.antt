use Rattle.std.proofs.Common.{rules, ◌≡◌, ◌+◌, ◌-◌, ◌*◌, ◌<◌, ◌≤◌, ℕ, List, [], ◌∷◌, ◌++◌, length, take, refl, sym, ap, arith, Result, Ok, ◌∙◌, ℤ, pos, below_more}
use Rattle.std.proofs.lemmas.Result.{err_from_is_err_and}
use Rattle.std.proofs.lemmas.List.{take_all, get_or-set_same, get_or-set_other}
use Rattle.std.proofs.lemmas.List.Elements.{All-from_get_or}
use Rattle.std.proofs.lemmas.Grind.{take-set_at}
use Rattle.flac_bits.specs.State.{Cursor}
use Rattle.flac_bits.specs.Layout.{run, and_then, Reason}
use Rattle.flac_bits.specs.Lists.{list_of, after}
use Rattle.flac_bits.specs.Signed.{signed_field}
use Rattle.flac_bits.specs.Signed.{FitsBits}
use Rattle.flac_bits.proofs.Loops.{goes_on}
use Rattle.flac_bits.proofs.Lists.{list_more, list_end, list_start}
use Rattle.flac_bits.proofs.Signs.{signed_kept}
use Rattle.flac_bits.proofs.Counting.{gone, failed_then}
use Rattle.flac_bits.proofs.Listed.{list_cut}
use Rattle.std.proofs.Math.Nat.{mul-le-mul_right}
use Rattle.flac_bits.proofs.reader.BitReader.signed_partition.Goals as goal

-- one more number of n bits
partly : (n i old now next : ℕ) → old ≤ now + n * i → now ≤ next + n → old ≤ next + n * (i + 1)
partly n i old now next a b = let e : n * (i + 1) ≡ n * i + n = grind arith in omega (arith, a, b, e)

partly_cut : (n i k old now : ℕ) → i < k → old ≤ now + n * i → now < n → old < n * k
partly_cut n i k old now lt a b =
    let e : (i + 1) * n ≡ n * i + n = grind arith in
    let le : (i + 1) * n ≤ k * n = mul-le-mul_right {m = i + 1} {n = k} n (omega (arith, lt)) in
    let f : k * n ≡ n * k = grind arith in
    omega (arith, a, b, e, le, f)

partly_end : (n i k old now : ℕ) → i ≤ k → old ≤ now + n * i → old ≤ now + n * k
partly_end n i k old now le a =
    let more : i * n ≤ k * n = mul-le-mul_right {m = i} {n = k} n le in
    let e : i * n ≡ n * i = grind arith in
    let f : k * n ≡ n * k = grind arith in
    omega (arith, a, more, e, f)

pub loop-i-preserved : goal.loop-i-preserved
loop-i-preserved g c =
    let n = length c.args.values.now in
    let i = c.loop-i.i in
    let field = signed_field c.args.n in
    let more : ℤ → Cursor → _ = λ v d. and_then (run (list_of (n - (i + 1)) field) d) (after (take i c.loop-i.values ++ v ∷ [])) in
    let v = c.in_ok-values.field-0 in
    let same = signed_kept c.args.n v c.requires.some c.requires.few c.in_ok-values.ensures.fits in
    let last = get_or-set_same c.loop-i.values i v (pos 0) (omega (arith, c.loop-i.auto.values, c.loop-i-test.true)) in
    rw same (record {
      goes = goes_on c.args.self.now c.loop-i.self c.take_signed.new.self (run field c.loop-i.self.cursor) v more _ _ _
          c.loop-i.invariant.goes (list_more n i field c.loop-i.self.cursor (take i c.loop-i.values) c.loop-i-test.true)
          (ap (λ front. and_then (run (list_of (n - (i + 1)) field) c.take_signed.new.self.cursor) (after front)) (sym (take-set_at c.loop-i.values i (i + 1) v refl (omega (arith, c.loop-i.auto.values, c.loop-i-test.true)))))
          c.in_ok-values.ensures.reading.counts c.in_ok-values.ensures.reading.reads;
      fits = below_more _ i (λ j h. rw (get_or-set_other c.loop-i.values i j v (pos 0) (λ e. omega arith)) (c.loop-i.invariant.fits j h)) (rw last c.in_ok-values.ensures.fits);
      held = partly c.args.n i _ _ _ c.loop-i.invariant.held c.in_ok-values.ensures.needed;
      spent = omega (arith, c.in_ok-values.ensures.reading.spends);
    })

pub loop-i-init : goal.loop-i-init
loop-i-init g c =
    let n = length c.args.values.now in
    let e : n - 0 ≡ n = omega arith in
    record {
      goes = record { known = λ h. h; errors = refl; raised = refl; after = λ _. refl; names = refl; reads = λ _. rw e (list_start _) };
      fits = λ j h. absurd (omega arith);
      held = omega arith;
      spent = omega arith;
    }

pub returns-clause-fits : goal.returns-clause-fits
returns-clause-fits g c = All-from_get_or (FitsBits c.args.n) c.loop-i.values (pos 0) (λ j h. c.loop-i.invariant.fits j (omega (arith, c.loop-i.auto.values, c.loop-i-test.false)))

abbrev okay : List ℤ × Cursor → Result (List ℤ × Cursor) Reason
okay y = Ok y

pub returns-clause-reading : goal.returns-clause-reading
returns-clause-reading g c = record {
  spends = search rules;
  counts = gone c.loop-i.invariant.goes;
  memory = search rules;
  reads = (λ known same. sym (c.loop-i.invariant.goes.reads known) ∙ list_end (length c.args.values.now) c.loop-i.i (signed_field c.args.n) c.loop-i.self.cursor (take c.loop-i.i c.loop-i.values) c.loop-i-test.false ∙ ap (λ front. okay (front, c.loop-i.self.cursor)) (take_all c.loop-i.i c.loop-i.values (omega (arith, c.loop-i.auto.values, c.loop-i-test.false))));
}

pub returns-in_err-values : goal.returns-in_err-values
returns-in_err-values g c =
    let p = err_from_is_err_and c.from_residual.result c.from_residual.ensures.1 in
    let goes = c.loop-i.invariant.goes in
    let failed = c.in_err-values.ensures.reading in
    rw (p.1, p.2) (record {
      fits = tt;
      reading = record {
        spends = tt;
        counts = failed_then c.args.self.now c.loop-i.self c.take_signed.new.self (gone goes) failed.counts;
        memory = failed.memory;
        reads = λ known same.
            list_cut (length c.args.values.now) c.loop-i.i (signed_field c.args.n) (take c.loop-i.i c.loop-i.values) _
            c.args.self.now c.loop-i.self c.loop-i-test.true goes known (failed.reads (goes.known known) (same ∙ sym goes.errors));
      };
      needed = λ read. partly_cut c.args.n c.loop-i.i (length c.args.values.now) _ _ c.loop-i-test.true c.loop-i.invariant.held (c.in_err-values.ensures.needed read);
    })

pub take_signed-requires : goal.take_signed-requires
take_signed-requires g c = c.requires

pub returns-clause-needed : goal.returns-clause-needed
returns-clause-needed g c = partly_end c.args.n c.loop-i.i (length c.args.values.now) _ _ c.loop-i.auto.i-end c.loop-i.invariant.held
