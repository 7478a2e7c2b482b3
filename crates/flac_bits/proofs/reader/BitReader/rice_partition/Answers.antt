use Rattle.std.proofs.Common.{rules, ◌≡◌, ◌+◌, ◌-◌, ◌<◌, List, [], ◌∷◌, ◌++◌, length, take, refl, sym, ap, arith, Result, Ok, ◌∙◌, ℤ, pos, below_more}
use Rattle.std.proofs.lemmas.Result.{err_from_is_err_and}
use Rattle.std.proofs.lemmas.List.{take_all, get_or-set_same, get_or-set_other}
use Rattle.std.proofs.lemmas.List.Elements.{All-from_get_or}
use Rattle.std.proofs.lemmas.Grind.{take-set_at}
use Rattle.flac_bits.specs.State.{Cursor}
use Rattle.flac_bits.specs.Layout.{run, and_then, Reason}
use Rattle.flac_bits.specs.Lists.{list_of, after}
use Rattle.flac_bits.specs.Rice.{rice_value}
use Rattle.flac_bits.specs.Rice.{IsResidual}
use Rattle.flac_bits.proofs.Loops.{goes_on, goes_same}
use Rattle.flac_bits.proofs.Lists.{list_more, list_end, list_start}
use Rattle.flac_bits.proofs.Signs.{residual_kept}
use Rattle.flac_bits.proofs.Counting.{gone, failed_then}
use Rattle.flac_bits.proofs.Listed.{list_cut}
use Rattle.flac_bits.proofs.Needing.{draws_then, list_none, list_drawn, list_ends}
use Rattle.flac_bits.proofs.reader.BitReader.rice_partition.Goals as goal

pub loop-i-preserved : goal.loop-i-preserved
loop-i-preserved g c =
    let n = length c.args.values.now in
    let i = c.loop-i.i in
    let field = rice_value c.args.k in
    let ready = c.ready_values-next in
    let stop : ready.result ≡ i = omega (arith, ready.ensures.within.0, c.if-next-i.false) in
    let got = rw (stop, c.loop-i.auto.values, c.top_up.ensures) at ready.ensures in
    let mid = ready.new.self in
    let values = ready.new.values in
    let short : i < length values = omega (arith, c.loop-i-test.true, ready.auto.values) in
    let within : i < n = omega (arith, c.loop-i-test.true, c.loop-i.auto.values) in
    let more : ℤ → Cursor → _ = λ v d. and_then (run (list_of (n - (i + 1)) field) d) (after (take i values ++ v ∷ [])) in
    let v = c.in_ok-values.field-0 in
    let same = residual_kept v c.in_ok-values.ensures.fits in
    let last = get_or-set_same values i v (pos 0) short in
    rw same (record {
      goes = goes_on c.args.self.now mid c.rice_value.new.self (run field mid.cursor) v more _ _ _
          (goes_same c.args.self.now c.loop-i.self mid _ _ _ c.loop-i.invariant.goes got.went.1.0 got.went.1.1 got.went.1.2 got.went.1.3 got.went.1.4 got.reads)
          (list_more n i field mid.cursor (take i values) within)
          (ap (λ front. and_then (run (list_of (n - (i + 1)) field) c.rice_value.new.self.cursor) (after front)) (sym (take-set_at values i (i + 1) v refl short)))
          c.in_ok-values.ensures.reading.counts c.in_ok-values.ensures.reading.reads;
      drawn = list_drawn n i field v c.args.self.now mid c.rice_value.new.self within (λ known. rw got.went.1.0 (c.loop-i.invariant.goes.known known))
          (draws_then c.args.self.now c.loop-i.self mid c.loop-i.invariant.goes.known c.loop-i.invariant.drawn got.drawn)
          (λ known. c.in_ok-values.ensures.reading.reads known c.in_ok-values.ensures.reading.counts.1) c.in_ok-values.ensures.needed;
      fits = below_more _ i (λ j h. rw (get_or-set_other values i j v (pos 0) (λ e. omega arith)) (got.fits c.loop-i.invariant.fits j h)) (rw last c.in_ok-values.ensures.fits);
      spent = omega (arith, c.in_ok-values.ensures.reading.spends, got.went.0, c.loop-i.invariant.spent);
    })

pub loop-i-init : goal.loop-i-init
loop-i-init g c =
    let n = length c.args.values.now in
    let e : n - 0 ≡ n = omega arith in
    record {
      goes = record { known = λ h. h; errors = refl; raised = refl; after = λ _. refl; names = refl; reads = λ _. rw e (list_start _) };
      drawn = list_none n (rice_value c.args.k) c.args.self.now;
      fits = λ j h. absurd (omega arith);
      spent = omega arith;
    }

pub returns-clause-fits : goal.returns-clause-fits
returns-clause-fits g c = All-from_get_or (IsResidual) c.loop-i.values (pos 0) (λ j h. c.loop-i.invariant.fits j (omega (arith, c.loop-i.auto.values, c.loop-i-test.false)))

abbrev okay : List ℤ × Cursor → Result (List ℤ × Cursor) Reason
okay y = Ok y

pub returns-clause-reading : goal.returns-clause-reading
returns-clause-reading g c = record {
  spends = search rules;
  counts = gone c.loop-i.invariant.goes;
  memory = search rules;
  reads = (λ known same. sym (c.loop-i.invariant.goes.reads known) ∙ list_end (length c.args.values.now) c.loop-i.i (rice_value c.args.k) c.loop-i.self.cursor (take c.loop-i.i c.loop-i.values) (omega (arith, c.loop-i-test.false, c.loop-i.auto.values)) ∙ ap (λ front. okay (front, c.loop-i.self.cursor)) (take_all c.loop-i.i c.loop-i.values (omega (arith, c.loop-i.auto.values, c.loop-i-test.false))));
}

pub loop-i-preserved-then-next-i : goal.loop-i-preserved-then-next-i
loop-i-preserved-then-next-i g c =
    let inv = c.loop-i.invariant in
    let ready = c.ready_values-next in
    let got = rw (c.loop-i.auto.values, c.top_up.ensures) at ready.ensures in
    record {
      goes = goes_same c.args.self.now c.loop-i.self ready.new.self _ _ _ inv.goes got.went.1.0 got.went.1.1 got.went.1.2 got.went.1.3 got.went.1.4 got.reads;
      drawn = draws_then c.args.self.now c.loop-i.self ready.new.self inv.goes.known inv.drawn got.drawn;
      fits = got.fits inv.fits;
      spent = omega (arith, got.went.0, inv.spent);
    }

pub returns-in_err-values : goal.returns-in_err-values
returns-in_err-values g c =
    let p = err_from_is_err_and c.from_residual.result c.from_residual.ensures.1 in
    let i = c.loop-i.i in
    let ready = c.ready_values-next in
    let stop : ready.result ≡ i = omega (arith, ready.ensures.within.0, c.if-next-i.false) in
    let got = rw (stop, c.loop-i.auto.values, c.top_up.ensures) at ready.ensures in
    let mid = ready.new.self in
    let within : i < length c.args.values.now = omega (arith, c.loop-i-test.true, c.loop-i.auto.values) in
    let goes = goes_same c.args.self.now c.loop-i.self mid _ _ _ c.loop-i.invariant.goes got.went.1.0 got.went.1.1 got.went.1.2 got.went.1.3 got.went.1.4 got.reads in
    let failed = c.in_err-values.ensures.reading in
    rw (p.1, p.2) (record {
      fits = tt;
      reading = record {
        spends = tt;
        counts = failed_then c.args.self.now mid c.rice_value.new.self (gone goes) failed.counts;
        memory = failed.memory;
        reads = λ known same.
            list_cut (length c.args.values.now) i (rice_value c.args.k) (take i ready.new.values) _
            c.args.self.now mid within goes known (failed.reads (goes.known known) (same ∙ sym goes.errors));
      };
      needed = list_ends (length c.args.values.now) i (rice_value c.args.k) c.args.self.now mid _ within goes.known
          (draws_then c.args.self.now c.loop-i.self mid c.loop-i.invariant.goes.known c.loop-i.invariant.drawn got.drawn) c.in_err-values.ensures.needed;
    })

pub returns-clause-needed : goal.returns-clause-needed
returns-clause-needed g c = c.loop-i.invariant.drawn.held
