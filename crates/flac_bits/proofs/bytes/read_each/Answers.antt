use Rattle.std.proofs.Common.{rules, ℕ, ◌+◌, ◌-◌, List, [], ◌∷◌, ◌++◌, length, take, refl, sym, ap, arith, Result, Ok, ◌∙◌}
use Rattle.std.proofs.lemmas.Result.{err_from_is_err_and}
use Rattle.std.proofs.lemmas.List.{take_all}
use Rattle.std.proofs.lemmas.Grind.{take-set_at}
use Rattle.flac_bits.specs.State.{Cursor}
use Rattle.flac_bits.specs.Layout.{bits, run, and_then, number_at, Reason}
use Rattle.flac_bits.specs.Lists.{list_of, after}
use Rattle.flac_bits.proofs.Loops.{goes_on}
use Rattle.flac_bits.proofs.Lists.{list_more, list_end}
use Rattle.flac_bits.proofs.Counting.{gone, failed_then}
use Rattle.flac_bits.proofs.Listed.{list_cut}
use Rattle.flac_bits.proofs.bytes.read_each.Goals as goal

pub loop-i-preserved : goal.loop-i-preserved
loop-i-preserved g c =
    let n = length c.args.out.now in
    let i = c.loop-i.i in
    let more : ℕ → Cursor → _ = λ v d. and_then (run (list_of (n - (i + 1)) (bits 8)) d) (after (take i c.loop-i.out ++ v ∷ [])) in
    record {
      spent = omega (arith, c.in_ok-out.ensures.reading.spends);
      held = omega (arith, c.loop-i.invariant.held, c.in_ok-out.ensures.needed);
      goes = goes_on c.args.bits.now c.loop-i.bits c.take.new.self (number_at 8 c.loop-i.bits.cursor) c.in_ok-out.field-0 more _ _ _
          c.loop-i.invariant.goes (list_more n i (bits 8) c.loop-i.bits.cursor (take i c.loop-i.out) c.loop-i-test.true)
          (ap (λ front. and_then (run (list_of (n - (i + 1)) (bits 8)) c.take.new.self.cursor) (after front)) (sym (take-set_at c.loop-i.out i (i + 1) c.in_ok-out.field-0 refl (omega (arith, c.loop-i.auto.out, c.loop-i-test.true)))))
          c.in_ok-out.ensures.reading.counts c.in_ok-out.ensures.reading.reads;
    }

abbrev okay : List ℕ × Cursor → Result (List ℕ × Cursor) Reason
okay y = Ok y

pub returns : goal.returns
returns g c = record {
  reading = record {
    spends = search rules;
    counts = gone c.loop-i.invariant.goes;
    memory = search rules;
    reads = (λ known same. sym (c.loop-i.invariant.goes.reads known) ∙ list_end (length c.args.out.now) c.loop-i.i (bits 8) c.loop-i.bits.cursor (take c.loop-i.i c.loop-i.out) c.loop-i-test.false ∙ ap (λ front. okay (front, c.loop-i.bits.cursor)) (take_all c.loop-i.i c.loop-i.out (omega (arith, c.loop-i.auto.out, c.loop-i-test.false))));
  };
  needed = omega (arith, c.loop-i.invariant.held, c.loop-i.auto.i-end);
}

pub returns-in_err-out : goal.returns-in_err-out
returns-in_err-out g c =
    let p = err_from_is_err_and c.from_residual.result c.from_residual.ensures.1 in
    let goes = c.loop-i.invariant.goes in
    let failed = c.in_err-out.ensures.reading in
    rw (p.1, p.2) (record {
      reading = record {
        spends = tt;
        counts = failed_then c.args.bits.now c.loop-i.bits c.take.new.self (gone goes) failed.counts;
        memory = failed.memory;
        reads = λ known same.
            list_cut (length c.args.out.now) c.loop-i.i (bits 8) (take c.loop-i.i c.loop-i.out) _
            c.args.bits.now c.loop-i.bits c.loop-i-test.true goes known (failed.reads (goes.known known) (same ∙ sym goes.errors));
      };
      needed = λ read. omega (arith, c.loop-i.invariant.held, c.loop-i-test.true, c.in_err-out.ensures.needed read);
    })
