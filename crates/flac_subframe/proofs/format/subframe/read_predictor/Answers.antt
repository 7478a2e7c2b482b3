use Rattle.std.proofs.Common.{arith, rules, refl, ◌≢◌, ◌+◌, ◌≤◌, ℕ, Bool, nat_eq, nat_lt, ◌∷◌, [], Result, Ok}
use Rattle.std.proofs.lemmas.Result.{err_from_is_err_and}
use Rattle.flac_bits.proofs.Counting.{answered_then, failed_then, refused_then}
use Rattle.flac_bits.proofs.Telling.{told_then, told_fault}
use Rattle.flac_subframe.proofs.lemmas.format.Bounds.{all_fit_15}
use Rattle.flac_subframe.proofs.lemmas.format.Judged.{told_past, told_broken}
use Rattle.flac_bits.specs.State.{Cursor}
use Rattle.flac_bits.specs.Layout.{Reason, unless_broken}
use Rattle.flac_bits.specs.declared.why.Why.TheVariants.{BadPredictor, Memory}
use Rattle.flac_subframe.specs.format.Subframe.{predictor}
use Rattle.flac_subframe.proofs.format.subframe.read_predictor.Goals as goal

bad_predictor : BadPredictor ≢ Memory
bad_predictor = λ q. cc

none_less : (a b c d : ℕ) → b + 4 ≤ a → c + 5 ≤ b → d + 0 ≤ c → d + 0 ≤ a
none_less a b c d p q r = omega arith

abbrev judged : Bool → Cursor → Result (Unit {0} × Cursor) Reason
judged broken d = unless_broken (record { broken = broken; why = BadPredictor } ∷ []) (Ok (tt, d))

pub returns-in_err-low : goal.returns-in_err-low
unfolding predictor
returns-in_err-low g c =
    let p = err_from_is_err_and c.from_residual.result c.from_residual.ensures.1 in
    rw (p.1, p.2) (record { shift = tt; fits = tt; reading = record { spends = tt; counts = c.in_err-low.ensures.reading.counts; memory = c.in_err-low.ensures.reading.memory; reads = told_fault c.args.bits.now c.take.new.self _ c.in_err-low.ensures.reading.reads } })

pub returns-in_err-shift : goal.returns-in_err-shift
unfolding predictor
returns-in_err-shift g c =
    let p = err_from_is_err_and c.from_residual-in_err-shift.result c.from_residual-in_err-shift.ensures.1 in
    rw (p.1, p.2) (record { shift = tt; fits = tt; reading = record { spends = tt; counts = failed_then c.args.bits.now c.take.new.self c.take-2.new.self c.in_ok-low.ensures.reading.counts c.in_err-shift.ensures.reading.counts; memory = c.in_err-shift.ensures.reading.memory; reads = told_then c.args.bits.now c.take.new.self c.take-2.new.self _ c.in_ok-low.ensures.reading.counts c.in_ok-low.ensures.reading.reads (told_past {read = judged (nat_eq c.in_ok-low.field-0 15) c.take.new.self.cursor} c.take.new.self c.take-2.new.self c.take.new.self.cursor _ (search rules) (told_fault c.take.new.self c.take-2.new.self _ c.in_err-shift.ensures.reading.reads)) } })

pub returns-in_err-signed_partition : goal.returns-in_err-signed_partition
unfolding predictor
returns-in_err-signed_partition g c =
    let p = err_from_is_err_and c.from_residual-in_err-signed_partition.result c.from_residual-in_err-signed_partition.ensures.1 in
    rw (p.1, p.2) (record { shift = tt; fits = tt; reading = record { spends = tt; counts = failed_then c.args.bits.now c.take.new.self c.signed_partition.new.self c.in_ok-low.ensures.reading.counts (failed_then c.take.new.self c.take-2.new.self c.signed_partition.new.self c.in_ok-shift.ensures.reading.counts c.in_err-signed_partition.ensures.reading.counts); memory = c.in_err-signed_partition.ensures.reading.memory; reads = told_then c.args.bits.now c.take.new.self c.signed_partition.new.self _ c.in_ok-low.ensures.reading.counts c.in_ok-low.ensures.reading.reads (told_past {read = judged (nat_eq c.in_ok-low.field-0 15) c.take.new.self.cursor} c.take.new.self c.signed_partition.new.self c.take.new.self.cursor _ (search rules) (told_then c.take.new.self c.take-2.new.self c.signed_partition.new.self _ c.in_ok-shift.ensures.reading.counts c.in_ok-shift.ensures.reading.reads (told_past {read = judged (nat_lt 15 c.in_ok-shift.field-0) c.take-2.new.self.cursor} c.take-2.new.self c.signed_partition.new.self c.take-2.new.self.cursor _ (search rules) (told_fault c.take-2.new.self c.signed_partition.new.self _ c.in_err-signed_partition.ensures.reading.reads)))) } })

pub returns-then-low-eq15 : goal.returns-then-low-eq15
unfolding predictor
returns-then-low-eq15 g c = record { shift = tt; fits = tt; reading = record { spends = tt; counts = refused_then c.args.bits.now c.take.new.self c.in_ok-low.ensures.reading.counts refl; memory = bad_predictor; reads = told_then c.args.bits.now c.take.new.self c.take.new.self _ c.in_ok-low.ensures.reading.counts c.in_ok-low.ensures.reading.reads (told_broken {read = judged (nat_eq c.in_ok-low.field-0 15) c.take.new.self.cursor} c.take.new.self c.take.new.self _ (search rules)) } }

pub returns-then-shift-gt15 : goal.returns-then-shift-gt15
unfolding predictor
returns-then-shift-gt15 g c = record { shift = tt; fits = tt; reading = record { spends = tt; counts = refused_then c.args.bits.now c.take-2.new.self (answered_then c.args.bits.now c.take.new.self c.take-2.new.self c.in_ok-low.ensures.reading.counts c.in_ok-shift.ensures.reading.counts) refl; memory = bad_predictor; reads = told_then c.args.bits.now c.take.new.self c.take-2.new.self _ c.in_ok-low.ensures.reading.counts c.in_ok-low.ensures.reading.reads (told_past {read = judged (nat_eq c.in_ok-low.field-0 15) c.take.new.self.cursor} c.take.new.self c.take-2.new.self c.take.new.self.cursor _ (search rules) (told_then c.take.new.self c.take-2.new.self c.take-2.new.self _ c.in_ok-shift.ensures.reading.counts c.in_ok-shift.ensures.reading.reads (told_broken {read = judged (nat_lt 15 c.in_ok-shift.field-0) c.take-2.new.self.cursor} c.take-2.new.self c.take-2.new.self _ (search rules)))) } }

pub returns-clause-reading : goal.returns-clause-reading
unfolding predictor
returns-clause-reading g c = record {
  spends = none_less _ _ _ _ c.in_ok-low.ensures.reading.spends c.in_ok-shift.ensures.reading.spends c.in_ok-signed_partition.ensures.reading.spends;
  counts = answered_then c.args.bits.now c.take.new.self c.signed_partition.new.self c.in_ok-low.ensures.reading.counts (answered_then c.take.new.self c.take-2.new.self c.signed_partition.new.self c.in_ok-shift.ensures.reading.counts c.in_ok-signed_partition.ensures.reading.counts);
  memory = tt;
  reads = told_then c.args.bits.now c.take.new.self c.signed_partition.new.self _ c.in_ok-low.ensures.reading.counts c.in_ok-low.ensures.reading.reads (told_past {read = judged (nat_eq c.in_ok-low.field-0 15) c.take.new.self.cursor} c.take.new.self c.signed_partition.new.self c.take.new.self.cursor _ (search rules) (told_then c.take.new.self c.take-2.new.self c.signed_partition.new.self _ c.in_ok-shift.ensures.reading.counts c.in_ok-shift.ensures.reading.reads (told_past {read = judged (nat_lt 15 c.in_ok-shift.field-0) c.take-2.new.self.cursor} c.take-2.new.self c.signed_partition.new.self c.take-2.new.self.cursor _ (search rules) (told_then c.take-2.new.self c.signed_partition.new.self c.signed_partition.new.self _ c.in_ok-signed_partition.ensures.reading.counts c.in_ok-signed_partition.ensures.reading.reads (λ known same. refl)))));
}

pub returns-clause-fits : goal.returns-clause-fits
returns-clause-fits g c = all_fit_15 (c.in_ok-low.field-0 + 1) c.signed_partition.new.values (omega (arith, c.in_ok-low.ensures.small, c.if-low-eq15.false)) c.in_ok-signed_partition.ensures.fits
