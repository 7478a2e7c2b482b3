use Rattle.std.proofs.Common.{rules, refl, ◌≢◌, ℕ, nat_lt, not, ◌∷◌, [], Result, Ok}
use Rattle.std.proofs.lemmas.Result.{err_from_is_err_and}
use Rattle.flac_bits.proofs.Counting.{answered_then, failed_then, refused_then}
use Rattle.flac_bits.proofs.Telling.{told_then, told_fault}
use Rattle.flac_subframe.proofs.lemmas.format.Judged.{told_past, told_broken}
use Rattle.flac_bits.specs.State.{Cursor}
use Rattle.flac_bits.specs.Layout.{Reason, unless_broken}
use Rattle.flac_bits.specs.declared.why.Why.TheVariants.{NotSubset, BadPartition, Memory}
use Rattle.flac_subframe.specs.format.Residual.{residual_header, can_halve}
use Rattle.flac_subframe.proofs.format.residual.read_residual_header.Goals as goal

not_subset : NotSubset ≢ Memory
not_subset = λ q. cc

bad_partition : BadPartition ≢ Memory
bad_partition = λ q. cc

-- the rules at the end of the method, and at that of the partition order
abbrev judged : ℕ → Cursor → Result (Unit {0} × Cursor) Reason
judged method d = unless_broken (record { broken = nat_lt 1 method; why = BadPartition } ∷ []) (Ok (tt, d))

abbrev judged_order : ℕ → ℕ → ℕ → ℕ → Cursor → Result (Unit {0} × Cursor) Reason
judged_order limit order block partition_order d = unless_broken (record { broken = nat_lt limit partition_order; why = NotSubset } ∷ record { broken = not (can_halve block partition_order order); why = BadPartition } ∷ []) (Ok (tt, d))

pub returns-in_err-code : goal.returns-in_err-code
unfolding residual_header
returns-in_err-code g c =
    let p = err_from_is_err_and c.from_residual.result c.from_residual.ensures.1 in
    rw (p.1, p.2) (record { partition_order = tt; whole = tt; room = tt; reading = record { spends = tt; counts = c.in_err-code.ensures.reading.counts; memory = c.in_err-code.ensures.reading.memory; reads = told_fault c.args.bits.now c.take.new.self _ c.in_err-code.ensures.reading.reads } })

pub returns-in_err-partition_order : goal.returns-in_err-partition_order
unfolding residual_header
returns-in_err-partition_order g c =
    let p = err_from_is_err_and c.from_residual-in_err-partition_order.result c.from_residual-in_err-partition_order.ensures.1 in
    rw (p.1, p.2) (record { partition_order = tt; whole = tt; room = tt; reading = record { spends = tt; counts = failed_then c.args.bits.now c.take.new.self c.take-2.new.self c.in_ok-code.ensures.reading.counts c.in_err-partition_order.ensures.reading.counts; memory = c.in_err-partition_order.ensures.reading.memory; reads = told_then c.args.bits.now c.take.new.self c.take-2.new.self _ c.in_ok-code.ensures.reading.counts c.in_ok-code.ensures.reading.reads (told_past {read = judged c.in_ok-code.code c.take.new.self.cursor} c.take.new.self c.take-2.new.self c.take.new.self.cursor _ (search rules) (told_fault c.take.new.self c.take-2.new.self _ c.in_err-partition_order.ensures.reading.reads)) } })

pub returns-then-partition_order-limit : goal.returns-then-partition_order-limit
unfolding residual_header
returns-then-partition_order-limit g c = record { partition_order = tt; whole = tt; room = tt; reading = record { spends = tt; counts = refused_then c.args.bits.now c.take-2.new.self (answered_then c.args.bits.now c.take.new.self c.take-2.new.self c.in_ok-code.ensures.reading.counts c.in_ok-partition_order.ensures.reading.counts) refl; memory = not_subset; reads = told_then c.args.bits.now c.take.new.self c.take-2.new.self _ c.in_ok-code.ensures.reading.counts c.in_ok-code.ensures.reading.reads (told_past {read = judged c.in_ok-code.code c.take.new.self.cursor} c.take.new.self c.take-2.new.self c.take.new.self.cursor _ (search rules) (told_then c.take.new.self c.take-2.new.self c.take-2.new.self _ c.in_ok-partition_order.ensures.reading.counts c.in_ok-partition_order.ensures.reading.reads (told_broken {read = judged_order c.args.limit c.args.order c.args.block c.in_ok-partition_order.field-0 c.take-2.new.self.cursor} c.take-2.new.self c.take-2.new.self _ (search rules)))) } }

pub returns-then-block-count-ne0 : goal.returns-then-block-count-ne0
unfolding residual_header
returns-then-block-count-ne0 g c = record { partition_order = tt; whole = tt; room = tt; reading = record { spends = tt; counts = refused_then c.args.bits.now c.take-2.new.self (answered_then c.args.bits.now c.take.new.self c.take-2.new.self c.in_ok-code.ensures.reading.counts c.in_ok-partition_order.ensures.reading.counts) refl; memory = bad_partition; reads = told_then c.args.bits.now c.take.new.self c.take-2.new.self _ c.in_ok-code.ensures.reading.counts c.in_ok-code.ensures.reading.reads (told_past {read = judged c.in_ok-code.code c.take.new.self.cursor} c.take.new.self c.take-2.new.self c.take.new.self.cursor _ (search rules) (told_then c.take.new.self c.take-2.new.self c.take-2.new.self _ c.in_ok-partition_order.ensures.reading.counts c.in_ok-partition_order.ensures.reading.reads (told_broken {read = judged_order c.args.limit c.args.order c.args.block c.in_ok-partition_order.field-0 c.take-2.new.self.cursor} c.take-2.new.self c.take-2.new.self _ (search rules)))) } }

pub returns-clause-reading : goal.returns-clause-reading
unfolding residual_header
returns-clause-reading g c = record {
  spends = search rules;
  counts = answered_then c.args.bits.now c.take.new.self c.take-2.new.self c.in_ok-code.ensures.reading.counts c.in_ok-partition_order.ensures.reading.counts;
  memory = tt;
  reads = told_then c.args.bits.now c.take.new.self c.take-2.new.self _ c.in_ok-code.ensures.reading.counts c.in_ok-code.ensures.reading.reads (told_past {read = judged c.in_ok-code.code c.take.new.self.cursor} c.take.new.self c.take-2.new.self c.take.new.self.cursor _ (search rules) (told_then c.take.new.self c.take-2.new.self c.take-2.new.self _ c.in_ok-partition_order.ensures.reading.counts c.in_ok-partition_order.ensures.reading.reads (told_past {read = judged_order c.args.limit c.args.order c.args.block c.in_ok-partition_order.field-0 c.take-2.new.self.cursor} c.take-2.new.self c.take-2.new.self c.take-2.new.self.cursor _ (search rules) (λ known same. rw c.in-Some.ensures.code refl))));
}
