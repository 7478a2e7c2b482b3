use Rattle.std.proofs.Common.{arith, rules, refl, ◌≢◌, ◌+◌, ◌≤◌, ℕ, nat_eq, nat_lt, not, ◌||◌, ◌&&◌, ◌∷◌, [], Result, Ok}
use Rattle.std.proofs.lemmas.Result.{err_from_is_err_and}
use Rattle.flac_bits.proofs.Counting.{answered_then, failed_then, refused_then}
use Rattle.flac_bits.proofs.Telling.{told_then, told_fault}
use Rattle.flac_subframe.proofs.lemmas.format.Judged.{told_past, told_broken}
use Rattle.flac_bits.specs.State.{Cursor}
use Rattle.flac_bits.specs.Layout.{Reason, unless_broken}
use Rattle.flac_bits.specs.declared.why.Why.TheVariants.{NotSubset, BadSubframe, BadPartition, Memory}
use Rattle.flac_subframe.specs.format.Subframe.{header, is_reserved, linear_order, predictor_order}
use Rattle.flac_subframe.proofs.format.subframe.read_header.Goals as goal

bad_subframe : BadSubframe ≢ Memory
bad_subframe = λ q. cc

not_subset : NotSubset ≢ Memory
not_subset = λ q. cc

bad_partition : BadPartition ≢ Memory
bad_partition = λ q. cc

eight_spent : (a b c d e : ℕ) → b + 1 ≤ a → c + 6 ≤ b → d + 1 ≤ c → e + 0 ≤ d → e + 8 ≤ a
eight_spent a b c d e p q r s = omega arith

-- the rules at the end of the flag
abbrev judged : ℕ → ℕ → ℕ → ℕ → ℕ → ℕ → Cursor → Result (Unit {0} × Cursor) Reason
judged first kind flag depth block most d = unless_broken (
    record { broken = nat_eq first 1 || (is_reserved kind || (nat_eq flag 1 && nat_lt depth 2)); why = BadSubframe } ∷
    record { broken = nat_lt most (linear_order kind); why = NotSubset } ∷
    record { broken = not (nat_lt (predictor_order kind) block); why = BadPartition } ∷ []) (Ok (tt, d))

pub returns-in_err-zero : goal.returns-in_err-zero
unfolding header
returns-in_err-zero g c =
    let p = err_from_is_err_and c.from_residual.result c.from_residual.ensures.1 in
    rw (p.1, p.2) (record { kind = tt; order = tt; left = tt; reading = record { spends = tt; counts = c.in_err-zero.ensures.reading.counts; memory = c.in_err-zero.ensures.reading.memory; reads = told_fault c.args.bits.now c.take.new.self _ c.in_err-zero.ensures.reading.reads } })

pub returns-in_err-code : goal.returns-in_err-code
unfolding header
returns-in_err-code g c =
    let p = err_from_is_err_and c.from_residual-in_err-code.result c.from_residual-in_err-code.ensures.1 in
    rw (p.1, p.2) (record { kind = tt; order = tt; left = tt; reading = record { spends = tt; counts = failed_then c.args.bits.now c.take.new.self c.take-2.new.self c.in_ok-zero.ensures.reading.counts c.in_err-code.ensures.reading.counts; memory = c.in_err-code.ensures.reading.memory; reads = told_then c.args.bits.now c.take.new.self c.take-2.new.self _ c.in_ok-zero.ensures.reading.counts c.in_ok-zero.ensures.reading.reads (told_fault c.take.new.self c.take-2.new.self _ c.in_err-code.ensures.reading.reads) } })

pub returns-in_err-flag : goal.returns-in_err-flag
unfolding header
returns-in_err-flag g c =
    let p = err_from_is_err_and c.from_residual-in_err-flag.result c.from_residual-in_err-flag.ensures.1 in
    rw (p.1, p.2) (record { kind = tt; order = tt; left = tt; reading = record { spends = tt; counts = failed_then c.args.bits.now c.take.new.self c.take-3.new.self c.in_ok-zero.ensures.reading.counts (failed_then c.take.new.self c.take-2.new.self c.take-3.new.self c.in_ok-code.ensures.reading.counts c.in_err-flag.ensures.reading.counts); memory = c.in_err-flag.ensures.reading.memory; reads = told_then c.args.bits.now c.take.new.self c.take-3.new.self _ c.in_ok-zero.ensures.reading.counts c.in_ok-zero.ensures.reading.reads (told_then c.take.new.self c.take-2.new.self c.take-3.new.self _ c.in_ok-code.ensures.reading.counts c.in_ok-code.ensures.reading.reads (told_fault c.take-2.new.self c.take-3.new.self _ c.in_err-flag.ensures.reading.reads)) } })

pub returns-in_err-wasted : goal.returns-in_err-wasted
unfolding header
returns-in_err-wasted g c =
    let p = err_from_is_err_and c.from_residual-in_err-wasted.result c.from_residual-in_err-wasted.ensures.1 in
    rw (p.1, p.2) (record { kind = tt; order = tt; left = tt; reading = record { spends = tt; counts = failed_then c.args.bits.now c.take.new.self c.read_wasted.new.bits c.in_ok-zero.ensures.reading.counts (failed_then c.take.new.self c.take-2.new.self c.read_wasted.new.bits c.in_ok-code.ensures.reading.counts (failed_then c.take-2.new.self c.take-3.new.self c.read_wasted.new.bits c.in_ok-flag.ensures.reading.counts c.in_err-wasted.ensures.reading.counts)); memory = c.in_err-wasted.ensures.reading.memory; reads = told_then c.args.bits.now c.take.new.self c.read_wasted.new.bits _ c.in_ok-zero.ensures.reading.counts c.in_ok-zero.ensures.reading.reads (told_then c.take.new.self c.take-2.new.self c.read_wasted.new.bits _ c.in_ok-code.ensures.reading.counts c.in_ok-code.ensures.reading.reads (told_then c.take-2.new.self c.take-3.new.self c.read_wasted.new.bits _ c.in_ok-flag.ensures.reading.counts c.in_ok-flag.ensures.reading.reads (told_past {read = judged c.in_ok-zero.zero c.in_ok-code.code c.in_ok-flag.flag c.args.depth c.args.block c.args.limits.now.linear c.take-3.new.self.cursor} c.take-3.new.self c.read_wasted.new.bits c.take-3.new.self.cursor _ (search rules) (told_fault c.take-3.new.self c.read_wasted.new.bits _ c.in_err-wasted.ensures.reading.reads)))) } })

pub returns-then-zero-eq1 : goal.returns-then-zero-eq1
unfolding header
returns-then-zero-eq1 g c = record { kind = tt; order = tt; left = tt; reading = record { spends = tt; counts = refused_then c.args.bits.now c.take-3.new.self (answered_then c.args.bits.now c.take.new.self c.take-3.new.self c.in_ok-zero.ensures.reading.counts (answered_then c.take.new.self c.take-2.new.self c.take-3.new.self c.in_ok-code.ensures.reading.counts c.in_ok-flag.ensures.reading.counts)) refl; memory = bad_subframe; reads = told_then c.args.bits.now c.take.new.self c.take-3.new.self _ c.in_ok-zero.ensures.reading.counts c.in_ok-zero.ensures.reading.reads (told_then c.take.new.self c.take-2.new.self c.take-3.new.self _ c.in_ok-code.ensures.reading.counts c.in_ok-code.ensures.reading.reads (told_then c.take-2.new.self c.take-3.new.self c.take-3.new.self _ c.in_ok-flag.ensures.reading.counts c.in_ok-flag.ensures.reading.reads (told_broken {read = judged c.in_ok-zero.zero c.in_ok-code.code c.in_ok-flag.flag c.args.depth c.args.block c.args.limits.now.linear c.take-3.new.self.cursor} c.take-3.new.self c.take-3.new.self _ (search rules)))) } }

pub returns-then-linear_order-limits : goal.returns-then-linear_order-limits
unfolding header
returns-then-linear_order-limits g c = record { kind = tt; order = tt; left = tt; reading = record { spends = tt; counts = refused_then c.args.bits.now c.take-3.new.self (answered_then c.args.bits.now c.take.new.self c.take-3.new.self c.in_ok-zero.ensures.reading.counts (answered_then c.take.new.self c.take-2.new.self c.take-3.new.self c.in_ok-code.ensures.reading.counts c.in_ok-flag.ensures.reading.counts)) refl; memory = not_subset; reads = told_then c.args.bits.now c.take.new.self c.take-3.new.self _ c.in_ok-zero.ensures.reading.counts c.in_ok-zero.ensures.reading.reads (told_then c.take.new.self c.take-2.new.self c.take-3.new.self _ c.in_ok-code.ensures.reading.counts c.in_ok-code.ensures.reading.reads (told_then c.take-2.new.self c.take-3.new.self c.take-3.new.self _ c.in_ok-flag.ensures.reading.counts c.in_ok-flag.ensures.reading.reads (told_broken {read = judged c.in_ok-zero.zero c.in_ok-code.code c.in_ok-flag.flag c.args.depth c.args.block c.args.limits.now.linear c.take-3.new.self.cursor} c.take-3.new.self c.take-3.new.self _ (search rules)))) } }

pub returns-then-order-block : goal.returns-then-order-block
unfolding header
returns-then-order-block g c = record { kind = tt; order = tt; left = tt; reading = record { spends = tt; counts = refused_then c.args.bits.now c.take-3.new.self (answered_then c.args.bits.now c.take.new.self c.take-3.new.self c.in_ok-zero.ensures.reading.counts (answered_then c.take.new.self c.take-2.new.self c.take-3.new.self c.in_ok-code.ensures.reading.counts c.in_ok-flag.ensures.reading.counts)) refl; memory = bad_partition; reads = told_then c.args.bits.now c.take.new.self c.take-3.new.self _ c.in_ok-zero.ensures.reading.counts c.in_ok-zero.ensures.reading.reads (told_then c.take.new.self c.take-2.new.self c.take-3.new.self _ c.in_ok-code.ensures.reading.counts c.in_ok-code.ensures.reading.reads (told_then c.take-2.new.self c.take-3.new.self c.take-3.new.self _ c.in_ok-flag.ensures.reading.counts c.in_ok-flag.ensures.reading.reads (told_broken {read = judged c.in_ok-zero.zero c.in_ok-code.code c.in_ok-flag.flag c.args.depth c.args.block c.args.limits.now.linear c.take-3.new.self.cursor} c.take-3.new.self c.take-3.new.self _ (search rules)))) } }

pub returns-clause-reading : goal.returns-clause-reading
unfolding header
returns-clause-reading g c = record {
  spends = eight_spent _ _ _ _ _ c.in_ok-zero.ensures.reading.spends c.in_ok-code.ensures.reading.spends c.in_ok-flag.ensures.reading.spends c.in_ok-wasted.ensures.reading.spends;
  counts = answered_then c.args.bits.now c.take.new.self c.read_wasted.new.bits c.in_ok-zero.ensures.reading.counts (answered_then c.take.new.self c.take-2.new.self c.read_wasted.new.bits c.in_ok-code.ensures.reading.counts (answered_then c.take-2.new.self c.take-3.new.self c.read_wasted.new.bits c.in_ok-flag.ensures.reading.counts c.in_ok-wasted.ensures.reading.counts));
  memory = tt;
  reads = told_then c.args.bits.now c.take.new.self c.read_wasted.new.bits _ c.in_ok-zero.ensures.reading.counts c.in_ok-zero.ensures.reading.reads (told_then c.take.new.self c.take-2.new.self c.read_wasted.new.bits _ c.in_ok-code.ensures.reading.counts c.in_ok-code.ensures.reading.reads (told_then c.take-2.new.self c.take-3.new.self c.read_wasted.new.bits _ c.in_ok-flag.ensures.reading.counts c.in_ok-flag.ensures.reading.reads (told_past {read = judged c.in_ok-zero.zero c.in_ok-code.code c.in_ok-flag.flag c.args.depth c.args.block c.args.limits.now.linear c.take-3.new.self.cursor} c.take-3.new.self c.read_wasted.new.bits c.take-3.new.self.cursor _ (search rules) (told_then c.take-3.new.self c.read_wasted.new.bits c.read_wasted.new.bits _ c.in_ok-wasted.ensures.reading.counts c.in_ok-wasted.ensures.reading.reads (λ known same. rw c.in-Some.ensures.code refl)))));
}

pub returns-clause-kind : goal.returns-clause-kind
returns-clause-kind g c = c.in-Some.ensures.within

pub returns-clause-order : goal.returns-clause-order
returns-clause-order g c = rw c.order.ensures at c.if-order-block.false

pub returns-clause-left : goal.returns-clause-left
returns-clause-left g c = c.in_ok-wasted.ensures.left
