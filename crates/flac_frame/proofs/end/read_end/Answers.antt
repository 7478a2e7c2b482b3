use Rattle.std.proofs.Common.{rules, ◌≡◌, refl}
use Rattle.std.proofs.lemmas.Result.{err_from_is_err_and}
use Rattle.flac_bits.specs.declared.why.Why.TheVariants.{Memory, NonzeroPadding, FrameCheck}
use Rattle.flac_bits.proofs.Counting.{answered_then, failed_then, refused_then}
use Rattle.flac_bits.proofs.Telling.{told_then, told_fault}
use Rattle.flac_frame.specs.Frame.{frame_end}
use Rattle.flac_frame.proofs.end.read_end.Goals as goal

padding_no_memory : NonzeroPadding ≡ Memory → ⊥
padding_no_memory q = cc

check_no_memory : FrameCheck ≡ Memory → ⊥
check_no_memory q = cc

pub returns-in_err-align : goal.returns-in_err-align
unfolding frame_end
returns-in_err-align g c =
    let p = err_from_is_err_and c.from_residual.result c.from_residual.ensures.1 in
    rw (p.1, p.2) (record { reading = record { spends = tt; counts = c.in_err-align.ensures.reading.counts; memory = c.in_err-align.ensures.reading.memory; reads = told_fault c.args.bits.now c.align.new.self _ c.in_err-align.ensures.reading.reads } })

pub returns-then-not-branch : goal.returns-then-not-branch
unfolding frame_end
returns-then-not-branch g c = record { reading = record { spends = tt; counts = refused_then c.args.bits.now c.align.new.self c.in_ok-align.ensures.reading.counts refl; memory = padding_no_memory; reads = told_then c.args.bits.now c.align.new.self c.align.new.self _ c.in_ok-align.ensures.reading.counts c.in_ok-align.ensures.reading.reads (λ known same. rw c.if-not-branch.true refl) } }

pub returns-in_err-take : goal.returns-in_err-take
unfolding frame_end
returns-in_err-take g c =
    let p = err_from_is_err_and c.from_residual-in_err-take.result c.from_residual-in_err-take.ensures.1 in
    rw (p.1, p.2) (record { reading = record { spends = tt; counts = failed_then c.args.bits.now c.align.new.self c.take.new.self c.in_ok-align.ensures.reading.counts c.in_err-take.ensures.reading.counts; memory = c.in_err-take.ensures.reading.memory; reads = told_then c.args.bits.now c.align.new.self c.take.new.self _ c.in_ok-align.ensures.reading.counts c.in_ok-align.ensures.reading.reads (rw c.if-not-branch.false (told_fault c.align.new.self c.take.new.self _ c.in_err-take.ensures.reading.reads)) } })

pub returns-then-branch-from : goal.returns-then-branch-from
unfolding frame_end
returns-then-branch-from g c = record {
  reading = record {
    spends = search rules;
    counts = refused_then c.args.bits.now c.take.new.self (answered_then c.args.bits.now c.align.new.self c.take.new.self c.in_ok-align.ensures.reading.counts c.in_ok-take.ensures.reading.counts) refl;
    memory = check_no_memory;
    reads = search rules;
  };
}

pub returns : goal.returns
unfolding frame_end
returns g c = record {
  reading = record {
    spends = search rules;
    counts = answered_then c.args.bits.now c.align.new.self c.take.new.self c.in_ok-align.ensures.reading.counts c.in_ok-take.ensures.reading.counts;
    memory = search rules;
    reads = search rules;
  };
}
