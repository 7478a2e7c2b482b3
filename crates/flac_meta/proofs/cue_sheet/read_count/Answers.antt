use Rattle.std.proofs.Common.{arith}
use Rattle.std.proofs.lemmas.Result.{err_from_is_err_and}
use Rattle.flac_bits.specs.Layout.{bits}
use Rattle.flac_meta.specs.CueSheet.{cue_count}
use Rattle.flac_meta.proofs.Short.{part_short, told_part}
use Rattle.flac_meta.proofs.cue_sheet.read_count.Goals as goal

pub returns-then-left-lt1 : goal.returns-then-left-lt1
unfolding cue_count
returns-then-left-lt1 g c = record { fits = tt; reading = record { spends = tt; counts = c.too_short.ensures.counts; reads = part_short 1 c.args.left (bits 8) c.args.bits.now c.too_short.new.bits c.if-left-lt1.true c.too_short.ensures.reads } }

pub returns-in_err-take : goal.returns-in_err-take
unfolding cue_count
returns-in_err-take g c =
    let p = err_from_is_err_and c.from_residual.result c.from_residual.ensures.1 in
    rw (p.1, p.2) (record { fits = tt; reading = record { spends = tt; counts = c.in_err-take.ensures.reading.counts; reads = told_part 1 c.args.left (bits 8) c.args.bits.now c.take.new.self c.if-left-lt1.false c.in_err-take.ensures.reading.reads } })

pub returns : goal.returns
unfolding cue_count
returns g c = record { fits = c.if-left-lt1.false; reading = record { spends = omega (arith, c.in_ok-take.ensures.reading.spends); counts = c.in_ok-take.ensures.reading.counts; reads = told_part 1 c.args.left (bits 8) c.args.bits.now c.take.new.self c.if-left-lt1.false c.in_ok-take.ensures.reading.reads } }
