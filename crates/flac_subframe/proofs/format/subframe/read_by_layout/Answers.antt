use Rattle.std.proofs.Common.{arith, ◌-◌, All, subst, sym}
use Rattle.flac_bits.specs.Signed.{FitsBits}
use Rattle.flac_subframe.proofs.lemmas.format.Bounds.{fits_up}
use Rattle.flac_subframe.proofs.lemmas.format.Scaling.{scaled_fit}
use Rattle.std.proofs.lemmas.Result.{err_from_is_err_and}
use Rattle.flac_bits.proofs.Counting.{failed_then}
use Rattle.flac_bits.proofs.Telling.{told_then, told_fault}
use Rattle.flac_subframe.proofs.format.subframe.read_by_layout.Goals as goal

pub scale-requires-clause-small : goal.scale-requires-clause-small
scale-requires-clause-small g c = λ k d within. fits_up (c.args.depth - c.in_ok-header.header.wasted) (33 - c.in_ok-header.header.wasted) _ (omega (arith, c.requires.depth.1)) (c.in_ok-fits.ensures.fits c.if-fits.true k d within)

pub returns-then-fits-clause-small : goal.returns-then-fits-clause-small
returns-then-fits-clause-small g c = λ yes.
    subst (All (FitsBits 34)) (sym c.scale.ensures) (scaled_fit c.in_ok-header.header.wasted _ (omega (arith, c.in_ok-header.ensures.left, c.requires.depth.1))
    (λ k d within. fits_up (c.args.depth - c.in_ok-header.header.wasted) (33 - c.in_ok-header.header.wasted) _ (omega (arith, c.requires.depth.1)) (c.in_ok-fits.ensures.fits c.if-fits.true k d within)))

pub returns-in_err-header : goal.returns-in_err-header
returns-in_err-header g c =
    let p = err_from_is_err_and c.from_residual.result c.from_residual.ensures.1 in
    rw (p.1, p.2) (record { small = tt; reading = record { spends = tt; counts = c.in_err-header.ensures.reading.counts; memory = c.in_err-header.ensures.reading.memory; reads = told_fault c.args.bits.now c.read_header.new.bits _ c.in_err-header.ensures.reading.reads } })

pub returns-in_err-fits : goal.returns-in_err-fits
returns-in_err-fits g c =
    let p = err_from_is_err_and c.from_residual-in_err-fits.result c.from_residual-in_err-fits.ensures.1 in
    rw (p.1, p.2) (record {
      small = tt;
      reading = record {
        spends = tt;
        counts = failed_then c.args.bits.now c.read_header.new.bits c.read_content.new.bits c.in_ok-header.ensures.reading.counts c.in_err-fits.ensures.reading.counts;
        memory = c.in_err-fits.ensures.reading.memory;
        reads = told_then c.args.bits.now c.read_header.new.bits c.read_content.new.bits _ c.in_ok-header.ensures.reading.counts c.in_ok-header.ensures.reading.reads
            (told_fault c.read_header.new.bits c.read_content.new.bits _ (rw c.requires.places at c.in_err-fits.ensures.reading.reads));
      };
    })
