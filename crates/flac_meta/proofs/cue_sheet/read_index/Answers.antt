use Rattle.std.proofs.Common.{refl}
use Rattle.std.proofs.lemmas.Result.{err_from_is_err_and}
use Rattle.flac_bits.proofs.Counting.{answered_then, failed_then, refused_then}
use Rattle.flac_bits.proofs.Telling.{told_then, told_fault}
use Rattle.flac_meta.specs.CueSheet.{cue_index}
use Rattle.flac_meta.proofs.Exits.{spends_then}
use Rattle.flac_meta.proofs.Short.{told_reserved, told_clear, told_unclear}
use Rattle.flac_meta.proofs.cue_sheet.read_index.Goals as goal

pub returns-in_err-number : goal.returns-in_err-number
unfolding cue_index
returns-in_err-number g c =
    let p = err_from_is_err_and c.from_residual-in_err-number.result c.from_residual-in_err-number.ensures.1 in
    rw (p.1, p.2) (record {
      reading = record {
        spends = tt;
        counts = failed_then c.args.bits.now c.take.new.self c.take-2.new.self c.in_ok-offset.ensures.reading.counts c.in_err-number.ensures.reading.counts;
        reads = told_then c.args.bits.now c.take.new.self c.take-2.new.self _ c.in_ok-offset.ensures.reading.counts c.in_ok-offset.ensures.reading.reads (told_fault c.take.new.self c.take-2.new.self _ c.in_err-number.ensures.reading.reads);
      };
    })

pub returns-in_err-read_zeros : goal.returns-in_err-read_zeros
unfolding cue_index
returns-in_err-read_zeros g c =
    let p = err_from_is_err_and c.from_residual-in_err-read_zeros.result c.from_residual-in_err-read_zeros.ensures.1 in
    rw (p.1, p.2) (record {
      reading = record {
        spends = tt;
        counts = failed_then c.args.bits.now c.take.new.self c.read_zeros.new.bits c.in_ok-offset.ensures.reading.counts (failed_then c.take.new.self c.take-2.new.self c.read_zeros.new.bits c.in_ok-number.ensures.reading.counts c.in_err-read_zeros.ensures.reading.counts);
        reads = told_then c.args.bits.now c.take.new.self c.read_zeros.new.bits _ c.in_ok-offset.ensures.reading.counts c.in_ok-offset.ensures.reading.reads (told_then c.take.new.self c.take-2.new.self c.read_zeros.new.bits _ c.in_ok-number.ensures.reading.counts c.in_ok-number.ensures.reading.reads (told_fault c.take-2.new.self c.read_zeros.new.bits _ (told_reserved 24 c.take-2.new.self c.read_zeros.new.bits c.in_err-read_zeros.ensures.reading.reads)));
      };
    })

pub returns : goal.returns
unfolding cue_index
returns g c = record {
  reading = record {
    spends = spends_then 64 0 c.args.bits.now.most c.take.new.self.most c.read_zeros.new.bits.most c.in_ok-offset.ensures.reading.spends (spends_then 8 0 c.take.new.self.most c.take-2.new.self.most c.read_zeros.new.bits.most c.in_ok-number.ensures.reading.spends (c.in_ok-read_zeros.ensures.reading.spends));
    counts = answered_then c.args.bits.now c.take.new.self c.read_zeros.new.bits c.in_ok-offset.ensures.reading.counts (answered_then c.take.new.self c.take-2.new.self c.read_zeros.new.bits c.in_ok-number.ensures.reading.counts c.in_ok-read_zeros.ensures.reading.counts);
    reads = told_then c.args.bits.now c.take.new.self c.read_zeros.new.bits _ c.in_ok-offset.ensures.reading.counts c.in_ok-offset.ensures.reading.reads (told_then c.take.new.self c.take-2.new.self c.read_zeros.new.bits _ c.in_ok-number.ensures.reading.counts c.in_ok-number.ensures.reading.reads (told_then c.take-2.new.self c.read_zeros.new.bits c.read_zeros.new.bits _ c.in_ok-read_zeros.ensures.reading.counts (told_clear 24 c.take-2.new.self c.read_zeros.new.bits _ c.if-not-branch.false c.in_ok-read_zeros.ensures.reading.reads) (λ known same. refl)));
  };
}

pub returns-in_err-offset : goal.returns-in_err-offset
unfolding cue_index
returns-in_err-offset g c =
    let p = err_from_is_err_and c.from_residual.result c.from_residual.ensures.1 in
    rw (p.1, p.2) (record {
      reading = record {
        spends = tt;
        counts = c.in_err-offset.ensures.reading.counts;
        reads = told_fault c.args.bits.now c.take.new.self _ c.in_err-offset.ensures.reading.reads;
      };
    })

pub returns-then-not-branch : goal.returns-then-not-branch
unfolding cue_index
returns-then-not-branch g c = record {
  reading = record {
    spends = tt;
    counts = refused_then c.args.bits.now c.read_zeros.new.bits (answered_then c.args.bits.now c.take.new.self c.read_zeros.new.bits c.in_ok-offset.ensures.reading.counts (answered_then c.take.new.self c.take-2.new.self c.read_zeros.new.bits c.in_ok-number.ensures.reading.counts c.in_ok-read_zeros.ensures.reading.counts)) refl;
    reads = told_then c.args.bits.now c.take.new.self c.read_zeros.new.bits _ c.in_ok-offset.ensures.reading.counts c.in_ok-offset.ensures.reading.reads (told_then c.take.new.self c.take-2.new.self c.read_zeros.new.bits _ c.in_ok-number.ensures.reading.counts c.in_ok-number.ensures.reading.reads (told_fault c.take-2.new.self c.read_zeros.new.bits _ (told_unclear 24 c.take-2.new.self c.read_zeros.new.bits _ c.if-not-branch.true c.in_ok-read_zeros.ensures.reading.reads)));
  };
}
