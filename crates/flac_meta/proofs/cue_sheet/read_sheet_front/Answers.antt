use Rattle.std.proofs.Common.{◌*◌, refl}
use Rattle.std.proofs.lemmas.Result.{err_from_is_err_and}
use Rattle.flac_bits.proofs.Counting.{answered_then, failed_then, refused_then}
use Rattle.flac_bits.proofs.Telling.{told_then, told_fault}
use Rattle.flac_meta.specs.CueSheet.{sheet_front}
use Rattle.flac_meta.proofs.Exits.{spends_then}
use Rattle.flac_meta.proofs.Short.{told_reserved, told_clear, told_unclear}
use Rattle.flac_meta.proofs.cue_sheet.read_sheet_front.Goals as goal

pub returns-in_err-lead_in : goal.returns-in_err-lead_in
unfolding sheet_front
returns-in_err-lead_in g c =
    let p = err_from_is_err_and c.from_residual-in_err-lead_in.result c.from_residual-in_err-lead_in.ensures.1 in
    rw (p.1, p.2) (record {
      reading = record {
        spends = tt;
        counts = failed_then c.args.bits.now c.read_bytes.new.bits c.take.new.self c.in_ok-read_bytes.ensures.reading.counts c.in_err-lead_in.ensures.reading.counts;
        reads = told_then c.args.bits.now c.read_bytes.new.bits c.take.new.self _ c.in_ok-read_bytes.ensures.reading.counts c.in_ok-read_bytes.ensures.reading.reads (told_fault c.read_bytes.new.bits c.take.new.self _ c.in_err-lead_in.ensures.reading.reads);
      };
    })

pub returns-in_err-cd : goal.returns-in_err-cd
unfolding sheet_front
returns-in_err-cd g c =
    let p = err_from_is_err_and c.from_residual-in_err-cd.result c.from_residual-in_err-cd.ensures.1 in
    rw (p.1, p.2) (record {
      reading = record {
        spends = tt;
        counts = failed_then c.args.bits.now c.read_bytes.new.bits c.take-2.new.self c.in_ok-read_bytes.ensures.reading.counts (failed_then c.read_bytes.new.bits c.take.new.self c.take-2.new.self c.in_ok-lead_in.ensures.reading.counts c.in_err-cd.ensures.reading.counts);
        reads = told_then c.args.bits.now c.read_bytes.new.bits c.take-2.new.self _ c.in_ok-read_bytes.ensures.reading.counts c.in_ok-read_bytes.ensures.reading.reads (told_then c.read_bytes.new.bits c.take.new.self c.take-2.new.self _ c.in_ok-lead_in.ensures.reading.counts c.in_ok-lead_in.ensures.reading.reads (told_fault c.take.new.self c.take-2.new.self _ c.in_err-cd.ensures.reading.reads));
      };
    })

pub returns-in_err-read_zeros : goal.returns-in_err-read_zeros
unfolding sheet_front
returns-in_err-read_zeros g c =
    let p = err_from_is_err_and c.from_residual-in_err-read_zeros.result c.from_residual-in_err-read_zeros.ensures.1 in
    rw (p.1, p.2) (record {
      reading = record {
        spends = tt;
        counts = failed_then c.args.bits.now c.read_bytes.new.bits c.read_zeros.new.bits c.in_ok-read_bytes.ensures.reading.counts (failed_then c.read_bytes.new.bits c.take.new.self c.read_zeros.new.bits c.in_ok-lead_in.ensures.reading.counts (failed_then c.take.new.self c.take-2.new.self c.read_zeros.new.bits c.in_ok-cd.ensures.reading.counts c.in_err-read_zeros.ensures.reading.counts));
        reads = told_then c.args.bits.now c.read_bytes.new.bits c.read_zeros.new.bits _ c.in_ok-read_bytes.ensures.reading.counts c.in_ok-read_bytes.ensures.reading.reads (told_then c.read_bytes.new.bits c.take.new.self c.read_zeros.new.bits _ c.in_ok-lead_in.ensures.reading.counts c.in_ok-lead_in.ensures.reading.reads (told_then c.take.new.self c.take-2.new.self c.read_zeros.new.bits _ c.in_ok-cd.ensures.reading.counts c.in_ok-cd.ensures.reading.reads (told_fault c.take-2.new.self c.read_zeros.new.bits _ (told_reserved 2071 c.take-2.new.self c.read_zeros.new.bits c.in_err-read_zeros.ensures.reading.reads))));
      };
    })

pub returns : goal.returns
unfolding sheet_front
returns g c = record {
  reading = record {
    spends = spends_then (8 * 128) 0 c.args.bits.now.most c.read_bytes.new.bits.most c.read_zeros.new.bits.most c.in_ok-read_bytes.ensures.reading.spends (spends_then 64 0 c.read_bytes.new.bits.most c.take.new.self.most c.read_zeros.new.bits.most c.in_ok-lead_in.ensures.reading.spends (spends_then 1 0 c.take.new.self.most c.take-2.new.self.most c.read_zeros.new.bits.most c.in_ok-cd.ensures.reading.spends (c.in_ok-read_zeros.ensures.reading.spends)));
    counts = answered_then c.args.bits.now c.read_bytes.new.bits c.read_zeros.new.bits c.in_ok-read_bytes.ensures.reading.counts (answered_then c.read_bytes.new.bits c.take.new.self c.read_zeros.new.bits c.in_ok-lead_in.ensures.reading.counts (answered_then c.take.new.self c.take-2.new.self c.read_zeros.new.bits c.in_ok-cd.ensures.reading.counts c.in_ok-read_zeros.ensures.reading.counts));
    reads = told_then c.args.bits.now c.read_bytes.new.bits c.read_zeros.new.bits _ c.in_ok-read_bytes.ensures.reading.counts c.in_ok-read_bytes.ensures.reading.reads (told_then c.read_bytes.new.bits c.take.new.self c.read_zeros.new.bits _ c.in_ok-lead_in.ensures.reading.counts c.in_ok-lead_in.ensures.reading.reads (told_then c.take.new.self c.take-2.new.self c.read_zeros.new.bits _ c.in_ok-cd.ensures.reading.counts c.in_ok-cd.ensures.reading.reads (told_then c.take-2.new.self c.read_zeros.new.bits c.read_zeros.new.bits _ c.in_ok-read_zeros.ensures.reading.counts (told_clear 2071 c.take-2.new.self c.read_zeros.new.bits _ c.if-not-branch.false c.in_ok-read_zeros.ensures.reading.reads) (λ known same. refl))));
  };
}

pub returns-in_err-read_bytes : goal.returns-in_err-read_bytes
unfolding sheet_front
returns-in_err-read_bytes g c =
    let p = err_from_is_err_and c.from_residual.result c.from_residual.ensures.1 in
    rw (p.1, p.2) (record {
      reading = record {
        spends = tt;
        counts = c.in_err-read_bytes.ensures.reading.counts;
        reads = told_fault c.args.bits.now c.read_bytes.new.bits _ c.in_err-read_bytes.ensures.reading.reads;
      };
    })

pub returns-then-not-branch : goal.returns-then-not-branch
unfolding sheet_front
returns-then-not-branch g c = record {
  reading = record {
    spends = tt;
    counts = refused_then c.args.bits.now c.read_zeros.new.bits (answered_then c.args.bits.now c.read_bytes.new.bits c.read_zeros.new.bits c.in_ok-read_bytes.ensures.reading.counts (answered_then c.read_bytes.new.bits c.take.new.self c.read_zeros.new.bits c.in_ok-lead_in.ensures.reading.counts (answered_then c.take.new.self c.take-2.new.self c.read_zeros.new.bits c.in_ok-cd.ensures.reading.counts c.in_ok-read_zeros.ensures.reading.counts))) refl;
    reads = told_then c.args.bits.now c.read_bytes.new.bits c.read_zeros.new.bits _ c.in_ok-read_bytes.ensures.reading.counts c.in_ok-read_bytes.ensures.reading.reads (told_then c.read_bytes.new.bits c.take.new.self c.read_zeros.new.bits _ c.in_ok-lead_in.ensures.reading.counts c.in_ok-lead_in.ensures.reading.reads (told_then c.take.new.self c.take-2.new.self c.read_zeros.new.bits _ c.in_ok-cd.ensures.reading.counts c.in_ok-cd.ensures.reading.reads (told_fault c.take-2.new.self c.read_zeros.new.bits _ (told_unclear 2071 c.take-2.new.self c.read_zeros.new.bits _ c.if-not-branch.true c.in_ok-read_zeros.ensures.reading.reads))));
  };
}
