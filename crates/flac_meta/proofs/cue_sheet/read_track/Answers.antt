use Rattle.std.proofs.Common.{refl, ◌-◌, ◌*◌, nat_lt}
use Rattle.std.proofs.lemmas.Result.{err_from_is_err_and}
use Rattle.flac_bits.proofs.Counting.{answered_then, failed_then, refused_then}
use Rattle.flac_bits.proofs.Telling.{told_then, told_fault}
use Rattle.flac_meta.specs.CueSheet.{cue_track}
use Rattle.flac_meta.proofs.Exits.{had_room, same_room, spends_then}
use Rattle.flac_meta.proofs.Short.{is_less, part_short, told_part, told_kept, told_broken}
use Rattle.flac_bits.specs.declared.why.Why.TheVariants.{BlockLength}
use Rattle.flac_meta.proofs.Tied.{less_not}
use Rattle.flac_meta.proofs.cue_sheet.read_track.Goals as goal

pub returns-in_err-count-clause-reading : goal.returns-in_err-count-clause-reading
unfolding cue_track
returns-in_err-count-clause-reading g c =
    let p = err_from_is_err_and c.from_residual-in_err-count.result c.from_residual-in_err-count.ensures.1 in
    rw (p.1, p.2) (record {
      spends = tt;
      counts = failed_then c.args.bits.now c.read_track_front.new.bits c.read_count.new.bits c.in_ok-front.ensures.reading.counts c.in_err-count.ensures.reading.counts;
      reads = (λ room. told_part 35 c.args.left _ c.args.bits.now c.read_count.new.bits c.if-left-lt35.false (told_then c.args.bits.now c.read_track_front.new.bits c.read_count.new.bits _ c.in_ok-front.ensures.reading.counts c.in_ok-front.ensures.reading.reads (told_fault c.read_track_front.new.bits c.read_count.new.bits _ c.in_err-count.ensures.reading.reads)));
    })

pub returns-in_err-indices-clause-reading : goal.returns-in_err-indices-clause-reading
unfolding cue_track
returns-in_err-indices-clause-reading g c =
    let p = err_from_is_err_and c.from_residual-in_err-indices.result c.from_residual-in_err-indices.ensures.1 in
    rw (p.1, p.2) (record {
      spends = tt;
      counts = failed_then c.args.bits.now c.read_track_front.new.bits c.read_indices.new.bits c.in_ok-front.ensures.reading.counts (failed_then c.read_track_front.new.bits c.read_count.new.bits c.read_indices.new.bits c.in_ok-count.ensures.reading.counts c.in_err-indices.ensures.reading.counts);
      reads = (λ room. told_part 35 c.args.left _ c.args.bits.now c.read_indices.new.bits c.if-left-lt35.false (told_then c.args.bits.now c.read_track_front.new.bits c.read_indices.new.bits _ c.in_ok-front.ensures.reading.counts c.in_ok-front.ensures.reading.reads (told_then c.read_track_front.new.bits c.read_count.new.bits c.read_indices.new.bits _ c.in_ok-count.ensures.reading.counts c.in_ok-count.ensures.reading.reads (told_kept (nat_lt (c.args.left - 36) (12 * c.in_ok-count.count)) BlockLength c.read_count.new.bits c.read_indices.new.bits c.read_count.new.bits.cursor _ (less_not (c.args.left - 36) (12 * c.in_ok-count.count) c.if-left-count.false) (told_fault c.read_count.new.bits c.read_indices.new.bits _ (c.in_err-indices.ensures.reading.reads (same_room room)))))));
    })

pub returns-clause-reading : goal.returns-clause-reading
unfolding cue_track
returns-clause-reading g c = record {
  spends = (let mid = c.read_track_front.new.bits.most in let after = c.read_count.new.bits.most in let new = c.read_indices.new.bits.most in
      spends_then 0 0 c.args.bits.now.most mid new c.in_ok-front.ensures.reading.spends (spends_then 0 0 mid after new c.in_ok-count.ensures.reading.spends c.in_ok-indices.ensures.reading.spends));
  counts = answered_then c.args.bits.now c.read_track_front.new.bits c.read_indices.new.bits c.in_ok-front.ensures.reading.counts (answered_then c.read_track_front.new.bits c.read_count.new.bits c.read_indices.new.bits c.in_ok-count.ensures.reading.counts c.in_ok-indices.ensures.reading.counts);
  reads = (λ room. told_part 35 c.args.left _ c.args.bits.now c.read_indices.new.bits c.if-left-lt35.false (told_then c.args.bits.now c.read_track_front.new.bits c.read_indices.new.bits _ c.in_ok-front.ensures.reading.counts c.in_ok-front.ensures.reading.reads (told_then c.read_track_front.new.bits c.read_count.new.bits c.read_indices.new.bits _ c.in_ok-count.ensures.reading.counts c.in_ok-count.ensures.reading.reads (told_kept (nat_lt (c.args.left - 36) (12 * c.in_ok-count.count)) BlockLength c.read_count.new.bits c.read_indices.new.bits c.read_count.new.bits.cursor _ (less_not (c.args.left - 36) (12 * c.in_ok-count.count) c.if-left-count.false) (told_then c.read_count.new.bits c.read_indices.new.bits c.read_indices.new.bits _ c.in_ok-indices.ensures.reading.counts (c.in_ok-indices.ensures.reading.reads had_room) (λ known same. refl))))));
}

pub returns-then-left-lt35-clause-reading : goal.returns-then-left-lt35-clause-reading
unfolding cue_track
returns-then-left-lt35-clause-reading g c = record {
  spends = tt;
  counts = c.too_short.ensures.counts;
  reads = (λ room. part_short 35 c.args.left _ c.args.bits.now c.too_short.new.bits c.if-left-lt35.true c.too_short.ensures.reads);
}

pub returns-in_err-front-clause-reading : goal.returns-in_err-front-clause-reading
unfolding cue_track
returns-in_err-front-clause-reading g c =
    let p = err_from_is_err_and c.from_residual.result c.from_residual.ensures.1 in
    rw (p.1, p.2) (record {
      spends = tt;
      counts = c.in_err-front.ensures.reading.counts;
      reads = (λ room. told_part 35 c.args.left _ c.args.bits.now c.read_track_front.new.bits c.if-left-lt35.false (told_fault c.args.bits.now c.read_track_front.new.bits _ c.in_err-front.ensures.reading.reads));
    })

pub returns-then-left-count-clause-reading : goal.returns-then-left-count-clause-reading
unfolding cue_track
returns-then-left-count-clause-reading g c =
    let old = c.args.bits.now in
    let mid = c.read_track_front.new.bits in
    let new = c.read_count.new.bits in
    let f = c.in_ok-front.ensures.reading in
    let n = c.in_ok-count.ensures.reading in
    let count = c.in_ok-count.count in
    record {
      spends = tt;
      counts = refused_then old new (answered_then old mid new f.counts n.counts) refl;
      reads = (λ room. told_part 35 c.args.left _ old new c.if-left-lt35.false (told_then old mid new _ f.counts f.reads (told_then mid new new _ n.counts n.reads
          (told_broken (nat_lt (c.args.left - 36) (12 * count)) BlockLength new new new.cursor _ (is_less (c.args.left - 36) (12 * count) c.if-left-count.true)))));
    }
