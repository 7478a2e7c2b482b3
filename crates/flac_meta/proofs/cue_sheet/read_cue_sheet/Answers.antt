use Rattle.std.proofs.Common.{◌-◌, ◌*◌, nat_eq, nat_lt, [], ◌∷◌, refl}
use Rattle.std.proofs.lemmas.Result.{err_from_is_err_and}
use Rattle.flac_bits.specs.declared.why.Why.TheVariants.{BlockLength, CueSheet}
use Rattle.flac_bits.proofs.Counting.{answered_then, failed_then, refused_then}
use Rattle.flac_bits.proofs.Telling.{told_then, told_fault}
use Rattle.flac_meta.specs.CueSheet.{cue_sheet}
use Rattle.flac_meta.proofs.Exits.{had_room, same_room, spends_then, not_same, is_none}
use Rattle.flac_meta.proofs.Short.{is_less, part_short, told_part, told_kept_both, told_first, told_second}
use Rattle.flac_meta.proofs.Tied.{less_not}
use Rattle.flac_meta.proofs.cue_sheet.read_cue_sheet.Goals as goal

pub returns-in_err-count : goal.returns-in_err-count
unfolding cue_sheet
returns-in_err-count g c =
    let p = err_from_is_err_and c.from_residual-in_err-count.result c.from_residual-in_err-count.ensures.1 in
    rw (p.1, p.2) (record {
      reading = record {
        spends = tt;
        counts = failed_then c.args.bits.now c.read_sheet_front.new.bits c.read_count.new.bits c.in_ok-catalogue.ensures.reading.counts c.in_err-count.ensures.reading.counts;
        reads = (λ room. told_part 395 c.args.left _ c.args.bits.now c.read_count.new.bits c.if-left-lt395.false (told_then c.args.bits.now c.read_sheet_front.new.bits c.read_count.new.bits _ c.in_ok-catalogue.ensures.reading.counts c.in_ok-catalogue.ensures.reading.reads (told_fault c.read_sheet_front.new.bits c.read_count.new.bits _ c.in_err-count.ensures.reading.reads)));
      };
    })

pub returns-in_err-tracks : goal.returns-in_err-tracks
unfolding cue_sheet
returns-in_err-tracks g c =
    let p = err_from_is_err_and c.from_residual-in_err-tracks.result c.from_residual-in_err-tracks.ensures.1 in
    let old = c.args.bits.now in
    let mid = c.read_sheet_front.new.bits in
    let after = c.read_count.new.bits in
    let new = c.read_tracks.new.bits in
    let f = c.in_ok-catalogue.ensures.reading in
    let n = c.in_ok-count.ensures.reading in
    let count = c.in_ok-count.count in
    rw (p.1, p.2) (record {
      reading = record {
        spends = tt;
        counts = failed_then old mid new f.counts (failed_then mid after new n.counts c.in_err-tracks.ensures.reading.counts);
        reads = (λ room. told_part 395 c.args.left _ old new c.if-left-lt395.false (told_then old mid new _ f.counts f.reads (told_then mid after new _ n.counts n.reads
            (told_kept_both (nat_eq count 0) CueSheet (nat_lt (c.args.left - 396) (36 * count)) BlockLength after new after.cursor _
            (not_same count 0 c.if-count-eq0.false) (less_not (c.args.left - 396) (36 * count) c.if-left-count.false)
            (told_fault after new _ (c.in_err-tracks.ensures.reading.reads (same_room room)))))));
      };
    })

pub returns : goal.returns
unfolding cue_sheet
returns g c =
    let old = c.args.bits.now in
    let mid = c.read_sheet_front.new.bits in
    let after = c.read_count.new.bits in
    let new = c.read_tracks.new.bits in
    let f = c.in_ok-catalogue.ensures.reading in
    let n = c.in_ok-count.ensures.reading in
    let t = c.in_ok-tracks.ensures.reading in
    let count = c.in_ok-count.count in
    record {
      reading = record {
        spends = spends_then 0 0 old.most mid.most new.most f.spends (spends_then 0 0 mid.most after.most new.most n.spends t.spends);
        counts = answered_then old mid new f.counts (answered_then mid after new n.counts t.counts);
        reads = (λ room. told_part 395 c.args.left _ old new c.if-left-lt395.false (told_then old mid new _ f.counts f.reads (told_then mid after new _ n.counts n.reads
            (told_kept_both (nat_eq count 0) CueSheet (nat_lt (c.args.left - 396) (36 * count)) BlockLength after new after.cursor _
            (not_same count 0 c.if-count-eq0.false) (less_not (c.args.left - 396) (36 * count) c.if-left-count.false)
            (told_then after new new _ t.counts (t.reads had_room) (λ known same. refl))))));
      };
    }

pub returns-then-left-lt395 : goal.returns-then-left-lt395
unfolding cue_sheet
returns-then-left-lt395 g c = record {
  reading = record {
    spends = tt;
    counts = c.too_short.ensures.counts;
    reads = (λ room. part_short 395 c.args.left _ c.args.bits.now c.too_short.new.bits c.if-left-lt395.true c.too_short.ensures.reads);
  };
}

pub returns-in_err-catalogue : goal.returns-in_err-catalogue
unfolding cue_sheet
returns-in_err-catalogue g c =
    let p = err_from_is_err_and c.from_residual.result c.from_residual.ensures.1 in
    rw (p.1, p.2) (record {
      reading = record {
        spends = tt;
        counts = c.in_err-catalogue.ensures.reading.counts;
        reads = (λ room. told_part 395 c.args.left _ c.args.bits.now c.read_sheet_front.new.bits c.if-left-lt395.false (told_fault c.args.bits.now c.read_sheet_front.new.bits _ c.in_err-catalogue.ensures.reading.reads));
      };
    })

pub returns-then-count-eq0 : goal.returns-then-count-eq0
unfolding cue_sheet
returns-then-count-eq0 g c =
    let old = c.args.bits.now in
    let mid = c.read_sheet_front.new.bits in
    let new = c.read_count.new.bits in
    let f = c.in_ok-catalogue.ensures.reading in
    let n = c.in_ok-count.ensures.reading in
    let count = c.in_ok-count.count in
    record {
      reading = record {
        spends = tt;
        counts = refused_then old new (answered_then old mid new f.counts n.counts) refl;
        reads = (λ room. told_part 395 c.args.left _ old new c.if-left-lt395.false (told_then old mid new _ f.counts f.reads (told_then mid new new _ n.counts n.reads
            (told_first (nat_eq count 0) CueSheet (record { broken = nat_lt (c.args.left - 396) (36 * count); why = BlockLength } ∷ []) new new new.cursor _ (is_none count c.if-count-eq0.true)))));
      };
    }

pub returns-then-left-count : goal.returns-then-left-count
unfolding cue_sheet
returns-then-left-count g c =
    let old = c.args.bits.now in
    let mid = c.read_sheet_front.new.bits in
    let new = c.read_count.new.bits in
    let f = c.in_ok-catalogue.ensures.reading in
    let n = c.in_ok-count.ensures.reading in
    let count = c.in_ok-count.count in
    record {
      reading = record {
        spends = tt;
        counts = refused_then old new (answered_then old mid new f.counts n.counts) refl;
        reads = (λ room. told_part 395 c.args.left _ old new c.if-left-lt395.false (told_then old mid new _ f.counts f.reads (told_then mid new new _ n.counts n.reads
            (told_second (nat_eq count 0) CueSheet (nat_lt (c.args.left - 396) (36 * count)) BlockLength new new new.cursor _ (not_same count 0 c.if-count-eq0.false) (is_less (c.args.left - 396) (36 * count) c.if-left-count.true)))));
      };
    }
