use Rattle.std.proofs.Common.{refl}
use Rattle.flac_compare.proofs.Onwards.{stays_both, met_both}
use Rattle.flac_compare.proofs.Counting.{counts_start, counts_turn, counts_end, counts_refusal, counts_no_more}
use Rattle.flac_compare.proofs.stepping.count_rest.Goals as goal

pub frames-init : goal.frames-init
frames-init g c = counts_start c.args.reader.now c.args.left c.requires

pub frames-preserved : goal.frames-preserved
frames-preserved g c =
    let told = rw c.in-Ok-true.field-0-test at c.in-Ok-true.ensures in
    counts_turn c.args.reader.now c.args.left c.frames.reader c.enter.new.reader c.frames.left c.enter.new.left c.frames.count c.saturating_add-count.result c.frames.invariant told.stays told.met told.within told.enters c.saturating_add-count.ensures

pub returns-in-Ok-false : goal.returns-in-Ok-false
returns-in-Ok-false g c =
    let told = rw c.in-Ok-false.field-0-test at c.in-Ok-false.ensures in
    let far = c.frames.invariant in
    record {
      stays = stays_both c.args.reader.now c.frames.reader c.enter.new.reader far.stays told.stays;
      met = met_both c.args.reader.now c.frames.reader c.enter.new.reader far.met told.met;
      counts = counts_end c.args.reader.now c.args.left c.frames.reader c.enter.new.reader c.frames.left c.enter.new.left c.frames.count far told.enters;
    }

pub returns-in-Err : goal.returns-in-Err
returns-in-Err g c =
    let told = c.in-Err.ensures in
    let far = c.frames.invariant in
    record {
      stays = stays_both c.args.reader.now c.frames.reader c.enter.new.reader far.stays told.stays;
      met = tt;
      counts = counts_refusal c.args.reader.now c.args.left c.frames.reader c.enter.new.reader c.frames.left c.enter.new.left c.frames.count c.in-Err.fault far told.enters;
    }

pub returns : goal.returns
returns g c = record {
  stays = c.frames.invariant.stays;
  met = tt;
  counts = counts_no_more c.args.reader.now c.args.left c.frames.reader _ refl;
}

pub enter-requires : goal.enter-requires
enter-requires g c = c.frames.invariant.within
