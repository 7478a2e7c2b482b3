use Rattle.std.proofs.Common.{refl}
use Rattle.flac_compare.proofs.Onwards.{stays_same}
use Rattle.flac_compare.proofs.SideBySide.{rest_same, rest_differs, rest_first, rest_second}
use Rattle.flac_compare.proofs.comparing.compare_rest.Goals as goal

pub returns-in-Err : goal.returns-in-Err
returns-in-Err g c = record {
  first_stays = c.in-Err.ensures.stays;
  second_stays = stays_same c.args.second.now;
  first_met = tt;
  second_met = tt;
  kind = tt;
  rest = rest_first c.args.first.now c.args.left c.args.second.now c.args.other c.args.count c.count_rest.new.reader c.args.second.now c.in-Err.fault c.in-Err.ensures.counts;
}

pub returns-in-Err-count_rest : goal.returns-in-Err-count_rest
returns-in-Err-count_rest g c = record {
  first_stays = c.in-Ok.ensures.stays;
  second_stays = c.in-Err-count_rest.ensures.stays;
  first_met = tt;
  second_met = tt;
  kind = tt;
  rest = rest_second c.args.first.now c.args.left c.args.second.now c.args.other c.args.count c.count_rest.new.reader c.count_rest-2.new.reader c.in-Err-count_rest.fault c.in-Err-count_rest.ensures.counts;
}

pub returns-then-rest-others : goal.returns-then-rest-others
returns-then-rest-others g c = record {
  first_stays = c.in-Ok.ensures.stays;
  second_stays = c.in-Ok-count_rest.ensures.stays;
  first_met = c.in-Ok.ensures.met;
  second_met = c.in-Ok-count_rest.ensures.met;
  kind = tt;
  rest = rest_same c.args.first.now c.args.left c.args.second.now c.args.other c.args.count c.in-Ok.rest c.in-Ok-count_rest.others c.count_rest.new.reader c.count_rest-2.new.reader c.in-Ok.ensures.counts c.in-Ok-count_rest.ensures.counts c.if-rest-others.true;
}

pub returns : goal.returns
returns g c = record {
  first_stays = c.in-Ok.ensures.stays;
  second_stays = c.in-Ok-count_rest.ensures.stays;
  first_met = c.in-Ok.ensures.met;
  second_met = c.in-Ok-count_rest.ensures.met;
  kind = refl;
  rest = rest_differs c.args.first.now c.args.left c.args.second.now c.args.other c.args.count c.in-Ok.rest c.in-Ok-count_rest.others c.saturating_add.result c.saturating_add-2.result c.count_rest.new.reader c.count_rest-2.new.reader c.in-Ok.ensures.counts c.in-Ok-count_rest.ensures.counts c.if-rest-others.false c.saturating_add.ensures c.saturating_add-2.ensures;
}
