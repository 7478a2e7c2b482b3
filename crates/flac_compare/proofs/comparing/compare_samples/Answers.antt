use Rattle.std.proofs.Common.{refl, arith}
use Rattle.flac_compare.proofs.Onwards.{stays_both}
use Rattle.flac_compare.proofs.SideBySide.{compared_start, compared_turn, compared_differ, compared_rest, compared_refused, compared_no_more}
use Rattle.flac_compare.proofs.comparing.compare_samples.Goals as goal

pub frames-init : goal.frames-init
frames-init g c = compared_start c.args.first.now c.args.second.now

pub frames-preserved : goal.frames-preserved
frames-preserved g c =
    let told = rw c.in-Ok-true.field-0-test at c.in-Ok-true.ensures in
    compared_turn c.args.first.now c.args.second.now c.frames.first c.enter_both.new.first c.frames.left c.enter_both.new.left _ c.frames.second c.enter_both.new.second c.frames.other c.enter_both.new.other _ c.frames.count c.saturating_add-count.result c.min-n.result
    c.frames.invariant told.first_stays told.second_stays told.first_met told.second_met told.first_within told.second_within told.enters c.in-None.ensures refl refl c.saturating_add-count.ensures

pub returns-in-Ok-false : goal.returns-in-Ok-false
returns-in-Ok-false g c =
    let told = rw c.in-Ok-false.field-0-test at c.in-Ok-false.ensures in
    let far = c.frames.invariant in
    let end = c.compare_rest.ensures in
    record {
      first_stays = stays_both c.args.first.now c.enter_both.new.first c.compare_rest.new.first (stays_both c.args.first.now c.frames.first c.enter_both.new.first far.stays told.first_stays) end.first_stays;
      second_stays = stays_both c.args.second.now c.enter_both.new.second c.compare_rest.new.second (stays_both c.args.second.now c.frames.second c.enter_both.new.second far.stay told.second_stays) end.second_stays;
      kind = end.kind;
      samples = λ calm still. compared_rest c.args.first.now c.args.second.now c.frames.first c.enter_both.new.first c.compare_rest.new.first c.frames.left c.enter_both.new.left c.frames.second c.enter_both.new.second c.compare_rest.new.second c.frames.other c.enter_both.new.other c.frames.count c.compare_rest.result
          far told.first_met told.second_met told.enters end.rest calm still;
    }

pub returns-in-Err : goal.returns-in-Err
returns-in-Err g c =
    let told = c.in-Err.ensures in
    let far = c.frames.invariant in
    record {
      first_stays = stays_both c.args.first.now c.frames.first c.enter_both.new.first far.stays told.first_stays;
      second_stays = stays_both c.args.second.now c.frames.second c.enter_both.new.second far.stay told.second_stays;
      kind = tt;
      samples = λ calm still. compared_refused c.args.first.now c.args.second.now c.frames.first c.enter_both.new.first c.frames.left c.enter_both.new.left c.frames.second c.enter_both.new.second c.frames.other c.enter_both.new.other c.frames.count c.in-Err.unread far told.enters calm still;
    }

pub returns-in-Some : goal.returns-in-Some
returns-in-Some g c =
    let told = rw c.in-Ok-true.field-0-test at c.in-Ok-true.ensures in
    let far = c.frames.invariant in
    record {
      first_stays = stays_both c.args.first.now c.frames.first c.enter_both.new.first far.stays told.first_stays;
      second_stays = stays_both c.args.second.now c.frames.second c.enter_both.new.second far.stay told.second_stays;
      kind = refl;
      samples = λ calm still. compared_differ c.args.first.now c.args.second.now c.frames.first c.enter_both.new.first c.frames.left c.enter_both.new.left c.frames.second c.enter_both.new.second c.frames.other c.enter_both.new.other c.frames.count c.saturating_add-sample.result _ _
          far told.enters c.in-Some.ensures c.saturating_add-sample.ensures calm.0 still.0;
    }

pub returns : goal.returns
returns g c = record {
  first_stays = c.frames.invariant.stays;
  second_stays = c.frames.invariant.stay;
  kind = tt;
  samples = λ calm still. compared_no_more c.args.first.now c.args.second.now _ refl;
}

pub enter_both-requires : goal.enter_both-requires
enter_both-requires g c = record { first = c.frames.invariant.within; second = c.frames.invariant.inside }

pub compare_rest-requires : goal.compare_rest-requires
compare_rest-requires g c =
    let told = rw c.in-Ok-false.field-0-test at c.in-Ok-false.ensures in
    record { first = told.first_within; second = told.second_within }

pub held_difference-requires : goal.held_difference-requires
held_difference-requires g c =
    let told = rw c.in-Ok-true.field-0-test at c.in-Ok-true.ensures in
    record { first = told.first_within; second = told.second_within; n = (omega (arith, c.min-n.ensures), omega (arith, c.min-n.ensures)) }
