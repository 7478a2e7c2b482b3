use Rattle.std.proofs.Common.{Ok, sym, subst}
use Rattle.flac_compare.specs.inner.Comparing.{EntersBoth}
use Rattle.flac_compare.proofs.SideBySide.{both_entered}
use Rattle.flac_compare.proofs.Onwards.{stays_same}
use Rattle.flac_compare.proofs.comparing.enter_both.Goals as goal

pub returns-in-Err : goal.returns-in-Err
returns-in-Err g c = record {
  first_within = tt;
  second_within = tt;
  first_stays = c.in-Err.ensures.stays;
  second_stays = stays_same c.args.second.now;
  first_met = tt;
  second_met = tt;
  enters = c.in-Err.ensures.enters;
}

pub returns-in-Ok-enter : goal.returns-in-Ok-enter
returns-in-Ok-enter g c = record {
  first_within = c.in-Ok.ensures.within;
  second_within = c.in-Ok-enter.ensures.within;
  first_stays = c.in-Ok.ensures.stays;
  second_stays = c.in-Ok-enter.ensures.stays;
  first_met = c.in-Ok.ensures.met;
  second_met = c.in-Ok-enter.ensures.met;
  enters = subst (λ b. EntersBoth c.args.first.now c.args.left.now c.args.second.now c.args.other.now c.enter.new.reader c.enter.new.left c.enter-2.new.reader c.enter-2.new.left (Ok b)) (sym c.both.ensures) (both_entered c.args.first.now c.args.left.now c.args.second.now c.args.other.now c.enter.new.reader c.enter.new.left c.enter-2.new.reader c.enter-2.new.left c.in-Ok.more c.in-Ok-enter.others c.in-Ok.ensures.enters c.in-Ok-enter.ensures.enters);
}

pub returns-in-Err-enter : goal.returns-in-Err-enter
returns-in-Err-enter g c = record {
  first_within = tt;
  second_within = tt;
  first_stays = c.in-Ok.ensures.stays;
  second_stays = c.in-Err-enter.ensures.stays;
  first_met = tt;
  second_met = tt;
  enters = c.in-Err-enter.ensures.enters;
}
