use Rattle.std.proofs.Common.{arith, ◌∙◌}
use Rattle.flac_salvage.proofs.NoneBetween.{none_more, none_all}
use Rattle.flac_salvage.proofs.next.next_whole.Goals as goal

pub returns-in-Ok-clause-found : goal.returns-in-Ok-clause-found
returns-in-Ok-clause-found c = record {
  after = c.looking.invariant.reached;
  stands = c.in-Ok.ensures.found;
  least = c.looking.invariant.none;
  only = λ g m there. c.in-Ok.ensures.only g m there;
}

pub looking-preserved : goal.looking-preserved
looking-preserved c =
    let i = c.looking.invariant in
    record {
      reached = omega arith;
      first = c.in_default.ensures.first;
      channels = c.fill_at.ensures.room.0 ∙ i.channels;
      max_block = c.fill_at.ensures.room.1 ∙ i.max_block;
      none = none_more c.args.profile c.args.info.now c.args.bytes.now c.args.from c.looking.at i.none (λ f n there. c.in_default.ensures.only f n there);
    }

pub returns-clause-none : goal.returns-clause-none
returns-clause-none c = λ e. (c.looking.invariant.first, none_all c.args.profile c.args.info.now c.args.bytes.now c.args.from c.looking.at c.looking.invariant.none (omega (arith, c.looking-test.false)))
