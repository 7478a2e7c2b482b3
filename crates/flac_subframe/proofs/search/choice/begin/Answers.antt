use Rattle.std.proofs.Common.{arith, ◌∙◌, sym, length}
use Rattle.std.proofs.lemmas.Nat.{mul-le}
use Rattle.flac_subframe.specs.format.Numbers.{sample_at}
use Rattle.flac_subframe.proofs.lemmas.search.Bodies.{constant_least, verbatim_least, length-constant, length-verbatim}
use Rattle.flac_subframe.proofs.search.choice.begin.Goals as goal

pub returns-then-all_equal-clause-best : goal.returns-then-all_equal-clause-best
returns-then-all_equal-clause-best c = λ handed most codings. record {
  within = tt;
  least = constant_least most c.args.bits c.args.samples.now c.requires.some (c.all_equal.ensures.0 c.if-all_equal.true);
  priced = c.from-width.ensures ∙ sym (length-constant c.args.bits (sample_at c.args.samples.now 0));
  small = omega arith;
}

pub returns-else-all_equal-clause-best : goal.returns-else-all_equal-clause-best
returns-else-all_equal-clause-best c = λ handed most codings. record {
  within = tt;
  least = verbatim_least most c.args.bits c.args.samples.now c.requires.some (λ same. cc (c.all_equal.ensures.1 same, c.if-all_equal.false));
  priced = rw c.from-width.ensures (sym (length-verbatim c.args.bits c.args.samples.now));
  small = omega (arith, mul-le c.from-width.result (length c.args.samples.now) 33 65535 (omega arith) (omega arith));
}
