use Rattle.std.proofs.Common.{◌≡◌, length, arith}
use Rattle.flac_copy.proofs.AgainLemmas.{over_of}
use Rattle.flac_copy.proofs.again.Again.is_over.Goals as goal

pub returns-clause-over : goal.returns-clause-over
returns-clause-over g c =
    let none : length c.args.self.now.held.items ≡ 0 = omega (arith, c.count.ensures.items) in
    over_of g.S.Source c.args.self.now c.hold_more.new.self c.in_ok-more.more c.in_ok-more.ensures.held none c.in_ok-more.ensures.given
