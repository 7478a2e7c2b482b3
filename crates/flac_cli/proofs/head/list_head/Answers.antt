use Rattle.flac_cli.proofs.Outcomes.{counts_on}
use Rattle.flac_cli.proofs.head.list_head.Goals as goal

pub returns-in-Ok-clause-head : goal.returns-in-Ok-clause-head
returns-in-Ok-clause-head g c = λ is known parts end read. (c.in-Ok.ensures.head known (counts_on _ c.new-listing.ensures.failures) parts end read).0

pub returns-clause-refused : goal.returns-clause-refused
returns-clause-refused g c = λ is tells known same.
    let answer = c.refuse.ensures.line known same in
    record {
      at = c.in-Err.fault.at;
      reason = c.in-Err.fault.why;
      line = answer.1;
      fits = λ room unsunk. c.in-Err.ensures.refused tells room unsunk;
    }

pub returns-clause-named : goal.returns-clause-named
returns-clause-named g c = λ is known same. (c.in-Err.fault.at, c.in-Err.fault.why, (c.refuse.ensures.line known same).1)
