use Rattle.flac_whole_pages.proofs.Finding.{next_is}
use Rattle.flac_whole_pages.proofs.find.next_whole_page.Goals as goal

pub returns-in-Some-clause-found : goal.returns-in-Some-clause-found
returns-in-Some-clause-found c =
    let found = c.in-Some.ensures.found in
    next_is c.args.bytes.now c.args.from c.looking.at c.in-Some.page c.looking.invariant.reached c.looking.invariant.none found.0 found.1
