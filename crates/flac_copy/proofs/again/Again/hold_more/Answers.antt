use Rattle.flac_copy.proofs.again.Again.hold_more.Goals as goal

pub returns-in_default-clause-failed : goal.returns-in_default-clause-failed
returns-in_default-clause-failed g c =
    let e = c.in_default.ensures in
    record {
      kept = e.kept;
      names = e.names;
      risen = λ none is. e.risen;
      short = λ none is. absurd cc;
      stays = λ none is. absurd cc;
    }
