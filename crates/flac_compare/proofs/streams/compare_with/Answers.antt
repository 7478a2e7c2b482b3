use Rattle.std.proofs.Common.{rules, ◌≡◌}
use Rattle.flac_compare.specs.Streams.{input_of}
use Rattle.flac_compare.proofs.Opened.{second_refused, with_opened}
use Rattle.flac_compare.proofs.streams.compare_with.Goals as goal

pub returns-in-Err-clause-says : goal.returns-in-Err-clause-says
returns-in-Err-clause-says g c = λ calm told.
    let S = g.S.Source in
    let x = c.in-Err.refused in
    let errors : S.errors x.left.now ≡ S.errors c.args.second.now = search (rules, told.1) in
    let raised : S.raised x.left.now ≡ S.raised c.args.second.now = search (rules, told.2) in
    second_refused c.args.first.now (input_of S c.args.profile c.args.second.now) x.fault (c.in-Err.ensures.refused.refused told.0 errors raised)

pub returns-in-Native-clause-says : goal.returns-in-Native-clause-says
returns-in-Native-clause-says g c = λ calm told.
    let S = g.S.Source in
    let o = rw c.in-Native.is at c.in-Ok.ensures in
    let reader = c.in-Native.reader in
    let end = c.compare-outcome.new.second in
    let errors : end.decoder.container.errors ≡ reader.decoder.container.errors = search (rules, told.1, o.starts.source.errors) in
    let raised : end.decoder.container.raised ≡ reader.decoder.container.raised = search (rules, told.2, o.starts.source.met) in
    with_opened c.args.first.now reader (input_of S c.args.profile c.args.second.now) c.compare-outcome.result (o.opens told.0)
    (c.compare-outcome.ensures.samples calm (o.starts.source.known told.0, errors, raised)) c.compare-outcome.ensures.format

pub returns-in-Ogg-clause-says : goal.returns-in-Ogg-clause-says
returns-in-Ogg-clause-says g c = λ calm told.
    let S = g.S.Source in
    let o = rw c.in-Ogg.is at c.in-Ok.ensures in
    let reader = c.in-Ogg.reader in
    let end = c.compare-outcome-in-Ogg.new.second in
    let errors : end.decoder.container.pages.errors ≡ reader.decoder.container.pages.errors = search (rules, told.1, o.starts.source.errors) in
    with_opened c.args.first.now reader (input_of S c.args.profile c.args.second.now) c.compare-outcome-in-Ogg.result (o.opens told.0)
    (c.compare-outcome-in-Ogg.ensures.samples calm (o.starts.source.known told.0, errors, errors)) c.compare-outcome-in-Ogg.ensures.format
