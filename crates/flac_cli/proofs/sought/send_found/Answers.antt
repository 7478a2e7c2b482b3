use Rattle.std.proofs.Common.{◌≡◌, None, ap, subst, ◌∙◌}
use Rattle.flac_cli.specs.Excerpts.{start_of, stop_of, range_fault}
use Rattle.flac_cli.specs.inner.Excerpts.{IsSpanOf, stated_in}
use Rattle.flac_cli.proofs.Excerpts.{on_ok}
use Rattle.flac_cli.proofs.PartsFound.{found_sent}
use Rattle.flac_cli.proofs.sought.send_found.Goals as goal

pub returns-in-Some-clause-says : goal.returns-in-Some-clause-says
returns-in-Some-clause-says g c =
    let e = c.args.excerpt.now in
    let info = c.args.reader.now.info in
    let made = subst (λ i. IsSpanOf (start_of e.from i) (stop_of e.to i) c.in-Ok.span) c.info.ensures c.in-Ok.ensures.made in
    let right = subst (λ i. range_fault (start_of e.from i) (stop_of e.to i) i.total ≡ None) c.info.ensures c.in-Ok.ensures.right in
    let states = c.stated-total.ensures.stated ∙ ap (λ n. stated_in c.in-Ok.span n) (c.total.ensures.value ∙ ap (λ i. i.total) c.info-2.ensures) in
    found_sent g.W.Target e c.args.reader.now c.send_file.new.reader c.in-Ok.span c.after-span.result c.stated-total.result c.first_sample.result c.args.target.now c.send_file.new.target made right states c.after-span.ensures c.first_sample.ensures c.in-Ok-send_file.ensures.met
    c.in-Ok-send_file.ensures.says

pub returns-in-None-clause-says : goal.returns-in-None-clause-says
returns-in-None-clause-says g c =
    let e = c.args.excerpt.now in
    let info = c.args.reader.now.info in
    let made = subst (λ i. IsSpanOf (start_of e.from i) (stop_of e.to i) c.in-Ok.span) c.info.ensures c.in-Ok.ensures.made in
    let right = subst (λ i. range_fault (start_of e.from i) (stop_of e.to i) i.total ≡ None) c.info.ensures c.in-Ok.ensures.right in
    let states = c.stated-total.ensures.stated ∙ ap (λ n. stated_in c.in-Ok.span n) (c.total.ensures.value ∙ ap (λ i. i.total) c.info-2.ensures) in
    on_ok _ c.counted.result (found_sent g.W.Target e c.args.reader.now c.send_file.new.reader c.in-Ok.span c.after-span.result c.stated-total.result c.first_sample.result c.args.target.now c.send_file.new.target made right states c.after-span.ensures c.first_sample.ensures c.in-Ok-send_file.ensures.met
    c.in-Ok-send_file.ensures.says)
