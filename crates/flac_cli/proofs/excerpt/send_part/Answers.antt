use Rattle.std.proofs.Common.{◌≡◌, None, ap, subst, ◌∙◌}
use Rattle.flac_reader.specs.Kept.{first_comments}
use Rattle.flac_cli.specs.Excerpts.{start_of, stop_of, range_fault, file_text}
use Rattle.flac_cli.specs.inner.Excerpts.{IsSpanOf, stated_in, SaysSpan}
use Rattle.flac_cli.proofs.Excerpts.{part_said}
use Rattle.flac_cli.proofs.excerpt.send_part.Goals as goal

pub returns-clause-says : goal.returns-clause-says
returns-clause-says g c = λ calm known rows end q.
    let e = c.args.excerpt.now in
    let info = c.args.reader.now.info in
    let made = subst (λ i. IsSpanOf (start_of e.from i) (stop_of e.to i) c.in-Ok.span) c.info.ensures c.in-Ok.ensures.made in
    let right = subst (λ i. range_fault (start_of e.from i) (stop_of e.to i) i.total ≡ None) c.info.ensures c.in-Ok.ensures.right in
    let comments = first_comments c.args.reader.now.blocks.items in
    let before = g.W.Target.sent c.args.target.now in
    let after = g.W.Target.sent c.send_file.new.target in
    let states = c.stated-total.ensures.stated ∙ ap (λ n. stated_in c.in-Ok.span n) (c.total.ensures.value ∙ ap (λ i. i.total) c.info-2.ensures) in
    let says = subst (λ n. SaysSpan (file_text e.wave info comments n) c.in-Ok.span rows end before after c.send_file.result) states (c.send_file.ensures.says calm known rows end q) in
    part_said e.wave info comments (start_of e.from info) (stop_of e.to info) c.in-Ok.span rows end before after c.send_file.result made right says
