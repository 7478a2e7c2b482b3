use Rattle.std.proofs.Common.{rules, ◌≡◌, Err}
use Rattle.flac_reader.specs.Inputs.{any_input}
use Rattle.flac_cli.specs.declared.excerpt.ExcerptFault.TheVariants.{Unread}
use Rattle.flac_cli.proofs.Opened.{part_opened, opening_refused, by_profile}
use Rattle.flac_cli.proofs.excerpt.send_excerpt.Goals as goal

pub returns-in-Err-clause-says : goal.returns-in-Err-clause-says
returns-in-Err-clause-says g c = λ told known.
    let R = g.R.Source in
    let x = c.in-Err.refused in
    let errors : R.errors x.left.now ≡ R.errors c.args.source.now = search (rules, told.1) in
    let raised : R.raised x.left.now ≡ R.raised c.args.source.now = search (rules, told.2) in
    let bytes = R.coming c.args.source.now in
    let follows = R.after c.args.source.now in
    by_profile c.args.excerpt.now c.profile_of.result bytes follows (g.W.Target.sent c.args.target.now) (g.W.Target.sent c.args.target.now) (Err (Unread x.fault)) c.profile_of.ensures
    (opening_refused c.args.excerpt.now (any_input c.profile_of.result bytes follows) (g.W.Target.sent c.args.target.now) (g.W.Target.sent c.args.target.now) x.fault (c.in-Err.ensures.refused.refused told.0 errors raised))

pub returns-in-Native-clause-says : goal.returns-in-Native-clause-says
returns-in-Native-clause-says g c = λ told known.
    let R = g.R.Source in
    let o = rw c.in-Native.is at c.in-Ok.ensures in
    let reader = c.in-Native.reader in
    let end = c.send_part-outcome.new.reader in
    let bytes = R.coming c.args.source.now in
    let follows = R.after c.args.source.now in
    let errors : end.decoder.container.errors ≡ reader.decoder.container.errors = search (rules, told.1, o.starts.source.errors) in
    let raised : end.decoder.container.raised ≡ reader.decoder.container.raised = search (rules, told.2, o.starts.source.met) in
    by_profile c.args.excerpt.now c.profile_of.result bytes follows (g.W.Target.sent c.args.target.now) (g.W.Target.sent c.send_part-outcome.new.target) c.send_part-outcome.result c.profile_of.ensures
    (part_opened reader c.args.excerpt.now (any_input c.profile_of.result bytes follows) (g.W.Target.sent c.args.target.now) (g.W.Target.sent c.send_part-outcome.new.target) c.send_part-outcome.result (o.opens told.0)
    (c.send_part-outcome.ensures.says (o.starts.source.known told.0, errors, raised) known))

pub returns-in-Ogg-clause-says : goal.returns-in-Ogg-clause-says
returns-in-Ogg-clause-says g c = λ told known.
    let R = g.R.Source in
    let o = rw c.in-Ogg.is at c.in-Ok.ensures in
    let reader = c.in-Ogg.reader in
    let end = c.send_part-outcome-in-Ogg.new.reader in
    let bytes = R.coming c.args.source.now in
    let follows = R.after c.args.source.now in
    let errors : end.decoder.container.pages.errors ≡ reader.decoder.container.pages.errors = search (rules, told.1, o.starts.source.errors) in
    by_profile c.args.excerpt.now c.profile_of.result bytes follows (g.W.Target.sent c.args.target.now) (g.W.Target.sent c.send_part-outcome-in-Ogg.new.target) c.send_part-outcome-in-Ogg.result c.profile_of.ensures
    (part_opened reader c.args.excerpt.now (any_input c.profile_of.result bytes follows) (g.W.Target.sent c.args.target.now) (g.W.Target.sent c.send_part-outcome-in-Ogg.new.target) c.send_part-outcome-in-Ogg.result (o.opens told.0)
    (c.send_part-outcome-in-Ogg.ensures.says (o.starts.source.known told.0, errors, errors) known))
