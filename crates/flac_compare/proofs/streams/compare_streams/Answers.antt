use Rattle.std.proofs.Common.{rules, ◌≡◌, subst}
use Rattle.flac_compare.specs.Streams.{input_of, ComparesInputs}
use Rattle.flac_compare.proofs.Ordered.{input_read}
use Rattle.flac_compare.proofs.Opened.{first_refused, inputs_opened, same_of}
use Rattle.flac_compare.proofs.streams.compare_streams.Goals as goal

pub returns-in-Err-clause-compares : goal.returns-in-Err-clause-compares
returns-in-Err-clause-compares g c = λ told tell.
    let R = g.R.Source in
    let x = c.in-Err.refused in
    let errors : R.errors x.left.now ≡ R.errors c.args.first.now = search (rules, told.1) in
    let raised : R.raised x.left.now ≡ R.raised c.args.first.now = search (rules, told.2) in
    first_refused (input_of R c.args.profile c.args.first.now) (input_of g.S.Source c.args.profile c.args.second.now) x.fault (c.in-Err.ensures.refused.refused told.0 errors raised)

pub returns-in-Native-clause-compares : goal.returns-in-Native-clause-compares
returns-in-Native-clause-compares g c = λ told tell.
    let r = input_of g.R.Source c.args.profile c.args.first.now in
    let s = input_of g.S.Source c.args.profile c.args.second.now in
    let o = rw c.in-Native.is at c.in-Ok.ensures in
    let reader = c.in-Native.reader in
    let end = c.compare_with-outcome.new.first in
    let errors : end.decoder.container.errors ≡ reader.decoder.container.errors = search (rules, told.1, o.starts.source.errors) in
    let raised : end.decoder.container.raised ≡ reader.decoder.container.raised = search (rules, told.2, o.starts.source.met) in
    inputs_opened reader r s c.compare_with-outcome.result (o.opens told.0) (c.compare_with-outcome.ensures.says (o.starts.source.known told.0, errors, raised) tell)

pub returns-in-Native-clause-same : goal.returns-in-Native-clause-same
returns-in-Native-clause-same g c = λ done told tell.
    let r = input_of g.R.Source c.args.profile c.args.first.now in
    let s = input_of g.S.Source c.args.profile c.args.second.now in
    let o = rw c.in-Native.is at c.in-Ok.ensures in
    let reader = c.in-Native.reader in
    let end = c.compare_with-outcome.new.first in
    let errors : end.decoder.container.errors ≡ reader.decoder.container.errors = search (rules, told.1, o.starts.source.errors) in
    let raised : end.decoder.container.raised ≡ reader.decoder.container.raised = search (rules, told.2, o.starts.source.met) in
    same_of r s (input_read c.args.profile (g.R.Source.coming c.args.first.now) (g.R.Source.after c.args.first.now)) (input_read c.args.profile (g.S.Source.coming c.args.second.now) (g.S.Source.after c.args.second.now)) (subst (λ k. ComparesInputs r s k) done (inputs_opened reader r s c.compare_with-outcome.result (o.opens told.0) (c.compare_with-outcome.ensures.says (o.starts.source.known told.0, errors, raised) tell)))

pub returns-in-Ogg-clause-compares : goal.returns-in-Ogg-clause-compares
returns-in-Ogg-clause-compares g c = λ told tell.
    let r = input_of g.R.Source c.args.profile c.args.first.now in
    let s = input_of g.S.Source c.args.profile c.args.second.now in
    let o = rw c.in-Ogg.is at c.in-Ok.ensures in
    let reader = c.in-Ogg.reader in
    let end = c.compare_with-outcome-in-Ogg.new.first in
    let errors : end.decoder.container.pages.errors ≡ reader.decoder.container.pages.errors = search (rules, told.1, o.starts.source.errors) in
    inputs_opened reader r s c.compare_with-outcome-in-Ogg.result (o.opens told.0) (c.compare_with-outcome-in-Ogg.ensures.says (o.starts.source.known told.0, errors, errors) tell)

pub returns-in-Ogg-clause-same : goal.returns-in-Ogg-clause-same
returns-in-Ogg-clause-same g c = λ done told tell.
    let r = input_of g.R.Source c.args.profile c.args.first.now in
    let s = input_of g.S.Source c.args.profile c.args.second.now in
    let o = rw c.in-Ogg.is at c.in-Ok.ensures in
    let reader = c.in-Ogg.reader in
    let end = c.compare_with-outcome-in-Ogg.new.first in
    let errors : end.decoder.container.pages.errors ≡ reader.decoder.container.pages.errors = search (rules, told.1, o.starts.source.errors) in
    same_of r s (input_read c.args.profile (g.R.Source.coming c.args.first.now) (g.R.Source.after c.args.first.now)) (input_read c.args.profile (g.S.Source.coming c.args.second.now) (g.S.Source.after c.args.second.now)) (subst (λ k. ComparesInputs r s k) done (inputs_opened reader r s c.compare_with-outcome-in-Ogg.result (o.opens told.0) (c.compare_with-outcome-in-Ogg.ensures.says (o.starts.source.known told.0, errors, errors) tell)))
