use Rattle.std.proofs.Common.{ℕ, Vec, Global, ap, sym, ◌∙◌, arith}
use Rattle.flac_cli.specs.Outcomes.{Reads}
use Rattle.flac_cli.specs.inner.Listing.{view_of}
use Rattle.flac_cli.specs.declared.list_json.LineMaker.{LineMaker}
use Rattle.flac_cli.proofs.Listing.{ok_holds, ok_told, line_made, line_fits, fits_memory}
use Rattle.flac_cli.proofs.Outcomes.{counts_on}
use Rattle.flac_cli.proofs.list_json.line_of_stream.Goals as goal

pub returns-clause-line : goal.returns-clause-line
returns-clause-line g c =
    let told = c.decode_stream-outcome in
    ok_told c.finished.result
    (λ whole is tells.
    let d = ok_holds told.result is.0 (told.ensures.takes tells (counts_on _ c.in-Ok.ensures.failures)) in
    (d.0, d.1, line_made (λ (m : LineMaker). view_of m.objects) c.args.file.now c.in-Ok.maker d.0 told.new.sink c.into_line.result.items whole.items c.in-Ok.ensures.begun d.2 (ap (λ (v : Vec ℕ Global). v.items) c.into_line.ensures) is.1))
    c.finished.ensures.line

pub returns-clause-outcome : goal.returns-clause-outcome
returns-clause-outcome g c = λ tells.
    let told = c.decode_stream-outcome in
    let begun = c.in-Ok.ensures.failures in
    let known = counts_on _ begun in
    line_fits (Reads c.args.profile (g.R.Source.coming c.args.source.now) (g.R.Source.after c.args.source.now)) told.new.sink.failures.count told.result c.finished.result
    (λ none. told.ensures.outcome tells known (none ∙ sym begun))
    (λ rose. told.ensures.failed tells known (omega (arith, begun, rose)))
    (ok_told c.finished.result (λ whole is. is.0) c.finished.ensures.line)
    c.finished.ensures.fault

pub returns-in-Err-clause-outcome : goal.returns-in-Err-clause-outcome
returns-in-Err-clause-outcome g c = λ tells. fits_memory (Reads c.args.profile (g.R.Source.coming c.args.source.now) (g.R.Source.after c.args.source.now)) c.no_memory.result c.no_memory.ensures
