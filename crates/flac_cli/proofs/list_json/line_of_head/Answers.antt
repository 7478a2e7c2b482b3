use Rattle.std.proofs.Common.{ℕ, Vec, Global, ap}
use Rattle.flac_cli.specs.Headed.{any_reading}
use Rattle.flac_cli.specs.Streams.{Tells}
use Rattle.flac_cli.specs.inner.Listing.{view_of}
use Rattle.flac_cli.specs.declared.list_json.LineMaker.{LineMaker}
use Rattle.flac_cli.proofs.Listing.{ok_holds, ok_told, line_made, head_refused}
use Rattle.flac_cli.proofs.Outcomes.{counts_on}
use Rattle.flac_cli.proofs.list_json.line_of_head.Goals as goal

pub returns-clause-line : goal.returns-clause-line
returns-clause-line g c =
    let told = c.pass_head-outcome in
    ok_told c.finished.result
    (λ whole is known parts end read.
    let head = ok_holds told.result is.0 told.ensures.head known (counts_on _ c.in-Ok.ensures.failures) parts end read in
    (head.0, line_made (λ (m : LineMaker). view_of m.objects) c.args.file.now c.in-Ok.maker _ told.new.sink c.into_line.result.items whole.items c.in-Ok.ensures.begun head.1 (ap (λ (v : Vec ℕ Global). v.items) c.into_line.ensures) is.1))
    c.finished.ensures.line

pub returns-clause-refused : goal.returns-clause-refused
returns-clause-refused g c =
    head_refused (any_reading g.R.Source c.args.source.now) (Tells g.R.Source c.args.source.now c.pass_head-outcome.new.source) c.pass_head-outcome.result c.finished.result c.pass_head-outcome.ensures.refused c.finished.ensures.fault
