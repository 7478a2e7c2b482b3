use Rattle.std.proofs.Common.{◌∙◌, ap}
use Rattle.std.proofs.lemmas.Result.{IfOk-weaker}
use Rattle.flac_report.specs.Lines.{said}
use Rattle.flac_report.specs.inner.Reading.{recorded_in}
use Rattle.flac_report.proofs.Again.{recorded_is}
use Rattle.flac_report.proofs.Parts.{recorded_begins}
use Rattle.flac_report.proofs.lines.recorded_of.Goals as goal

pub returns : goal.returns
returns c = record {
  read = IfOk-weaker c.recorded_in.result _ _ (λ found is. λ e fits line. is ∙ ap recorded_in line ∙ recorded_is e fits) c.recorded_in.ensures;
  others = IfOk-weaker c.recorded_in.result _ _ (λ found is. recorded_begins said c.args.line.now found is) c.recorded_in.ensures;
}
