use Rattle.std.proofs.Common.{◌∙◌, ap}
use Rattle.std.proofs.lemmas.Result.{IfOk-weaker}
use Rattle.std.specs.String.{string_bytes}
use Rattle.flac_report.specs.inner.Reading.{path_in}
use Rattle.flac_report.proofs.Again.{path_is}
use Rattle.flac_report.proofs.Parts.{path_begins}
use Rattle.flac_report.proofs.lines.path_of.Goals as goal

pub returns : goal.returns
returns c = record {
  read = IfOk-weaker c.path_in.result _ _ (λ found is. λ e fits line. is ∙ ap path_in line ∙ path_is e fits) c.path_in.ensures;
  others = IfOk-weaker c.path_in.result _ _ (λ found is. path_begins string_bytes c.args.line.now found is) c.path_in.ensures;
}
