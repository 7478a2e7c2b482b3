use Rattle.std.proofs.Common.{◌∙◌, sym}
use Rattle.flac_report.proofs.Parts.{part_is, line_begins}
use Rattle.flac_report.proofs.lines.is_line.Goals as goal

pub returns : goal.returns
returns c = record {
  lines = λ e front. c.may_be_line.ensures ∙ part_is e c.args.line.now front;
  others = λ so. line_begins c.args.line.now (sym c.may_be_line.ensures ∙ so);
}
