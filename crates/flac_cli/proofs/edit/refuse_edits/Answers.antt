use Rattle.std.proofs.Common.{ℕ, List, ◌++◌, ap, ◌∙◌}
use Rattle.flac_cli.specs.Lined.{text_at}
use Rattle.flac_cli.specs.Reports.{fault_line}
use Rattle.flac_cli.specs.Editing.{edit_place, edit_name}
use Rattle.flac_cli.specs.declared.lines.At.{At}
use Rattle.flac_cli.proofs.Reported.{line_sent}
use Rattle.flac_cli.proofs.edit.refuse_edits.Goals as goal

pub returns-clause-line : goal.returns-clause-line
returns-clause-line g c = λ known same.
    line_sent c.write_line.result _ _ c.write_line.ensures.sent c.write_line.ensures.failed known same
    ∙ ap (λ (text : List ℕ). g.E.Target.sent c.args.err.now ++ fault_line c.path_of-path.result.now text)
    (ap (λ (a : At). text_at a c.name_of-name.result.now) c.place_of-at.ensures ∙ ap (text_at (edit_place c.args.fault)) c.name_of-name.ensures)
    ∙ ap (λ (path : List ℕ). g.E.Target.sent c.args.err.now ++ fault_line path (text_at (edit_place c.args.fault) (edit_name c.args.fault))) c.path_of-path.ensures
