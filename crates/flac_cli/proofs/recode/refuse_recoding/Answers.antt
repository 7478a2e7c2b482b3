use Rattle.std.proofs.Common.{◌≡◌, ◌++◌, subst}
use Rattle.flac_cli.specs.Reports.{fault_line, path_of, line_text}
use Rattle.flac_cli.proofs.Recoding.{same_files}
use Rattle.flac_cli.proofs.recode.refuse_recoding.Goals as goal

pub returns-in-Unread-clause-line : goal.returns-in-Unread-clause-line
returns-in-Unread-clause-line g c = λ known same. rw c.in-Unread.is (c.refuse.ensures.line known same).1

pub returns-in-Refused-clause-line : goal.returns-in-Refused-clause-line
returns-in-Refused-clause-line g c = λ known same.
    let j = c.to_encoding-job.ensures in
    let files = same_files c.args.recoding.now c.to_encoding-job.result j.input j.output j.list in
    let reason = c.in-Refused.reason in
    rw c.in-Refused.is
    (subst (λ f. g.E.Target.sent c.refuse_encoding.new.err ≡ g.E.Target.sent c.args.err.now ++ fault_line (path_of f reason) (line_text reason)) files (c.refuse_encoding.ensures.line known same))
