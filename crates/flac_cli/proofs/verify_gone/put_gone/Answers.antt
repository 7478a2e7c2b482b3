use Rattle.std.proofs.Common.{◌≡◌, ap, ◌∙◌, take, [], subst, codes, append_assoc}
use Rattle.std.proofs.lemmas.Result.{err_from_is_err_and}
use Rattle.flac_shelf.specs.Shown.{shown}
use Rattle.flac_cli.specs.Verified.{gone_line}
use Rattle.flac_cli.specs.inner.Lined.{Adds}
use Rattle.flac_cli.proofs.Lined.{none_taken, adds_then, adds_same, lost, lost_then, adds_lost, sent_adds}
use Rattle.flac_cli.proofs.verify_gone.put_gone.Goals as goal

pub returns-in_err-put_path : goal.returns-in_err-put_path
returns-in_err-put_path g c =
    let p = err_from_is_err_and c.from_residual.result c.from_residual.ensures.1 in
    rw p.1 (adds_lost g.E.Target (lost g.E.Target c.in_err-put_path.ensures))

pub returns-in_err-put : goal.returns-in_err-put
returns-in_err-put g c =
    let p = err_from_is_err_and c.from_residual-in_err-put.result c.from_residual-in_err-put.ensures.1 in
    rw p.1 (adds_lost g.E.Target (lost_then g.E.Target c.in_ok-put_path.ensures (lost g.E.Target c.in_err-put.ensures)))

pub returns : goal.returns
returns g c =
    let sent = sent_adds g.E.Target _ c.send.result c.send.ensures.names c.send.ensures.kept c.send.ensures.known c.send.ensures.sent c.send.ensures.failed in
    let all = adds_same g.E.Target _ (adds_then g.E.Target _ c.in_ok-put_path.ensures (adds_then g.E.Target _ c.in_ok-put.ensures sent)) (append_assoc (codes "gone ") (shown c.args.path.now) _) in
    let none : take c.args.lines.now.held c.args.lines.now.bytes ≡ [] = ap (λ n. take n c.args.lines.now.bytes) c.requires ∙ none_taken c.args.lines.now.bytes in
    subst (λ held. Adds g.E.Target (gone_line c.args.path.now) c.args.lines.now.target c.send.new.self.target held [] c.send.result) none all
