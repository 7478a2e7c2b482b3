use Rattle.std.proofs.Common.{◌≡◌, ap, ◌∙◌, take, [], subst}
use Rattle.std.proofs.lemmas.Result.{err_from_is_err_and}
use Rattle.flac_cli.specs.Verified.{ok_line}
use Rattle.flac_cli.specs.inner.Lined.{Adds}
use Rattle.flac_cli.proofs.Lined.{none_taken, adds_then, lost, lost_then, adds_lost, sent_adds}
use Rattle.flac_cli.proofs.verify_lines.put_ok.Goals as goal

pub returns-in_err-put_path : goal.returns-in_err-put_path
returns-in_err-put_path g c =
    let p = err_from_is_err_and c.from_residual.result c.from_residual.ensures.1 in
    rw p.1 (adds_lost g.O.Target (lost g.O.Target c.in_err-put_path.ensures))

pub returns-in_err-put_counted : goal.returns-in_err-put_counted
returns-in_err-put_counted g c =
    let p = err_from_is_err_and c.from_residual-in_err-put_counted.result c.from_residual-in_err-put_counted.ensures.1 in
    rw p.1 (adds_lost g.O.Target (lost_then g.O.Target c.in_ok-put_path.ensures (lost g.O.Target c.in_err-put_counted.ensures)))

pub returns-in_err-put_counted-2 : goal.returns-in_err-put_counted-2
returns-in_err-put_counted-2 g c =
    let p = err_from_is_err_and c.from_residual-in_err-put_counted-2.result c.from_residual-in_err-put_counted-2.ensures.1 in
    rw p.1 (adds_lost g.O.Target (lost_then g.O.Target c.in_ok-put_path.ensures (lost_then g.O.Target c.in_ok-put_counted.ensures (lost g.O.Target c.in_err-put_counted-2.ensures))))

pub returns-in_err-put_counted_if : goal.returns-in_err-put_counted_if
returns-in_err-put_counted_if g c =
    let p = err_from_is_err_and c.from_residual-in_err-put_counted_if.result c.from_residual-in_err-put_counted_if.ensures.1 in
    rw p.1 (adds_lost g.O.Target (lost_then g.O.Target c.in_ok-put_path.ensures (lost_then g.O.Target c.in_ok-put_counted.ensures (lost_then g.O.Target c.in_ok-put_counted-2.ensures (lost g.O.Target c.in_err-put_counted_if.ensures)))))

pub returns-in_err-put_words : goal.returns-in_err-put_words
returns-in_err-put_words g c =
    let p = err_from_is_err_and c.from_residual-in_err-put_words.result c.from_residual-in_err-put_words.ensures.1 in
    let later = lost_then g.O.Target c.in_ok-put_counted-2.ensures (lost_then g.O.Target c.in_ok-put_counted_if.ensures (lost g.O.Target c.in_err-put_words.ensures)) in
    rw p.1 (adds_lost g.O.Target (lost_then g.O.Target c.in_ok-put_path.ensures (lost_then g.O.Target c.in_ok-put_counted.ensures later)))

pub returns-in_err-put : goal.returns-in_err-put
returns-in_err-put g c =
    let p = err_from_is_err_and c.from_residual-in_err-put.result c.from_residual-in_err-put.ensures.1 in
    let later = lost_then g.O.Target c.in_ok-put_counted-2.ensures (lost_then g.O.Target c.in_ok-put_counted_if.ensures (lost_then g.O.Target c.in_ok-put_words.ensures (lost g.O.Target c.in_err-put.ensures))) in
    rw p.1 (adds_lost g.O.Target (lost_then g.O.Target c.in_ok-put_path.ensures (lost_then g.O.Target c.in_ok-put_counted.ensures later)))

pub returns : goal.returns
returns g c =
    let sent = sent_adds g.O.Target _ c.send.result c.send.ensures.names c.send.ensures.kept c.send.ensures.known c.send.ensures.sent c.send.ensures.failed in
    let d = adds_then g.O.Target _ c.in_ok-put_counted_if.ensures (adds_then g.O.Target _ c.in_ok-put_words.ensures (adds_then g.O.Target _ c.in_ok-put.ensures sent)) in
    let a = adds_then g.O.Target _ c.in_ok-put_counted.ensures (adds_then g.O.Target _ c.in_ok-put_counted-2.ensures d) in
    let none : take c.args.lines.now.held c.args.lines.now.bytes ≡ [] = ap (λ n. take n c.args.lines.now.bytes) c.requires ∙ none_taken c.args.lines.now.bytes in
    subst (λ held. Adds g.O.Target (ok_line c.args.path.now c.args.change c.args.tagged c.args.facts.now) c.args.lines.now.target c.send.new.self.target held [] c.send.result) none (adds_then g.O.Target _ c.in_ok-put_path.ensures a)
