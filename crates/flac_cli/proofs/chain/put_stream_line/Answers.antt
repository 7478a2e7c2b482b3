use Rattle.std.proofs.Common.{◌≡◌, ap, sym, ◌∙◌, ◌++◌, take, [], subst, codes, decimal, append_assoc}
use Rattle.std.proofs.lemmas.Result.{err_from_is_err_and}
use Rattle.flac_cli.specs.Chains.{numbered}
use Rattle.flac_cli.specs.Lined.{text_at}
use Rattle.flac_cli.specs.inner.Lined.{Adds}
use Rattle.flac_cli.specs.Reports.{fault_line}
use Rattle.flac_cli.proofs.Lined.{none_taken, adds_then, adds_same, lost, lost_then, adds_lost, sent_adds}
use Rattle.flac_cli.proofs.chain.put_stream_line.Goals as goal

pub returns-in_err-put_both : goal.returns-in_err-put_both
returns-in_err-put_both g c =
    let p = err_from_is_err_and c.from_residual.result c.from_residual.ensures.1 in
    rw p.1 (adds_lost g.W.Target (lost g.W.Target c.in_err-put_both.ensures))

pub returns-in_err-put_counted : goal.returns-in_err-put_counted
returns-in_err-put_counted g c =
    let p = err_from_is_err_and c.from_residual-in_err-put_counted.result c.from_residual-in_err-put_counted.ensures.1 in
    rw p.1 (adds_lost g.W.Target (lost_then g.W.Target c.in_ok-put_both.ensures (lost g.W.Target c.in_err-put_counted.ensures)))

pub returns-in_err-put : goal.returns-in_err-put
returns-in_err-put g c =
    let p = err_from_is_err_and c.from_residual-in_err-put.result c.from_residual-in_err-put.ensures.1 in
    rw p.1 (adds_lost g.W.Target (lost_then g.W.Target c.in_ok-put_both.ensures (lost_then g.W.Target c.in_ok-put_counted.ensures (lost g.W.Target c.in_err-put.ensures))))

pub returns-in_err-put_reason : goal.returns-in_err-put_reason
returns-in_err-put_reason g c =
    let p = err_from_is_err_and c.from_residual-in_err-put_reason.result c.from_residual-in_err-put_reason.ensures.1 in
    rw p.1 (adds_lost g.W.Target (lost_then g.W.Target c.in_ok-put_both.ensures (lost_then g.W.Target c.in_ok-put_counted.ensures (lost_then g.W.Target c.in_ok-put.ensures (lost g.W.Target c.in_err-put_reason.ensures)))))

pub returns-in_err-put-2 : goal.returns-in_err-put-2
returns-in_err-put-2 g c =
    let p = err_from_is_err_and c.from_residual-in_err-put-2.result c.from_residual-in_err-put-2.ensures.1 in
    rw p.1 (adds_lost g.W.Target (lost_then g.W.Target c.in_ok-put_both.ensures (lost_then g.W.Target c.in_ok-put_counted.ensures (lost_then g.W.Target c.in_ok-put.ensures (lost_then g.W.Target c.in_ok-put_reason.ensures (lost g.W.Target c.in_err-put-2.ensures))))))

pub returns : goal.returns
returns g c =
    let path = c.args.path.now in
    let number = codes ": stream " ++ decimal c.args.number in
    let sent = sent_adds g.W.Target _ c.send.result c.send.ensures.names c.send.ensures.kept c.send.ensures.known c.send.ensures.sent c.send.ensures.failed in
    let d = adds_then g.W.Target _ c.in_ok-put-2.ensures sent in
    let b = adds_then g.W.Target _ c.in_ok-put_reason.ensures d in
    let a = adds_then g.W.Target _ c.in_ok-put.ensures b in
    let n = adds_then g.W.Target _ c.in_ok-put_counted.ensures a in
    let all = adds_same g.W.Target _ (adds_then g.W.Target _ c.in_ok-put_both.ensures n) (append_assoc (codes "flac: ") path _ ∙ ap (λ l. codes "flac: " ++ l) (sym (append_assoc path number _))) in
    let none : take c.args.lines.now.held c.args.lines.now.bytes ≡ [] = ap (λ n. take n c.args.lines.now.bytes) c.requires ∙ none_taken c.args.lines.now.bytes in
    subst (λ held. Adds g.W.Target (fault_line (numbered path c.args.number) (text_at c.args.at c.args.text.now)) c.args.lines.now.target c.send.new.self.target held [] c.send.result) none all
