use Rattle.std.proofs.Common.{◌≡◌, ◌+◌, ap, ◌∙◌, ◌++◌, take, [], subst, codes, decimal, append_assoc, append-nil, refl, sym, not, nat_eq, Bool, true, false, ℕ, List}
use Rattle.std.specs.Prelude.{cond, min}
use Rattle.std.proofs.lemmas.Result.{err_from_is_err_and}
use Rattle.flac_cli.specs.Chains.{stream_path}
use Rattle.flac_cli.specs.Lined.{text_at}
use Rattle.flac_cli.specs.inner.Lined.{Adds}
use Rattle.flac_shelf.specs.Shown.{shown}
use Rattle.flac_cli.specs.Reports.{fault_line}
use Rattle.flac_cli.proofs.Lined.{none_taken, adds_then, adds_same, lost, lost_then, adds_lost, sent_adds}
use Rattle.flac_cli.proofs.verify_lines.put_fault.Goals as goal

-- the path, and the number of a stream if it is not the first
named : (first : Bool) (path number : List ℕ) → path ++ cond (not first) number [] ≡ cond first path (path ++ number)
named true path number = append-nil path
named false path number = refl

-- the text and the word, as parts of the line
joined : (path number named text word : List ℕ) → path ++ number ≡ named → (codes "flac: " ++ path) ++ (number ++ (codes ": " ++ (text ++ (word ++ (codes "\n" ++ []))))) ≡ fault_line named (text ++ word)
joined path number named text word is =
    append_assoc (codes "flac: ") path _ ∙ ap (λ l. codes "flac: " ++ l) (sym (append_assoc path number _)) ∙ ap (λ l. codes "flac: " ++ (l ++ (codes ": " ++ (text ++ (word ++ (codes "\n" ++ [])))))) is
    ∙ ap (λ l. codes "flac: " ++ (named ++ (codes ": " ++ l))) (sym (append_assoc text word (codes "\n")))

pub returns-in_err-put_path : goal.returns-in_err-put_path
returns-in_err-put_path g c =
    let p = err_from_is_err_and c.from_residual.result c.from_residual.ensures.1 in
    rw p.1 (adds_lost g.E.Target (lost g.E.Target c.in_err-put_path.ensures))

pub returns-in_err-put_counted_if : goal.returns-in_err-put_counted_if
returns-in_err-put_counted_if g c =
    let p = err_from_is_err_and c.from_residual-in_err-put_counted_if.result c.from_residual-in_err-put_counted_if.ensures.1 in
    rw p.1 (adds_lost g.E.Target (lost_then g.E.Target c.in_ok-put_path.ensures (lost g.E.Target c.in_err-put_counted_if.ensures)))

pub returns-in_err-put : goal.returns-in_err-put
returns-in_err-put g c =
    let p = err_from_is_err_and c.from_residual-in_err-put.result c.from_residual-in_err-put.ensures.1 in
    rw p.1 (adds_lost g.E.Target (lost_then g.E.Target c.in_ok-put_path.ensures (lost_then g.E.Target c.in_ok-put_counted_if.ensures (lost g.E.Target c.in_err-put.ensures))))

pub returns-in_err-put_reason : goal.returns-in_err-put_reason
returns-in_err-put_reason g c =
    let p = err_from_is_err_and c.from_residual-in_err-put_reason.result c.from_residual-in_err-put_reason.ensures.1 in
    let later = lost_then g.E.Target c.in_ok-put.ensures (lost g.E.Target c.in_err-put_reason.ensures) in
    rw p.1 (adds_lost g.E.Target (lost_then g.E.Target c.in_ok-put_path.ensures (lost_then g.E.Target c.in_ok-put_counted_if.ensures later)))

pub returns-in_err-put-2 : goal.returns-in_err-put-2
returns-in_err-put-2 g c =
    let p = err_from_is_err_and c.from_residual-in_err-put-2.result c.from_residual-in_err-put-2.ensures.1 in
    let later = lost_then g.E.Target c.in_ok-put.ensures (lost_then g.E.Target c.in_ok-put_reason.ensures (lost g.E.Target c.in_err-put-2.ensures)) in
    rw p.1 (adds_lost g.E.Target (lost_then g.E.Target c.in_ok-put_path.ensures (lost_then g.E.Target c.in_ok-put_counted_if.ensures later)))

pub returns-in_err-put-3 : goal.returns-in_err-put-3
returns-in_err-put-3 g c =
    let p = err_from_is_err_and c.from_residual-in_err-put-3.result c.from_residual-in_err-put-3.ensures.1 in
    let later = lost_then g.E.Target c.in_ok-put_reason.ensures (lost_then g.E.Target c.in_ok-put-2.ensures (lost g.E.Target c.in_err-put-3.ensures)) in
    rw p.1 (adds_lost g.E.Target (lost_then g.E.Target c.in_ok-put_path.ensures (lost_then g.E.Target c.in_ok-put_counted_if.ensures (lost_then g.E.Target c.in_ok-put.ensures later))))

pub returns : goal.returns
returns g c =
    let path = shown c.args.path.now in
    let text = text_at c.args.at c.args.text.now in
    let first = nat_eq c.args.stream 0 in
    let number = codes ": stream " ++ decimal (min (c.args.stream + 1) 18446744073709551615) in
    let same = ap (λ n. path ++ cond (not first) (codes ": stream " ++ decimal n) []) c.saturating_add.ensures ∙ named first path number in
    let sent = sent_adds g.E.Target _ c.send.result c.send.ensures.names c.send.ensures.kept c.send.ensures.known c.send.ensures.sent c.send.ensures.failed in
    let d = adds_then g.E.Target _ c.in_ok-put-2.ensures (adds_then g.E.Target _ c.in_ok-put-3.ensures sent) in
    let b = adds_then g.E.Target _ c.in_ok-put_reason.ensures d in
    let a = adds_then g.E.Target _ c.in_ok-put.ensures b in
    let n = adds_then g.E.Target _ c.in_ok-put_counted_if.ensures a in
    let all = adds_same g.E.Target _ (adds_then g.E.Target _ c.in_ok-put_path.ensures n) (joined path _ (stream_path path c.args.stream) text c.args.word.now same) in
    let none : take c.args.lines.now.held c.args.lines.now.bytes ≡ [] = ap (λ n. take n c.args.lines.now.bytes) c.requires ∙ none_taken c.args.lines.now.bytes in
    subst (λ held. Adds g.E.Target (fault_line (stream_path path c.args.stream) (text ++ c.args.word.now)) c.args.lines.now.target c.send.new.self.target held [] c.send.result) none all
