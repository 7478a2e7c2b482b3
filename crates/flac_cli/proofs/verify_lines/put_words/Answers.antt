use Rattle.std.proofs.Common.{◌≡◌, ◌∙◌, ◌++◌, ℕ, List, ap, codes}
use Rattle.std.proofs.lemmas.Result.{err_from_is_err_and}
use Rattle.flac_cli.specs.Verified.{word_if}
use Rattle.flac_cli.proofs.Lined.{adds_then, adds_same, lost, lost_then, adds_lost}
use Rattle.flac_cli.proofs.verify_lines.put_words.Goals as goal

five_words : (a b c d e x y z w v : List ℕ) → a ≡ x → b ≡ y → c ≡ z → d ≡ w → e ≡ v → a ++ (b ++ (c ++ (d ++ e))) ≡ x ++ (y ++ (z ++ (w ++ v)))
five_words a b c d e x y z w v p q r s t =
    ap (λ l. l ++ (b ++ (c ++ (d ++ e)))) p ∙ ap (λ l. x ++ (l ++ (c ++ (d ++ e)))) q ∙ ap (λ l. x ++ (y ++ (l ++ (d ++ e)))) r ∙ ap (λ l. x ++ (y ++ (z ++ (l ++ e)))) s ∙ ap (λ l. x ++ (y ++ (z ++ (w ++ l)))) t

pub returns-in_err-put : goal.returns-in_err-put
returns-in_err-put g c =
    let p = err_from_is_err_and c.from_residual.result c.from_residual.ensures.1 in
    rw p.1 (adds_lost g.O.Target (lost g.O.Target c.in_err-put.ensures))

pub returns-in_err-put-2 : goal.returns-in_err-put-2
returns-in_err-put-2 g c =
    let p = err_from_is_err_and c.from_residual-in_err-put-2.result c.from_residual-in_err-put-2.ensures.1 in
    rw p.1 (adds_lost g.O.Target (lost_then g.O.Target c.in_ok-put.ensures (lost g.O.Target c.in_err-put-2.ensures)))

pub returns-in_err-put-3 : goal.returns-in_err-put-3
returns-in_err-put-3 g c =
    let p = err_from_is_err_and c.from_residual-in_err-put-3.result c.from_residual-in_err-put-3.ensures.1 in
    rw p.1 (adds_lost g.O.Target (lost_then g.O.Target c.in_ok-put.ensures (lost_then g.O.Target c.in_ok-put-2.ensures (lost g.O.Target c.in_err-put-3.ensures))))

pub returns-in_err-put-4 : goal.returns-in_err-put-4
returns-in_err-put-4 g c =
    let p = err_from_is_err_and c.from_residual-in_err-put-4.result c.from_residual-in_err-put-4.ensures.1 in
    let later = lost_then g.O.Target c.in_ok-put-3.ensures (lost g.O.Target c.in_err-put-4.ensures) in
    rw p.1 (adds_lost g.O.Target (lost_then g.O.Target c.in_ok-put.ensures (lost_then g.O.Target c.in_ok-put-2.ensures later)))

pub returns : goal.returns
returns g c =
    adds_same g.O.Target _ (adds_then g.O.Target _ c.in_ok-put.ensures (adds_then g.O.Target _ c.in_ok-put-2.ensures (adds_then g.O.Target _ c.in_ok-put-3.ensures (adds_then g.O.Target _ c.in_ok-put-4.ensures c.put-5.ensures))))
    (five_words _ _ _ _ _ _ _ _ _ _ c.word_if.ensures c.word_if-2.ensures c.word_if-3.ensures
    (c.word_if-4.ensures ∙ ap (λ b. word_if b (codes " id3")) c.is_tagged.ensures) c.word.ensures)
