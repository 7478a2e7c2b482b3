use Rattle.std.proofs.Common.{sym, ◌∙◌, ap, rules, Some, ◌∷◌, []}
use Rattle.std.proofs.lemmas.Bool.{false≢true}
use Rattle.flac_cli.proofs.Listed.{line-read, predictor-made, predictor-none}
use Rattle.flac_cli.proofs.predictors.line_of.Goals as goal

pub returns-in-Some-new : goal.returns-in-Some-new
returns-in-Some-new c =
    sym (line-read c.args.numbers.now c.in-Some.precision c.in-Some-natural.shift _ c.in-len2-up.len_at_least (search rules) (search rules)
    (predictor-made _ _ _ (search (rules, c.in-Some-new.ensures.only)) ∙ ap (λ p. Some (p ∷ [])) (sym c.in-Some-new.ensures.some)))

pub returns-in-None : goal.returns-in-None
returns-in-None c =
    sym (line-read c.args.numbers.now c.in-Some.precision c.in-Some-natural.shift _ c.in-len2-up.len_at_least (search rules) (search rules)
    (predictor-none _ _ _ (λ h. false≢true (c.in-None.ensures.only.1 h))))
