use Rattle.flac_subframe.proofs.search.cost.width.Goals as goal

pub returns-clause-least : goal.returns-clause-least
returns-clause-least c = λ n.
    let all = c.bits_of.ensures n in
    let wide = c.width_of_bits.ensures.least n in
    (λ fit. wide.0 (all.0 fit), λ few. all.1 (wide.1 few))
