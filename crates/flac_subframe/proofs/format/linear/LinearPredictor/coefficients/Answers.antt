use Rattle.flac_subframe.specs.format.Handed.{coefficients_in}
use Rattle.flac_subframe.proofs.lemmas.format.Bounds.{all_fit_15}
use Rattle.flac_subframe.proofs.format.linear.LinearPredictor.coefficients.Goals as goal

pub returns-clause-fit : goal.returns-clause-fit
returns-clause-fit c =
    let p = c.args.self.now in
    rw c.from.ensures (all_fit_15 p.precision (coefficients_in p) p.few_bits p.fit)
