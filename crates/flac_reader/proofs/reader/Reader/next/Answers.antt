use Rattle.std.proofs.Common.{refl}
use Rattle.std.proofs.lemmas.Result.{err_from_is_err_and}
use Rattle.flac_reader.specs.Coming.{lent}
use Rattle.flac_reader.proofs.Gives.{gives_refused}
use Rattle.flac_reader.proofs.reader.Reader.next.Goals as goal

pub returns-in_err-step : goal.returns-in_err-step
returns-in_err-step g c =
    let p = err_from_is_err_and c.from_residual.result c.from_residual.ensures.1 in
    ((refl, λ _. tt, rw (p.1, p.2) (gives_refused c.args.self.now c.step.new.self _ lent _ c.in_err-step.ensures)), record { after = tt })
