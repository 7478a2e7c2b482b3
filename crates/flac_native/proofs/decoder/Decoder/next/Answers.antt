use Rattle.std.proofs.Common.{refl}
use Rattle.std.proofs.lemmas.Result.{err_from_is_err_and}
use Rattle.flac_native.specs.Giving.{stage_of, shown_of}
use Rattle.flac_native.proofs.Giving.{moves_refused}
use Rattle.flac_native.proofs.decoder.Decoder.next.Goals as goal

pub returns-in_err-step : goal.returns-in_err-step
returns-in_err-step g c =
    let p = err_from_is_err_and c.from_residual.result c.from_residual.ensures.1 in
    ((refl, λ _. tt, rw (p.1, p.2) (moves_refused g.C.Container (stage_of c.args.self.now) (stage_of c.step.new.self) _ shown_of _ c.in_err-step.ensures)), record { after = tt })
