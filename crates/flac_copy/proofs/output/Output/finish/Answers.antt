use Rattle.std.proofs.Common.{sym, subst, OnOk}
use Rattle.std.proofs.lemmas.Result.{on_ok_weaker}
use Rattle.flac_copy.specs.Outputs.{Finishes}
use Rattle.flac_copy.proofs.OutputLemmas.{finish_in_ogg}
use Rattle.flac_copy.proofs.output.Output.finish.Goals as goal

pub returns-in-Ogg : goal.returns-in-Ogg
returns-in-Ogg g c =
    subst (λ o. OnOk c.finish.result (Finishes g.W.Target o c.args.target.now c.finish.new.target)) (sym c.in-Ogg.is)
    (on_ok_weaker c.finish.result (finish_in_ogg g.W.Target c.args.target.now c.finish.new.target c.in-Ogg.out) c.finish.ensures.sends.sent)
