use Rattle.std.proofs.Common.{sym, subst, OnOk}
use Rattle.flac_copy.specs.Outputs.{Puts}
use Rattle.flac_copy.specs.declared.output.Output.TheVariants.{Ogg}
use Rattle.flac_copy.proofs.OutputLemmas.{on_ok_both, put_native, pushed}
use Rattle.flac_copy.proofs.output.Output.put.Goals as goal

pub returns-in-Native : goal.returns-in-Native
returns-in-Native g c =
    let sends = c.send_all.ensures.sends in
    subst (λ o. OnOk c.send_all.result (Puts g.W.Target o o c.args.bytes.now c.args.count c.args.target.now c.send_all.new.target)) (sym c.in-Native.is)
    (on_ok_both c.send_all.result (put_native g.W.Target c.args.target.now c.send_all.new.target c.args.bytes.now c.args.count) sends.known sends.sent)

pub returns-in-Ogg : goal.returns-in-Ogg
returns-in-Ogg g c =
    subst (λ o. OnOk c.push.result (Puts g.W.Target o (Ogg c.push.new.self) c.args.bytes.now c.args.count c.args.target.now c.push.new.target)) (sym c.in-Ogg.is)
    (pushed g.W.Target c.args.target.now c.push.new.target c.in-Ogg.out c.push.new.self c.args.bytes.now c.args.count c.push.result c.push.ensures.next c.push.ensures.sends)
