use Rattle.std.proofs.Common.{OnOk, subst}
use Rattle.flac_copy.specs.Written.{WritesAs}
use Rattle.flac_copy.proofs.opened.Copying.write_alike.Goals as goal

pub returns-clause-written : goal.returns-clause-written
returns-clause-written g c =
    subst (λ n. OnOk c.send_as.result (WritesAs g.S.Source g.W.Target n c.args.self c.args.blocks.now c.args.target.now c.send_as.new.target)) c.serial-same.ensures c.send_as.ensures.written
