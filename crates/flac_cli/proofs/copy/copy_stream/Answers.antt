use Rattle.std.proofs.Common.{OnOk, subst}
use Rattle.std.proofs.lemmas.Result.{on_ok_weaker}
use Rattle.flac_header.specs.declared.subset.Profile.TheVariants.{Lax}
use Rattle.flac_copy.specs.Written.{CopiesAs}
use Rattle.flac_copy.proofs.WrittenLemmas.{copies_as}
use Rattle.flac_cli.proofs.copy.copy_stream.Goals as goal

pub returns-in-Ok : goal.returns-in-Ok
returns-in-Ok g c =
    let serial = c.serial_in.result in
    let R = g.R.Source in
    let W = g.W.Target in
    subst (λ n. OnOk c.write-outcome.result (CopiesAs R W n Lax c.args.source c.args.target.now c.write-outcome.new.target)) c.serial_in.ensures
    (on_ok_weaker c.write-outcome.result
    (copies_as R W serial Lax c.args.source c.in-Ok.blocks.items c.as_slice.result.now c.in-Ok.copying c.args.target.now c.write-outcome.new.target c.as_slice.ensures.value c.in-Ok.ensures)
    c.write-outcome.ensures.written)
