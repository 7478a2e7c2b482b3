use Rattle.std.proofs.lemmas.Result.{on_ok_weaker}
use Rattle.flac_copy.proofs.WrittenLemmas.{copies_to_ogg}
use Rattle.flac_copy.proofs.to_ogg.copy_to_ogg.Goals as goal

pub returns-in-Ok : goal.returns-in-Ok
returns-in-Ok g c =
    on_ok_weaker c.write_ogg-outcome.result (copies_to_ogg _ g.W.Target c.args.serial c.args.profile _ c.in-Ok.blocks.items c.as_slice.result.now c.in-Ok.copying c.args.target.now c.write_ogg-outcome.new.target c.as_slice.ensures.value c.in-Ok.ensures) c.write_ogg-outcome.ensures.written
