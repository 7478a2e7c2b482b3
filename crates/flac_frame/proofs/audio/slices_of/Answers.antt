use Rattle.std.proofs.Common.{◌∙◌, arith}
use Rattle.std.proofs.lemmas.List.{length-set}
use Rattle.flac_frame.proofs.Sounds.{slice_more}
use Rattle.flac_frame.proofs.audio.slices_of.Goals as goal

pub loop-i-preserved : goal.loop-i-preserved
loop-i-preserved c =
    let k = c.loop-i.invariant in
    record {
      long = length-set c.loop-i.slices c.loop-i.i c.as_slice.result ∙ k.long;
      same = slice_more (λ v. v.now) (λ v. v.items) c.loop-i.slices c.args.channels.now c.loop-i.i c.as_slice.result c.index-channels-i.result (omega (arith, k.long, c.requires, c.loop-i-test.true)) c.loop-i-test.true c.index-channels-i.is c.as_slice.ensures.value k.same;
    }
