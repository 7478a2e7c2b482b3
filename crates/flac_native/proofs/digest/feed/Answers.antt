use Rattle.std.proofs.Common.{arith}
use Rattle.flac_frame.proofs.Subframes.{length-chunks}
use Rattle.flac_native.proofs.digest.feed.Goals as goal

pub feed_rows-requires-clause-few : goal.feed_rows-requires-clause-few
feed_rows-requires-clause-few c =
    let v = c.args.view.now in
    omega (arith, v.few, length-chunks v.channels v.block v.samples.now, c.channels.ensures)
