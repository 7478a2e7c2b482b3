use Rattle.std.proofs.Common.{arith}
use Rattle.flac_frame.proofs.Subframes.{length-chunks}
use Rattle.flac_native.proofs.sample_bytes.put_rows.Goals as goal

pub put_rows_in-requires-clause-few : goal.put_rows_in-requires-clause-few
put_rows_in-requires-clause-few c =
    let v = c.args.view.now in
    omega (arith, v.few, length-chunks v.channels v.block v.samples.now, c.channels.ensures)
