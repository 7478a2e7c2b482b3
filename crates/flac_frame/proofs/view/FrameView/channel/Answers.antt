use Rattle.std.proofs.Common.{◌≡◌, ◌<◌, ◌+◌, ◌*◌, ◌-◌, arith, sym}
use Rattle.flac_frame.proofs.Subframes.{length-chunks, part_ends, chunks-at}
use Rattle.flac_frame.proofs.view.FrameView.channel.Goals as goal

pub overflow_mul-start : goal.overflow_mul-start
overflow_mul-start c =
    let v = c.args.self.now in
    omega (arith, part_ends c.args.i v.channels v.block (omega (arith, length-chunks v.channels v.block v.samples.now)))

pub overflow_add-result : goal.overflow_add-result
overflow_add-result c =
    let v = c.args.self.now in
    omega (arith, part_ends c.args.i v.channels v.block (omega (arith, length-chunks v.channels v.block v.samples.now)))

pub offset_bounds-self-start : goal.offset_bounds-self-start
offset_bounds-self-start c =
    let v = c.args.self.now in
    omega (arith, part_ends c.args.i v.channels v.block (omega (arith, length-chunks v.channels v.block v.samples.now)))

pub slice_bounds-result-end : goal.slice_bounds-result-end
slice_bounds-result-end c =
    let v = c.args.self.now in
    omega (arith, part_ends c.args.i v.channels v.block (omega (arith, length-chunks v.channels v.block v.samples.now)), v.whole)

pub returns-clause-value : goal.returns-clause-value
returns-clause-value c =
    let v = c.args.self.now in
    let within : c.args.i < v.channels = omega (arith, length-chunks v.channels v.block v.samples.now) in
    let n : c.args.i * v.block + v.block - c.args.i * v.block ≡ v.block = omega arith in
    rw n (sym (chunks-at v.channels v.block v.samples.now c.args.i within))
