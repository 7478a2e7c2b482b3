use Rattle.std.proofs.Common.{◌≡◌, length, arith, ap, sym, ◌∙◌}
use Rattle.std.proofs.lemmas.List.{length-map}
use Rattle.flac_native.proofs.Planned.{planned, fit, block_small, keeps_rules}
use Rattle.flac_native.proofs.chosen_frames.info_with.Goals as goal

pub overflow_cast-size : goal.overflow_cast-size
overflow_cast-size c =
    let p = c.args.plan.now in
    omega (arith, block_small p (planned p c.block_size-size.ensures.good), c.block_size-size.ensures.value)

pub overflow_cast-channels : goal.overflow_cast-channels
overflow_cast-channels c =
    let q = planned c.args.plan.now c.block_size-size.ensures.good in
    let f = fit c.args.plan.now c.args.audio.now c.requires.fits in
    let many : length c.channels.result.now ≡ length c.args.audio.now.channels = sym (length-map c.channels.result.now (λ v. v.items)) ∙ ap length c.channels.ensures.items in
    omega (arith, many, f.channels, q.few)

pub overflow_cast-bits : goal.overflow_cast-bits
overflow_cast-bits c =
    let q = planned c.args.plan.now c.block_size-size.ensures.good in
    let f = fit c.args.plan.now c.args.audio.now c.requires.fits in
    let k = keeps_rules c.args.plan.now c.args.audio.now c.args.least c.args.greatest q f (omega (arith, c.requires.least, c.requires.greatest)) c.requires.greatest in
    omega (arith, c.bits-bits.ensures, k.depth)

pub unreachable-requires : goal.unreachable-requires
unreachable-requires c =
    let q = planned c.args.plan.now c.block_size-size.ensures.good in
    let f = fit c.args.plan.now c.args.audio.now c.requires.fits in
    let k = keeps_rules c.args.plan.now c.args.audio.now c.args.least c.args.greatest q f (omega (arith, c.requires.least, c.requires.greatest)) c.requires.greatest in
    let many : length c.channels.result.now ≡ length c.args.audio.now.channels = sym (length-map c.channels.result.now (λ v. v.items)) ∙ ap length c.channels.ensures.items in
    let size = c.block_size-size.ensures.value in
    let bits = c.bits-bits.ensures in
    let total = c.len-total.ensures in
    let rate = c.rate.ensures in
    c.in-Err.ensures.refused.1 (record {
      least_block = omega (arith, size, k.least_block);
      blocks = omega (arith, c.requires.least);
      greatest_block = omega (arith, size, k.greatest_block);
      least_frame = k.least_frame;
      greatest_frame = k.greatest_frame;
      least_rate = omega (arith, rate, k.least_rate);
      rate = omega (arith, rate, k.rate);
      least_channels = omega (arith, many, k.least_channels);
      channels = omega (arith, many, k.channels);
      least_depth = omega (arith, bits, k.least_depth);
      depth = omega (arith, bits, k.depth);
      total = omega (arith, total, k.total);
    })
