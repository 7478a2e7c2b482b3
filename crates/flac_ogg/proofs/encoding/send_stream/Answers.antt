use Rattle.std.proofs.Common.{◌≡◌, ◌<◌, ◌^◌, arith}
use Rattle.std.proofs.lemmas.Result.{err_from_is_err_and}
use Rattle.std.proofs.lemmas.Bool.Decides.{nat_tests}
use Rattle.flac_frame.specs.Audio.{samples_each}
use Rattle.flac_native.proofs.Planned.{planned, fit}
use Rattle.flac_ogg.proofs.SentOgg.{sends_items, stream_sent, alone_sent, middle_failed, written_failed, no_blocks, some_blocks}
use Rattle.flac_ogg.proofs.encoding.send_stream.Goals as goal

pub returns-in_err-send_all : goal.returns-in_err-send_all
returns-in_err-send_all g c =
    let s = err_from_is_err_and c.from_residual.result c.from_residual.ensures.1 in
    let p = c.args.planned.now.plan.now in
    let a = c.args.planned.now.audio.now in
    let few : samples_each a.channels < 2 ^ 64 = omega (arith, (planned p c.block_size-size.ensures.good).total, (fit p a c.requires.fits).total) in
    let k = c.requires.counted in
    rw s.1 (λ first texts h. written_failed c.args.headers.now first texts h g.W.Target p a k.frames k.are k.are_least few c.args.target.now c.send_all.new.target _ _
    (sends_items g.W.Target c.as_slice.result.now c.args.headers.now.sent.items c.args.target.now c.send_all.new.target _ c.as_slice.ensures.value c.in_err-send_all.ensures.sends))

pub returns-then-is_empty : goal.returns-then-is_empty
returns-then-is_empty g c =
    let p = c.args.planned.now.plan.now in
    let a = c.args.planned.now.audio.now in
    let q = planned p c.block_size-size.ensures.good in
    let few : samples_each a.channels < 2 ^ 64 = omega (arith, q.total, (fit p a c.requires.fits).total) in
    let k = c.requires.counted in
    let empty : samples_each a.channels ≡ 0 = grind (arith, nat_tests, c.is_empty.ensures, c.if-is_empty.true) in
    λ first texts h. alone_sent c.args.headers.now first texts h g.W.Target p a k.frames k.are k.are_least few c.args.target.now c.send_all.new.target c.send_all-then-is_empty.new.target _ (no_blocks p.block_size (samples_each a.channels) q.least empty)
    (sends_items g.W.Target c.as_slice.result.now c.args.headers.now.sent.items c.args.target.now c.send_all.new.target _ c.as_slice.ensures.value c.in_ok-send_all.ensures.sends)
    (sends_items g.W.Target c.as_slice-then-is_empty.result.now c.args.headers.now.held.last.items c.send_all.new.target c.send_all-then-is_empty.new.target _ c.as_slice-then-is_empty.ensures.value c.send_all-then-is_empty.ensures.sends)

pub returns-in_err-send_all-2 : goal.returns-in_err-send_all-2
returns-in_err-send_all-2 g c =
    let s = err_from_is_err_and c.from_residual-in_err-send_all-2.result c.from_residual-in_err-send_all-2.ensures.1 in
    let p = c.args.planned.now.plan.now in
    let a = c.args.planned.now.audio.now in
    let q = planned p c.block_size-size.ensures.good in
    let few : samples_each a.channels < 2 ^ 64 = omega (arith, q.total, (fit p a c.requires.fits).total) in
    let k = c.requires.counted in
    let some : 0 < samples_each a.channels = grind (arith, nat_tests, c.is_empty.ensures, c.if-is_empty.false) in
    rw s.1 (λ first texts h. middle_failed c.args.headers.now first texts h g.W.Target p a k.frames k.are k.are_least few c.args.target.now c.send_all.new.target c.send_all-2.new.target _ _ (some_blocks p.block_size (samples_each a.channels) q.least some)
    (sends_items g.W.Target c.as_slice.result.now c.args.headers.now.sent.items c.args.target.now c.send_all.new.target _ c.as_slice.ensures.value c.in_ok-send_all.ensures.sends)
    (sends_items g.W.Target c.as_slice-2.result.now c.args.headers.now.held.middle.items c.send_all.new.target c.send_all-2.new.target _ c.as_slice-2.ensures.value c.in_err-send_all-2.ensures.sends))

pub send_frames-requires-clause-some : goal.send_frames-requires-clause-some
send_frames-requires-clause-some g c = grind (arith, nat_tests, c.is_empty.ensures, c.if-is_empty.false)

pub returns : goal.returns
returns g c =
    let p = c.args.planned.now.plan.now in
    let a = c.args.planned.now.audio.now in
    let q = planned p c.block_size-size.ensures.good in
    let some : 0 < samples_each a.channels = grind (arith, nat_tests, c.is_empty.ensures, c.if-is_empty.false) in
    λ first texts h. stream_sent c.args.headers.now first texts h g.W.Target p a c.args.target.now c.send_all.new.target c.send_all-2.new.target c.send_frames.new.target c.send_frames.result (some_blocks p.block_size (samples_each a.channels) q.least some)
    (sends_items g.W.Target c.as_slice.result.now c.args.headers.now.sent.items c.args.target.now c.send_all.new.target _ c.as_slice.ensures.value c.in_ok-send_all.ensures.sends)
    (sends_items g.W.Target c.as_slice-2.result.now c.args.headers.now.held.middle.items c.send_all.new.target c.send_all-2.new.target _ c.as_slice-2.ensures.value c.in_ok-send_all-2.ensures.sends)
    c.send_frames.ensures
