use Rattle.std.proofs.Common.{◌≡◌, ◌<◌, ◌≤◌, ◌*◌, ◌+◌, ◌^◌, ◌∙◌, ℕ, Fits, w64, subst, arith}
use Rattle.std.proofs.Math.Nat.{mul-suc}
use Rattle.std.proofs.lemmas.Result.{err_from_is_err_and}
use Rattle.flac_frame.specs.Audio.{samples_each}
use Rattle.flac_frame.specs.Spelling.{frame_spelling}
use Rattle.flac_native.specs.Given.{blocks_in}
use Rattle.flac_native.proofs.Planned.{planned, fit, block_small}
use Rattle.flac_native.proofs.Gathered.{still_some, all_gathered}
use Rattle.flac_native.proofs.WrittenFrames.{frame_added, frame_failed, frames_none, frames_more, frames_fail, frames_all}
use Rattle.flac_native.proofs.chosen_frames.write_frames.Goals as goal

-- samples are left
more_left : (m total start len : ℕ) → start ≡ m → start < len → len ≡ total → m < total
more_left m total start len at lt is = omega arith

at_start : (b : ℕ) → 0 ≡ b * 0
at_start b = omega arith

zero_least : (n : ℕ) → 0 ≤ n
zero_least n = omega arith

-- where the next block starts
start_next : (start size b n : ℕ) → start ≡ b * n → size ≡ b → start + size ≡ b * (n + 1)
start_next start size b n at is = omega (arith, mul-suc b n)

one_on : (n m : ℕ) → n < m → n + 1 ≤ m
one_on n m h = omega arith

few_fit : (n m : ℕ) → n < m → m ≤ 2 ^ 31 → Fits w64 (n + 1)
few_fit n m h k = omega arith

pub overflow_add-number : goal.overflow_add-number
overflow_add-number g c =
    let p = c.args.plan.now in
    let total = samples_each c.args.audio.now.channels in
    let q = planned p c.block_size-size.ensures.good in
    let f = fit p c.args.audio.now c.requires.fits in
    let more : p.block_size * c.loop-start.number < total = more_left _ _ _ _ c.loop-start.invariant.start c.loop-start-test.true c.len-total.ensures in
    let blocks : blocks_in p.block_size total ≤ 2 ^ 31 = subst (λ t. blocks_in p.block_size t ≤ 2 ^ 31) f.total q.blocks in
    few_fit c.loop-start.number _ (still_some p.block_size total c.loop-start.number q.least more) blocks

pub loop-start-init : goal.loop-start-init
loop-start-init g c = record {
  written = frames_none c.args.plan.now c.args.audio.now c.args.writer.now c.requires.whole;
  buffers = c.requires.buffers;
  start = at_start _;
  few = zero_least _;
}

pub write_chosen-requires-clause-ready : goal.write_chosen-requires-clause-ready
write_chosen-requires-clause-ready g c =
    let p = c.args.plan.now in
    let total = samples_each c.args.audio.now.channels in
    let q = planned p c.block_size-size.ensures.good in
    let more : p.block_size * c.loop-start.number < total = more_left _ _ _ _ c.loop-start.invariant.start c.loop-start-test.true c.len-total.ensures in
    record { fits = c.requires.fits; few = still_some p.block_size total c.loop-start.number q.least more; chosen = c.requires.choices; buffers = c.loop-start.invariant.buffers }

pub write_chosen-requires-clause-whole : goal.write_chosen-requires-clause-whole
write_chosen-requires-clause-whole g c = c.loop-start.invariant.written.wrote.whole

pub returns-in_err-write_chosen : goal.returns-in_err-write_chosen
returns-in_err-write_chosen g c =
    let s = err_from_is_err_and c.from_residual.result c.from_residual.ensures.1 in
    let p = c.args.plan.now in
    let a = c.args.audio.now in
    let n = c.loop-start.number in
    let total = samples_each a.channels in
    let q = planned p c.block_size-size.ensures.good in
    let more : p.block_size * n < total = more_left _ _ _ _ c.loop-start.invariant.start c.loop-start-test.true c.len-total.ensures in
    let few : n < blocks_in p.block_size total = still_some p.block_size total n q.least more in
    let have = c.requires.frames in
    let w = c.in_err-write_chosen.ensures.wrote in
    rw (s.1, s.2) (frames_fail p a n c.args.writer.now c.loop-start.writer c.write_chosen.new.writer (frame_spelling a.bits w.0) _ have.frames (omega (arith, few, have.are.many)) have.are have.are_least c.loop-start.invariant.written
    w.1 (frame_failed a.bits w.0 c.loop-start.writer c.write_chosen.new.writer _ w.2))

pub overflow_add-start : goal.overflow_add-start
overflow_add-start g c =
    let p = c.args.plan.now in
    let q = planned p c.block_size-size.ensures.good in
    let f = fit p c.args.audio.now c.requires.fits in
    omega (arith, c.loop-start-test.true, c.len-total.ensures, f.total, q.total, c.block_size-size.ensures.value, block_small p q)

pub loop-start-preserved : goal.loop-start-preserved
loop-start-preserved g c =
    let p = c.args.plan.now in
    let a = c.args.audio.now in
    let b = p.block_size in
    let n = c.loop-start.number in
    let total = samples_each a.channels in
    let inv = c.loop-start.invariant in
    let q = planned p c.block_size-size.ensures.good in
    let more : b * n < total = more_left _ _ _ _ inv.start c.loop-start-test.true c.len-total.ensures in
    let few : n < blocks_in b total = still_some b total n q.least more in
    let w = c.in_ok-write_chosen.ensures.wrote in
    record {
      written = frames_more p a n c.args.writer.now c.loop-start.writer c.write_chosen.new.writer (frame_spelling a.bits w.0) inv.written w.1 (frame_added a.bits w.0 c.loop-start.writer c.write_chosen.new.writer inv.written.wrote.whole w.2);
      buffers = c.write_chosen.ensures.kept ∙ inv.buffers;
      start = start_next _ _ b n inv.start c.block_size-size.ensures.value;
      few = one_on _ _ few;
    }

pub loop-start-smaller : goal.loop-start-smaller
loop-start-smaller g c =
    let q = planned c.args.plan.now c.block_size-size.ensures.good in
    omega (arith, c.loop-start-test.true, c.block_size-size.ensures.value, q.least)

pub returns : goal.returns
returns g c =
    let p = c.args.plan.now in
    let a = c.args.audio.now in
    let inv = c.loop-start.invariant in
    let q = planned p c.block_size-size.ensures.good in
    frames_all p a c.loop-start.number c.args.writer.now c.loop-start.writer inv.written
    (all_gathered p.block_size (samples_each a.channels) c.loop-start.number q.least inv.few (omega (arith, inv.start, c.loop-start-test.false, c.len-total.ensures)))
