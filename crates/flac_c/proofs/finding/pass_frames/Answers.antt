use Rattle.std.proofs.Common.{◌≡◌, ◌<◌, ◌≤◌, inl, inr, length, arith}
use Rattle.flac_c.proofs.Passing.{none_passed, one_passed, none_fails, passes, goes_further}
use Rattle.flac_c.proofs.finding.pass_frames.Goals as goal

pub loop-done-init : goal.loop-done-init
loop-done-init c = none_passed c.args.profile c.args.bytes.now c.args.sample c.args.cursor.now

pub loop-done-preserved : goal.loop-done-preserved
loop-done-preserved c =
    let le : c.in-Ok.next.sample ≤ c.args.sample = omega arith in
    one_passed c.args.profile c.args.bytes.now c.args.sample c.loop-done.done c.args.cursor.now c.loop-done.cursor c.loop-done.invariant (λ e. absurd (omega (arith, e))) c.in-Ok.next c.in-Ok.ensures.found le c.in-Ok.ensures.only

pub returns-then-cursor-bytes-clause-passed : goal.returns-then-cursor-bytes-clause-passed
returns-then-cursor-bytes-clause-passed c =
    let few : c.loop-done.done ≤ c.args.count = omega arith in
    let end : c.loop-done.cursor.offset ≡ length c.args.bytes.now = omega arith in
    passes c.args.profile c.args.bytes.now c.args.count c.args.sample c.loop-done.done c.args.cursor.now c.loop-done.cursor c.loop-done.invariant few (inr (inl end))

pub returns-then-cursor-bytes-clause-further : goal.returns-then-cursor-bytes-clause-further
returns-then-cursor-bytes-clause-further c =
    let few : c.loop-done.done ≤ c.args.count = omega arith in
    let end : c.loop-done.cursor.offset ≡ length c.args.bytes.now = omega arith in
    goes_further c.args.profile c.args.bytes.now c.args.count c.args.sample c.loop-done.done c.args.cursor.now c.loop-done.cursor c.loop-done.invariant few (inr (inl end))

pub returns-then-next-sample-clause-passed : goal.returns-then-next-sample-clause-passed
returns-then-next-sample-clause-passed c =
    let few : c.loop-done.done ≤ c.args.count = omega arith in
    let after : c.args.sample < c.in-Ok.next.sample = omega arith in
    passes c.args.profile c.args.bytes.now c.args.count c.args.sample c.loop-done.done c.args.cursor.now c.loop-done.cursor c.loop-done.invariant few (inr (inr (c.in-Ok.next, c.in-Ok.ensures.found, after)))

pub returns-then-next-sample-clause-further : goal.returns-then-next-sample-clause-further
returns-then-next-sample-clause-further c =
    let few : c.loop-done.done ≤ c.args.count = omega arith in
    let after : c.args.sample < c.in-Ok.next.sample = omega arith in
    goes_further c.args.profile c.args.bytes.now c.args.count c.args.sample c.loop-done.done c.args.cursor.now c.loop-done.cursor c.loop-done.invariant few (inr (inr (c.in-Ok.next, c.in-Ok.ensures.found, after)))

pub returns-in-Err-clause-refused : goal.returns-in-Err-clause-refused
returns-in-Err-clause-refused c = (c.loop-done.done, c.loop-done.invariant.frames, c.in-Err.ensures.fault)

pub returns-in-Err-clause-memory : goal.returns-in-Err-clause-memory
returns-in-Err-clause-memory c = none_fails c.args.profile c.args.bytes.now c.args.sample c.loop-done.done c.args.cursor.now c.loop-done.cursor c.loop-done.invariant (λ e. absurd (omega (arith, e))) c.in-Err.why c.in-Err.ensures.only

pub returns-clause-passed : goal.returns-clause-passed
returns-clause-passed c =
    let all : c.loop-done.done ≡ c.args.count = omega arith in
    let few : c.loop-done.done ≤ c.args.count = omega arith in
    passes c.args.profile c.args.bytes.now c.args.count c.args.sample c.loop-done.done c.args.cursor.now c.loop-done.cursor c.loop-done.invariant few (inl all)

pub returns-clause-further : goal.returns-clause-further
returns-clause-further c =
    let all : c.loop-done.done ≡ c.args.count = omega arith in
    let few : c.loop-done.done ≤ c.args.count = omega arith in
    goes_further c.args.profile c.args.bytes.now c.args.count c.args.sample c.loop-done.done c.args.cursor.now c.loop-done.cursor c.loop-done.invariant few (inl all)
