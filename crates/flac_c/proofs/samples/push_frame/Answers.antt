use Rattle.std.proofs.Common.{◌≡◌, ◌+◌, ◌-◌, ◌*◌, ◌++◌, ◌∙◌, arith, length, take, drop, ap, ℤ, List}
use Rattle.std.proofs.lemmas.List.{take_all, length-take, length-drop}
use Rattle.flac_frame.specs.Viewed.{frame_of}
use Rattle.flac_frame.specs.Interleaved.{interleaved}
use Rattle.flac_frame.proofs.Interleaved.{grown, places_after}
use Rattle.flac_c.proofs.HandedOver.{few_samples, filled}
use Rattle.flac_c.proofs.samples.push_frame.Goals as goal

pub overflow_mul-count : goal.overflow_mul-count
overflow_mul-count c =
    let v = c.args.frame.now in
    let few = few_samples c.channels.result c.len.result v.channels v.block v.samples.now c.channels.ensures c.len.ensures v.few v.short in
    omega (arith, few)

pub overflow_add-front : goal.overflow_add-front
overflow_add-front c =
    let v = c.args.frame.now in
    let few = few_samples c.channels.result c.len.result v.channels v.block v.samples.now c.channels.ensures c.len.ensures v.few v.short in
    omega (arith, few, c.len-front.ensures, c.args.list.now.ok.0, c.args.list.now.ok.1, c.args.list.now.small)

pub returns : goal.returns
returns c =
    let front = c.len-front.result in
    let ch = c.channels.result in
    let size = c.len.result in
    let old : List ℤ = c.args.list.now.items in
    let places : List ℤ = c.deref_mut.result.now in
    let written : List ℤ = c.interleave-all.new.out in
    let many : front ≡ length old = omega (arith, c.len-front.ensures, c.args.list.now.ok.0) in
    let kept : take (front + ch * size) old ≡ old = take_all (front + ch * size) old (omega (arith, many)) in
    let lent = length-take (length places - front) (drop front places) in
    let left = length-drop front places in
    let room : length (take (length places - front) (drop front places)) ≡ ch * size = omega (arith, lent, left, c.deref_mut.ensures.len, c.in_ok-resize.ensures.len) in
    let all : written ≡ interleaved (frame_of c.args.frame.now) =
    filled (frame_of c.args.frame.now) _ ch size c.channels.ensures c.len.ensures written c.interleave-all.result room c.interleave-all.auto.out c.interleave-all.ensures.count c.interleave-all.ensures.samples in
    let sized = grown old c.resize.new.self.items (take (front + ch * size) old) _ c.resize.result c.in_ok-resize.field-0 c.in_ok-resize.was c.resize.ensures.items kept in
    places_after c.resize.new.self.len front old _ places c.resize.new.self.items written many sized c.deref_mut.ensures.value (omega (arith, c.in_ok-resize.ensures.len, room, c.interleave-all.auto.out)) (omega (arith, c.interleave-all.auto.out, lent, left))
    ∙ ap (λ l. old ++ l) all
