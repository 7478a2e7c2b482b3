use Rattle.std.proofs.Common.{map, take, length, arith}
use Rattle.std.proofs.lemmas.List.{length-map}
use Rattle.flac_frame.proofs.Sounds.{samples_wrong, samples_many, samples_right}
use Rattle.flac_frame.proofs.audio.channels_fault.Goals as goal

pub returns-in-Some : goal.returns-in-Some
returns-in-Some c =
    let xs = c.args.channels.now in
    let many = length-map xs (λ v. v.items) in
    samples_wrong c.args.bits (map (λ v. v.items) xs) (map (λ v. v.now) (take (length xs) c.slices_of-slices.result)) (omega (arith, many, c.requires.some)) (omega (arith, many, c.requires.few)) c.slices_of-slices.ensures c.in-Some.fault c.in-Some.ensures

pub returns-then-len : goal.returns-then-len
returns-then-len c =
    let xs = c.args.channels.now in
    let many = length-map xs (λ v. v.items) in
    samples_many c.args.bits (map (λ v. v.items) xs) (map (λ v. v.now) (take (length xs) c.slices_of-slices.result)) (omega (arith, many, c.requires.some)) (omega (arith, many, c.requires.few)) c.slices_of-slices.ensures
    c.samples_each-len.result c.samples_each-len.ensures c.in_default.ensures c.if-len.true

pub returns : goal.returns
returns c =
    let xs = c.args.channels.now in
    let many = length-map xs (λ v. v.items) in
    samples_right c.args.bits (map (λ v. v.items) xs) (map (λ v. v.now) (take (length xs) c.slices_of-slices.result)) (omega (arith, many, c.requires.some)) (omega (arith, many, c.requires.few)) c.slices_of-slices.ensures
    c.samples_each-len.result c.samples_each-len.ensures c.in_default.ensures c.if-len.false
