use Rattle.std.proofs.Common.{◌<◌, ◌≡◌, rules, arith, subst, take, length, w32, SFits}
use Rattle.std.proofs.lemmas.Int.{to_z-of_z}
use Rattle.std.proofs.lemmas.List.{take_more_set, take_all}
use Rattle.flac_raw.specs.Reading.{IsChannel}
use Rattle.flac_raw.proofs.Rows.{no_samples, sample_pushed}
use Rattle.flac_raw.proofs.raw.put_each.Goals as goal

pub loop-i-init : goal.loop-i-init
loop-i-init c = no_samples c.args.piece.now c.args.stride c.args.start c.args.width

pub loop-i-preserved : goal.loop-i-preserved
loop-i-preserved c =
    let fits : SFits w32 c.sample.result = search rules in
    let i = c.loop-i.i in
    let places = c.loop-i.places in
    let lt : i < length places = omega (arith, c.loop-i-test.true, c.loop-i.auto.places) in
    sample_pushed c.args.piece.now i (length c.args.places.now) c.args.stride c.args.start c.args.width _ (take i places) _ c.sample.result _ c.loop-i.invariant
    (omega (arith, c.loop-i-test.true)) c.requires.within c.requires.whole (omega arith) c.sample.ensures.number c.sample.ensures.bytes c.sample.ensures.fits (to_z-of_z w32 c.sample.result fits) (take_more_set places i _ lt)

pub returns : goal.returns
returns c =
    let all : c.loop-i.i ≡ length c.args.places.now = omega (arith, c.loop-i-test.false, c.loop-i.auto.i-end) in
    let whole : take c.loop-i.i c.loop-i.places ≡ c.loop-i.places = take_all c.loop-i.i c.loop-i.places (omega (arith, c.loop-i.auto.places, c.loop-i-test.false)) in
    subst (λ l. IsChannel c.args.piece.now (length c.args.places.now) c.args.stride c.args.start c.args.width l) whole
    (subst (λ n. IsChannel c.args.piece.now n c.args.stride c.args.start c.args.width (take c.loop-i.i c.loop-i.places)) all c.loop-i.invariant)
