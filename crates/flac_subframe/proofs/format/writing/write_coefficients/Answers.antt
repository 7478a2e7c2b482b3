use Rattle.std.proofs.Common.{◌≡◌, ◌+◌, ◌<◌, ℤ, drop, length, flat_map, pos, to_z, of_z, w32, w64}
use Rattle.std.proofs.lemmas.Result.{err_from_is_err_and}
use Rattle.flac_bits.specs.Signed.{signed, FitsBits}
use Rattle.flac_bits.proofs.Writing.{towards_more, towards_fail, towards_end}
use Rattle.flac_subframe.specs.format.Numbers.{sample_at}
use Rattle.flac_subframe.proofs.lemmas.format.Bounds.{back_15, back_32}
use Rattle.flac_subframe.proofs.lemmas.format.WriteSteps.{each_step, each_end}
use Rattle.flac_subframe.proofs.format.writing.write_coefficients.Goals as goal

twice : (x r : ℤ) → FitsBits 15 x → r ≡ to_z w32 (of_z w32 x) → to_z w64 (of_z w64 r) ≡ x
twice x r fit e = rw (e, back_32 x fit) (back_15 x fit)

pub loop-coefficient-preserved : goal.loop-coefficient-preserved
loop-coefficient-preserved g c =
    let i = c.loop-coefficient.coefficient-index in
    let xs = c.args.coefficients.now in
    let n = c.args.n in
    let within : i < length xs = c.loop-coefficient-test.true in
    let x = sample_at xs i in
    let same = twice x c.from.result (c.requires.range i (pos 0) within) c.from.ensures in
    towards_more (flat_map (signed n) (drop (i + 1) xs)) (each_step (signed n) xs i within) c.loop-coefficient.invariant (rw same at c.in_ok-put_signed.ensures)

pub returns-in_err-put_signed : goal.returns-in_err-put_signed
returns-in_err-put_signed g c =
    let i = c.loop-coefficient.coefficient-index in
    let xs = c.args.coefficients.now in
    let n = c.args.n in
    let within : i < length xs = c.loop-coefficient-test.true in
    let x = sample_at xs i in
    let same = twice x c.from.result (c.requires.range i (pos 0) within) c.from.ensures in
    let p = err_from_is_err_and c.from_residual.result c.from_residual.ensures.1 in
    rw (p.1, p.2) (towards_fail (signed n x) (flat_map (signed n) (drop (i + 1) xs)) (each_step (signed n) xs i within) c.loop-coefficient.invariant (rw same at c.in_err-put_signed.ensures))

pub returns : goal.returns
returns g c = towards_end (each_end (signed c.args.n) c.args.coefficients.now c.loop-coefficient.coefficient-index c.loop-coefficient-test.false) c.loop-coefficient.invariant
