use Rattle.std.proofs.Common.{◌+◌, ◌<◌, length, drop, get_or, flat_map, pos, ap, ◌∙◌}
use Rattle.std.proofs.lemmas.Result.{err_from_is_err_and}
use Rattle.flac_bits.specs.Rice.{folded, value_bits}
use Rattle.flac_bits.proofs.Runs.{value_is, value_step, values_end}
use Rattle.flac_bits.proofs.Signs.{residual_kept}
use Rattle.flac_bits.proofs.Writing.{towards_start, towards_more, towards_fail, towards_end}
use Rattle.flac_bits.proofs.writer.BitWriter.put_rice_partition.Goals as goal

pub loop-i-init : goal.loop-i-init
loop-i-init g c =
    let put = c.put_ready-i.ensures.put in
    let bits = value_bits c.args.k in
    let xs = c.args.values.now in
    record { within = c.put_ready-i.ensures.within.1; towards = towards_more (flat_map bits (drop c.put_ready-i.result xs)) put.1 (towards_start (flat_map bits xs) c.args.self.now) put.2 }

pub loop-i-preserved : goal.loop-i-preserved
loop-i-preserved g c =
    let i = c.loop-i.i in
    let k = c.args.k in
    let xs = c.args.values.now in
    let within : i < length xs = c.loop-i-test.true in
    let x = get_or xs i (pos 0) in
    let r = c.folded.ensures ∙ ap folded (residual_kept x (c.requires.range i (pos 0) within)) in
    let one = towards_more (flat_map (value_bits k) (drop (i + 1) xs)) (value_step k xs i within) c.loop-i.invariant.towards (rw (value_is k c.folded.result x r) at c.in_ok-put_rice.ensures) in
    let next = c.put_ready-i-in-loop-i in
    let put = next.ensures.put in
    record { within = next.ensures.within.1; towards = towards_more (flat_map (value_bits k) (drop next.result xs)) put.1 one put.2 }

pub returns-in_err-put_rice : goal.returns-in_err-put_rice
returns-in_err-put_rice g c =
    let i = c.loop-i.i in
    let k = c.args.k in
    let xs = c.args.values.now in
    let within : i < length xs = c.loop-i-test.true in
    let x = get_or xs i (pos 0) in
    let r = c.folded.ensures ∙ ap folded (residual_kept x (c.requires.range i (pos 0) within)) in
    let p = err_from_is_err_and c.from_residual.result c.from_residual.ensures.1 in
    rw (p.1, p.2) (towards_fail (value_bits k x) (flat_map (value_bits k) (drop (i + 1) xs)) (value_step k xs i within) c.loop-i.invariant.towards (rw (value_is k c.folded.result x r) at c.in_err-put_rice.ensures))

pub returns : goal.returns
returns g c = towards_end (values_end c.args.k c.args.values.now c.loop-i.i c.loop-i-test.false) c.loop-i.invariant.towards
