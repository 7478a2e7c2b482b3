use Rattle.std.proofs.Common.{◌≡◌, ◌≤◌, ◌+◌, ◌*◌, ◌/◌, ◌-◌, ◌∙◌, add-one, ap, sym, subst, rules, length, take, arith}
use borrow.Rule.Slice.PartMut.{put_mid}
use Rattle.std.proofs.Math.Nat.{div-mul-le_self}
use Rattle.byteorder.specs.Endian.{little_number}
use Rattle.flac_wave.specs.Shift.{lowered}
use Rattle.flac_cli.proofs.WaveRaws.{rest_all, low_fits, low_put, sample_within, all_within}
use Rattle.flac_cli.proofs.wave_raw.lower_into.Goals as goal

pub write_uint-requires-clause-fits : goal.write_uint-requires-clause-fits
write_uint-requires-clause-fits c = low_fits c.args.form c.read_uint-number.result c.lowered_number-low.result c.lowered_number-low.ensures

pub loop-i-preserved : goal.loop-i-preserved
loop-i-preserved c =
    let f = c.args.form in
    let i = c.loop-i.i in
    let r = c.requires in
    let form = r.form in
    let thin = form.within in
    let inv = c.loop-i.invariant in
    let samples = c.args.samples.now in
    let count = length samples / f.wide in
    let all = all_within f.wide f.width (length samples) thin in
    let here : i * f.width + f.width ≤ length c.loop-i.out = sample_within f.width i count (length c.loop-i.out) c.loop-i-test.true (omega (arith, all, r.room, inv.long)) in
    record {
      done = ap (λ n. take (n * f.width) (put_mid (i * f.width) (length c.loop-i.out - i * f.width) c.loop-i.out c.write_uint.new.buf)) (add-one i)
          ∙ (low_put f.wide f.width f.shift i samples c.loop-i.out c.write_uint.new.buf c.lowered_number-low.result c.read_uint-number.result here inv.done c.lowered_number-low.ensures (c.read_uint-number.ensures ∙ ap (little_number f.wide) (rest_all (i * f.wide) samples)) c.write_uint.ensures
          ∙ ap (λ n. lowered f.wide f.width f.shift n samples) (sym (add-one i)));
      long = search rules;
    }
