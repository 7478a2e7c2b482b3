use Rattle.std.proofs.Common.{◌+◌, ◌-◌, ◌%◌, ◌++◌, sym, ap, ◌∙◌}
use Rattle.std.proofs.lemmas.Result.{err_from_is_err_and}
use Rattle.flac_bits.specs.Bits.{unsigned}
use Rattle.flac_bits.specs.Coded.{six_bits}
use Rattle.flac_bits.proofs.CodedTie.{groups_rest, no_groups_rest}
use Rattle.flac_bits.proofs.Writing.{towards_more, towards_end, towards_fail}
use Rattle.flac_bits.proofs.coded.put_groups.Goals as goal

pub returns-in_err-put : goal.returns-in_err-put
returns-in_err-put g c =
    let p = err_from_is_err_and c.from_residual.result c.from_residual.ensures.1 in
    let rest = six_bits (c.args.count - (c.loop-i.i + 1)) c.args.value in
    rw (p.1, p.2) (towards_fail (unsigned 8 (128 + c.without_groups-group.result % 64)) rest
    (groups_rest c.args.count c.loop-i.i c.args.value c.loop-i-test.true ∙ ap (λ r. unsigned 8 (128 + r % 64) ++ rest) (sym c.without_groups-group.ensures))
    c.loop-i.invariant c.in_err-put.ensures)

pub loop-i-preserved : goal.loop-i-preserved
loop-i-preserved g c =
    let rest = six_bits (c.args.count - (c.loop-i.i + 1)) c.args.value in
    towards_more rest (groups_rest c.args.count c.loop-i.i c.args.value c.loop-i-test.true ∙ ap (λ r. unsigned 8 (128 + r % 64) ++ rest) (sym c.without_groups-group.ensures)) c.loop-i.invariant c.in_ok-put.ensures

pub returns : goal.returns
returns g c = towards_end (no_groups_rest c.args.count c.loop-i.i c.args.value c.loop-i-test.false) c.loop-i.invariant
