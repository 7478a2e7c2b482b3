use Rattle.std.proofs.Common.{◌≡◌, ◌+◌, ◌-◌, ◌*◌, ◌/◌, ◌^◌, ◌++◌, length, ap, ◌∙◌, arith}
use Rattle.std.proofs.lemmas.Result.{err_from_is_err_and}
use Rattle.flac_bits.specs.Bits.{unsigned}
use Rattle.flac_bits.specs.Coded.{six_bits, number_spelling}
use Rattle.flac_bits.proofs.CodedLength.{lead_bits, form_is}
use Rattle.flac_bits.proofs.Writing.{fails_first, writes_then}
use Rattle.flac_bits.proofs.coded.write_number.Goals as goal

pub put-requires-clause-fits : goal.put-requires-clause-fits
put-requires-clause-fits g c =
    let n = c.number_len-count.result - 1 in
    let long : length (number_spelling c.args.value) ≡ 8 * (n + 1) = omega (arith, c.number_len-count.ensures.long, c.number_len-count.ensures.few) in
    omega (arith, (form_is c.args.value n long).fits c.requires, c.lead_bits.ensures, c.without_groups-high.ensures)

pub returns-in_err-put : goal.returns-in_err-put
returns-in_err-put g c =
    let p = err_from_is_err_and c.from_residual.result c.from_residual.ensures.1 in
    let n = c.number_len-count.result - 1 in
    let long : length (number_spelling c.args.value) ≡ 8 * (n + 1) = omega (arith, c.number_len-count.ensures.long, c.number_len-count.ensures.few) in
    let lead : lead_bits n + c.args.value / 64 ^ n ≡ c.lead_bits.result + c.without_groups-high.result = omega (arith, c.lead_bits.ensures, c.without_groups-high.ensures) in
    let rest = six_bits n c.args.value in
    let spelled = (form_is c.args.value n long).spelled ∙ ap (λ k. unsigned 8 k ++ rest) lead in
    rw (p.1, p.2, spelled) (fails_first (unsigned 8 (c.lead_bits.result + c.without_groups-high.result)) rest c.in_err-put.ensures)

pub returns : goal.returns
returns g c =
    let n = c.number_len-count.result - 1 in
    let long : length (number_spelling c.args.value) ≡ 8 * (n + 1) = omega (arith, c.number_len-count.ensures.long, c.number_len-count.ensures.few) in
    let lead : lead_bits n + c.args.value / 64 ^ n ≡ c.lead_bits.result + c.without_groups-high.result = omega (arith, c.lead_bits.ensures, c.without_groups-high.ensures) in
    let rest = six_bits n c.args.value in
    let spelled = (form_is c.args.value n long).spelled ∙ ap (λ k. unsigned 8 k ++ rest) lead in
    rw spelled (writes_then rest c.put_groups.new.writer c.put_groups.result c.in_ok-put.ensures c.put_groups.ensures)
