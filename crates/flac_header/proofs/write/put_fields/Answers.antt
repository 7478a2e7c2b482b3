use Rattle.std.proofs.Common.{[], ◌∷◌}
use Rattle.std.proofs.lemmas.Result.{err_from_is_err_and}
use Rattle.flac_bits.specs.Coded.{number_spelling}
use Rattle.flac_bits.proofs.Writing.{wrote_more, wrote_fails, fails_more}
use Rattle.flac_header.specs.Spelling.{size_spelling, rate_spelling, code_parts, header_parts}
use Rattle.flac_header.proofs.Writes.{wrote_last}
use Rattle.flac_header.proofs.write.put_fields.Goals as goal

pub returns-in_err-put_codes : goal.returns-in_err-put_codes
unfolding header_parts code_parts
returns-in_err-put_codes g c =
    let h = c.args.header.now in
    let p = err_from_is_err_and c.from_residual.result c.from_residual.ensures.1 in
    rw (p.1, p.2) (fails_more (rate_spelling h.rate_code h.rate) (fails_more (size_spelling h.size_code h.size) (fails_more (number_spelling h.number) c.in_err-put_codes.ensures)))

pub returns-in_err-write_number : goal.returns-in_err-write_number
unfolding header_parts code_parts
returns-in_err-write_number g c =
    let i = c.header.inside in
    let w7 = rw (← c.header.view_is) at c.in_ok-put_codes.ensures in
    let p = err_from_is_err_and c.from_residual-in_err-write_number.result c.from_residual-in_err-write_number.ensures.1 in
    rw (p.1, p.2, ← c.header.view_is) (wrote_fails (number_spelling i.number) (size_spelling i.size_code i.size ∷ rate_spelling i.rate_code i.rate ∷ []) w7 c.in_err-write_number.ensures)

pub returns-in_err-put_size : goal.returns-in_err-put_size
unfolding header_parts code_parts
returns-in_err-put_size g c =
    let i = c.header.inside in
    let w7 = rw (← c.header.view_is) at c.in_ok-put_codes.ensures in
    let w8 = wrote_more {last = number_spelling i.number} w7 c.in_ok-write_number.ensures in
    let p = err_from_is_err_and c.from_residual-in_err-put_size.result c.from_residual-in_err-put_size.ensures.1 in
    rw (p.1, p.2, ← c.header.view_is) (wrote_fails (size_spelling i.size_code i.size) (rate_spelling i.rate_code i.rate ∷ []) w8 c.in_err-put_size.ensures)

pub returns : goal.returns
unfolding header_parts code_parts
returns g c =
    let i = c.header.inside in
    let w7 = rw (← c.header.view_is) at c.in_ok-put_codes.ensures in
    let w8 = wrote_more {last = number_spelling i.number} w7 c.in_ok-write_number.ensures in
    let w9 = wrote_more {last = size_spelling i.size_code i.size} w8 c.in_ok-put_size.ensures in
    rw (← c.header.view_is) (wrote_last (rate_spelling i.rate_code i.rate) c.put_rate.new.writer c.put_rate.result w9 c.put_rate.ensures)
