use Rattle.std.proofs.Common.{◌+◌, ◌*◌, ◌∷◌, [], refl}
use Rattle.std.proofs.lemmas.Result.{err_from_is_err_and}
use Rattle.flac_bits.specs.Bits.{unsigned, bit_value}
use Rattle.flac_bits.specs.Forms.{joined}
use Rattle.flac_bits.proofs.Writing.{towards_start, towards_more, towards_fail}
use Rattle.flac_meta.specs.Spelling as s
use Rattle.flac_meta.proofs.Steps.{towards_done}
use Rattle.flac_meta.proofs.cue_sheet.put_sheet_front.Goals as goal

pub returns-in_err-put_bytes : goal.returns-in_err-put_bytes
returns-in_err-put_bytes g c =
    let p = err_from_is_err_and c.from_residual.result c.from_residual.ensures.1 in
    rw (p.1, p.2) (towards_fail _ (joined (unsigned 64 c.args.sheet.now.lead_in ∷ unsigned 1 (bit_value c.args.sheet.now.cd) ∷ s.zero_bits (7 + 8 * 258) ∷ [])) refl (towards_start _ c.args.writer.now) c.in_err-put_bytes.ensures)

pub returns-in_err-put : goal.returns-in_err-put
returns-in_err-put g c =
    let p = err_from_is_err_and c.from_residual-in_err-put.result c.from_residual-in_err-put.ensures.1 in
    rw (p.1, p.2) (towards_fail _ (joined (unsigned 1 (bit_value c.args.sheet.now.cd) ∷ s.zero_bits (7 + 8 * 258) ∷ [])) refl (towards_more (joined (unsigned 64 c.args.sheet.now.lead_in ∷ unsigned 1 (bit_value c.args.sheet.now.cd) ∷ s.zero_bits (7 + 8 * 258) ∷ [])) refl (towards_start _ c.args.writer.now) c.in_ok-put_bytes.ensures) c.in_err-put.ensures)

pub returns-in_err-put-2 : goal.returns-in_err-put-2
returns-in_err-put-2 g c =
    let p = err_from_is_err_and c.from_residual-in_err-put-2.result c.from_residual-in_err-put-2.ensures.1 in
    rw (p.1, p.2, ← c.flag.ensures.value) (towards_fail _ (joined (s.zero_bits (7 + 8 * 258) ∷ [])) refl (towards_more (joined (unsigned 1 c.flag.result ∷ s.zero_bits (7 + 8 * 258) ∷ [])) refl (towards_more (joined (unsigned 64 c.args.sheet.now.lead_in ∷ unsigned 1 c.flag.result ∷ s.zero_bits (7 + 8 * 258) ∷ [])) refl (towards_start _ c.args.writer.now) c.in_ok-put_bytes.ensures) c.in_ok-put.ensures) c.in_err-put-2.ensures)

pub returns : goal.returns
returns g c = rw (← c.flag.ensures.value) (towards_done (s.zero_bits (7 + 8 * 258)) c.put_zeros.new.writer c.put_zeros.result (towards_more (joined (s.zero_bits (7 + 8 * 258) ∷ [])) refl (towards_more (joined (unsigned 1 c.flag.result ∷ s.zero_bits (7 + 8 * 258) ∷ [])) refl (towards_more (joined (unsigned 64 c.args.sheet.now.lead_in ∷ unsigned 1 c.flag.result ∷ s.zero_bits (7 + 8 * 258) ∷ [])) refl (towards_start _ c.args.writer.now) c.in_ok-put_bytes.ensures) c.in_ok-put.ensures) c.in_ok-put-2.ensures) c.put_zeros.ensures)
