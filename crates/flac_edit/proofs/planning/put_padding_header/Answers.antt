use Rattle.std.proofs.Common.{◌∷◌, [], refl}
use Rattle.std.proofs.lemmas.Result.{err_from_is_err_and}
use Rattle.flac_bits.specs.Bits.{unsigned}
use Rattle.flac_bits.specs.Forms.{joined}
use Rattle.flac_bits.proofs.Writing.{towards_start, towards_more, towards_end, towards_fail}
use Rattle.flac_meta.specs.Spelling.{header_spelling}
use Rattle.flac_edit.proofs.planning.put_padding_header.Goals as goal

pub returns-in_err-put : goal.returns-in_err-put
unfolding header_spelling
returns-in_err-put g c =
    let p = err_from_is_err_and c.from_residual.result c.from_residual.ensures.1 in
    rw (p.1, p.2, ← c.flag-mark.ensures.value) (towards_fail _ (joined (unsigned 7 1 ∷ unsigned 24 c.args.size ∷ [])) refl (towards_start _ c.args.writer.now) c.in_err-put.ensures)

pub returns-in_err-put-2 : goal.returns-in_err-put-2
unfolding header_spelling
returns-in_err-put-2 g c =
    let p = err_from_is_err_and c.from_residual-in_err-put-2.result c.from_residual-in_err-put-2.ensures.1 in
    rw (p.1, p.2, ← c.flag-mark.ensures.value) (towards_fail _ (joined (unsigned 24 c.args.size ∷ [])) refl (towards_more (joined (unsigned 7 1 ∷ unsigned 24 c.args.size ∷ [])) refl (towards_start _ c.args.writer.now) c.in_ok-put.ensures) c.in_err-put-2.ensures)

pub returns-in_err-put-3 : goal.returns-in_err-put-3
unfolding header_spelling
returns-in_err-put-3 g c =
    let p = err_from_is_err_and c.from_residual-in_err-put-3.result c.from_residual-in_err-put-3.ensures.1 in
    rw (p.1, p.2, ← c.flag-mark.ensures.value) (towards_fail _ ([]) refl (towards_more (joined (unsigned 24 c.args.size ∷ [])) refl (towards_more (joined (unsigned 7 1 ∷ unsigned 24 c.args.size ∷ [])) refl (towards_start _ c.args.writer.now) c.in_ok-put.ensures) c.in_ok-put-2.ensures) c.in_err-put-3.ensures)

pub returns : goal.returns
unfolding header_spelling
returns g c =
    rw (← c.flag-mark.ensures.value) (towards_end refl (towards_more ([]) refl (towards_more (joined (unsigned 24 c.args.size ∷ [])) refl (towards_more (joined (unsigned 7 1 ∷ unsigned 24 c.args.size ∷ [])) refl (towards_start _ c.args.writer.now) c.in_ok-put.ensures) c.in_ok-put-2.ensures) c.in_ok-put-3.ensures))
