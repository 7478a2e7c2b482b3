use Rattle.std.proofs.Common.{◌∷◌, [], refl}
use Rattle.std.proofs.lemmas.Result.{err_from_is_err_and}
use Rattle.flac_bits.specs.Forms.{joined}
use Rattle.flac_bits.proofs.Writing.{writes_then, fails_then, fails_first}
use Rattle.flac_meta.specs.Spelling as s
use Rattle.flac_meta.proofs.Steps.{fields_first, fields_fail, writes_only}
use Rattle.flac_meta.proofs.picture.put_picture.Goals as goal

pub returns-in_err-put : goal.returns-in_err-put
unfolding s.picture_spelling
returns-in_err-put g c =
    let p = err_from_is_err_and c.from_residual.result c.from_residual.ensures.1 in
    rw (p.1, p.2) (fails_first _ _ c.in_err-put.ensures)

pub returns-in_err-put_sized : goal.returns-in_err-put_sized
unfolding s.picture_spelling
returns-in_err-put_sized g c =
    let p = err_from_is_err_and c.from_residual-in_err-put_sized.result c.from_residual-in_err-put_sized.ensures.1 in
    rw (p.1, p.2) (fails_then _ c.in_ok-put.ensures (fails_first _ _ (rw c.as_slice-media.ensures at c.in_err-put_sized.ensures)))

pub returns-in_err-put_sized-2 : goal.returns-in_err-put_sized-2
unfolding s.picture_spelling
returns-in_err-put_sized-2 g c =
    let p = err_from_is_err_and c.from_residual-in_err-put_sized-2.result c.from_residual-in_err-put_sized-2.ensures.1 in
    rw (p.1, p.2) (fails_then _ c.in_ok-put.ensures (fails_then _ (rw c.as_slice-media.ensures at c.in_ok-put_sized.ensures)
    (fails_first _ _ (rw c.as_slice-text.ensures at c.in_err-put_sized-2.ensures))))

pub returns-in_err-put_fields : goal.returns-in_err-put_fields
unfolding s.picture_spelling
returns-in_err-put_fields g c =
    let p = err_from_is_err_and c.from_residual-in_err-put_fields.result c.from_residual-in_err-put_fields.ensures.1 in
    rw (p.1, p.2) (fails_then _ c.in_ok-put.ensures (fails_then _ (rw c.as_slice-media.ensures at c.in_ok-put_sized.ensures)
    (fails_then _ (rw c.as_slice-text.ensures at c.in_ok-put_sized-2.ensures)
    (fields_fail _ (joined (s.sized_bits c.args.picture.now.bytes ∷ [])) c.in_err-put_fields.ensures refl))))

pub returns : goal.returns
unfolding s.picture_spelling
returns g c =
    let new = c.put_sized-3.new.writer in
    let result = c.put_sized-3.result in
    writes_then _ new result c.in_ok-put.ensures (writes_then _ new result (rw c.as_slice-media.ensures at c.in_ok-put_sized.ensures)
    (writes_then _ new result (rw c.as_slice-text.ensures at c.in_ok-put_sized-2.ensures)
    (fields_first _ (joined (s.sized_bits c.args.picture.now.bytes ∷ [])) new result c.in_ok-put_fields.ensures
    (writes_only (s.sized_bits c.args.picture.now.bytes) _ new result (rw c.as_slice-bytes.ensures at c.put_sized-3.ensures)) refl)))
