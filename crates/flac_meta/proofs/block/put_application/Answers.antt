use Rattle.std.proofs.Common.{◌∷◌, [], refl}
use Rattle.std.proofs.lemmas.Result.{err_from_is_err_and}
use Rattle.flac_bits.specs.Bits.{bits_of}
use Rattle.flac_bits.specs.Forms.{joined}
use Rattle.flac_bits.proofs.Writing.{towards_start, towards_more, towards_end, towards_fail}
use Rattle.flac_meta.specs.Spelling as s
use Rattle.flac_meta.proofs.block.put_application.Goals as goal

pub returns-in_err-put_bytes : goal.returns-in_err-put_bytes
unfolding s.each_spelled
returns-in_err-put_bytes g c =
    let p = err_from_is_err_and c.from_residual.result c.from_residual.ensures.1 in
    rw (p.1, p.2) (towards_fail _ (joined (bits_of c.args.bytes.now ∷ [])) refl (towards_start _ c.args.writer.now) c.in_err-put_bytes.ensures)

pub returns-in_err-put_bytes-2 : goal.returns-in_err-put_bytes-2
unfolding s.each_spelled
returns-in_err-put_bytes-2 g c =
    let p = err_from_is_err_and c.from_residual-in_err-put_bytes-2.result c.from_residual-in_err-put_bytes-2.ensures.1 in
    rw (p.1, p.2) (towards_fail _ ([]) refl (towards_more (joined (bits_of c.args.bytes.now ∷ [])) refl (towards_start _ c.args.writer.now) c.in_ok-put_bytes.ensures) c.in_err-put_bytes-2.ensures)

pub returns : goal.returns
unfolding s.each_spelled
returns g c =
    (towards_end refl (towards_more ([]) refl (towards_more (joined (bits_of c.args.bytes.now ∷ [])) refl (towards_start _ c.args.writer.now) c.in_ok-put_bytes.ensures) c.in_ok-put_bytes-2.ensures))
