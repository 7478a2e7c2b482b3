use Rattle.std.proofs.Common.{◌∷◌, [], refl}
use Rattle.std.proofs.lemmas.Result.{err_from_is_err_and}
use Rattle.flac_bits.specs.Bits.{unsigned, bits_of}
use Rattle.flac_bits.specs.Forms.{joined}
use Rattle.flac_bits.proofs.Writing.{towards_start, towards_more, towards_end, towards_fail}
use Rattle.flac_ogg.proofs.mapping.write_mapped.Goals as goal

pub returns-in_err-put : goal.returns-in_err-put
returns-in_err-put g c =
    let p = err_from_is_err_and c.from_residual.result c.from_residual.ensures.1 in
    rw (p.1, p.2) (towards_fail _ (joined (unsigned 16 0x0100 ∷ unsigned 16 c.args.count ∷ bits_of c.args.head.now ∷ [])) refl (towards_start (joined (unsigned 40 0x7F464C4143 ∷ unsigned 16 0x0100 ∷ unsigned 16 c.args.count ∷ bits_of c.args.head.now ∷ [])) c.args.writer.now) c.in_err-put.ensures)

pub returns-in_err-put-2 : goal.returns-in_err-put-2
returns-in_err-put-2 g c =
    let p = err_from_is_err_and c.from_residual-in_err-put-2.result c.from_residual-in_err-put-2.ensures.1 in
    rw (p.1, p.2) (towards_fail _ (joined (unsigned 16 c.args.count ∷ bits_of c.args.head.now ∷ [])) refl (towards_more (joined (unsigned 16 0x0100 ∷ unsigned 16 c.args.count ∷ bits_of c.args.head.now ∷ [])) refl (towards_start (joined (unsigned 40 0x7F464C4143 ∷ unsigned 16 0x0100 ∷ unsigned 16 c.args.count ∷ bits_of c.args.head.now ∷ [])) c.args.writer.now) c.in_ok-put.ensures) c.in_err-put-2.ensures)

pub returns-in_err-put-3 : goal.returns-in_err-put-3
returns-in_err-put-3 g c =
    let p = err_from_is_err_and c.from_residual-in_err-put-3.result c.from_residual-in_err-put-3.ensures.1 in
    rw (p.1, p.2) (towards_fail _ (joined (bits_of c.args.head.now ∷ [])) refl (towards_more (joined (unsigned 16 c.args.count ∷ bits_of c.args.head.now ∷ [])) refl (towards_more (joined (unsigned 16 0x0100 ∷ unsigned 16 c.args.count ∷ bits_of c.args.head.now ∷ [])) refl (towards_start (joined (unsigned 40 0x7F464C4143 ∷ unsigned 16 0x0100 ∷ unsigned 16 c.args.count ∷ bits_of c.args.head.now ∷ [])) c.args.writer.now) c.in_ok-put.ensures) c.in_ok-put-2.ensures) c.in_err-put-3.ensures)

pub returns-in_err-put_bytes : goal.returns-in_err-put_bytes
returns-in_err-put_bytes g c =
    let p = err_from_is_err_and c.from_residual-in_err-put_bytes.result c.from_residual-in_err-put_bytes.ensures.1 in
    rw (p.1, p.2) (towards_fail _ (joined []) refl (towards_more (joined (bits_of c.args.head.now ∷ [])) refl (towards_more (joined (unsigned 16 c.args.count ∷ bits_of c.args.head.now ∷ [])) refl (towards_more (joined (unsigned 16 0x0100 ∷ unsigned 16 c.args.count ∷ bits_of c.args.head.now ∷ [])) refl (towards_start (joined (unsigned 40 0x7F464C4143 ∷ unsigned 16 0x0100 ∷ unsigned 16 c.args.count ∷ bits_of c.args.head.now ∷ [])) c.args.writer.now) c.in_ok-put.ensures) c.in_ok-put-2.ensures) c.in_ok-put-3.ensures) c.in_err-put_bytes.ensures)

pub returns : goal.returns
returns g c = towards_end refl (towards_more (joined []) refl (towards_more (joined (bits_of c.args.head.now ∷ [])) refl (towards_more (joined (unsigned 16 c.args.count ∷ bits_of c.args.head.now ∷ [])) refl (towards_more (joined (unsigned 16 0x0100 ∷ unsigned 16 c.args.count ∷ bits_of c.args.head.now ∷ [])) refl (towards_start (joined (unsigned 40 0x7F464C4143 ∷ unsigned 16 0x0100 ∷ unsigned 16 c.args.count ∷ bits_of c.args.head.now ∷ [])) c.args.writer.now) c.in_ok-put.ensures) c.in_ok-put-2.ensures) c.in_ok-put-3.ensures) c.in_ok-put_bytes.ensures)
