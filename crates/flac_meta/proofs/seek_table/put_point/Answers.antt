use Rattle.std.proofs.Common.{◌∷◌, [], refl}
use Rattle.std.proofs.lemmas.Result.{err_from_is_err_and}
use Rattle.flac_bits.specs.Bits.{unsigned}
use Rattle.flac_bits.specs.Forms.{joined}
use Rattle.flac_bits.proofs.Writing.{towards_start, towards_more, towards_fail}
use Rattle.flac_meta.specs.Spelling.{point_spelling}
use Rattle.flac_meta.proofs.Steps.{towards_done}
use Rattle.flac_meta.proofs.seek_table.put_point.Goals as goal

pub returns-in_err-put : goal.returns-in_err-put
unfolding point_spelling
returns-in_err-put g c =
    let p = err_from_is_err_and c.from_residual.result c.from_residual.ensures.1 in
    rw (p.1, p.2) (towards_fail _ (joined (unsigned 64 c.args.point.now.offset ∷ unsigned 16 c.args.point.now.length ∷ [])) refl (towards_start _ c.args.writer.now) c.in_err-put.ensures)

pub returns-in_err-put-2 : goal.returns-in_err-put-2
unfolding point_spelling
returns-in_err-put-2 g c =
    let p = err_from_is_err_and c.from_residual-in_err-put-2.result c.from_residual-in_err-put-2.ensures.1 in
    rw (p.1, p.2) (towards_fail _ (joined (unsigned 16 c.args.point.now.length ∷ [])) refl (towards_more (joined (unsigned 64 c.args.point.now.offset ∷ unsigned 16 c.args.point.now.length ∷ [])) refl (towards_start _ c.args.writer.now) c.in_ok-put.ensures) c.in_err-put-2.ensures)

pub returns : goal.returns
unfolding point_spelling
returns g c = towards_done (unsigned 16 c.args.point.now.length) c.put-3.new.self c.put-3.result (towards_more (joined (unsigned 16 c.args.point.now.length ∷ [])) refl (towards_more (joined (unsigned 64 c.args.point.now.offset ∷ unsigned 16 c.args.point.now.length ∷ [])) refl (towards_start _ c.args.writer.now) c.in_ok-put.ensures) c.in_ok-put-2.ensures) c.put-3.ensures
