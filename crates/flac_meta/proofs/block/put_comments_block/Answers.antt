use Rattle.std.proofs.Common.{◌∷◌, [], refl}
use Rattle.std.proofs.lemmas.Result.{err_from_is_err_and}
use Rattle.flac_bits.specs.Forms.{joined}
use Rattle.flac_bits.proofs.Writing.{towards_start, towards_more, towards_end, towards_fail}
use Rattle.flac_meta.specs.Spelling as s
use Rattle.flac_meta.proofs.Lengths as lengths
use Rattle.std.proofs.Common.{◌≡◌, ◌∙◌}
use Rattle.flac_meta.proofs.block.put_comments_block.Goals as goal

pub returns-in_err-put_header : goal.returns-in_err-put_header
unfolding s.block_spelling s.content_spelling
returns-in_err-put_header g c =
    let e : c.length-size.result ≡ s.comments_length c.args.comments.now = c.length-size.ensures ∙ lengths.short_is (s.comments_length c.args.comments.now) c.requires in
    let p = err_from_is_err_and c.from_residual.result c.from_residual.ensures.1 in
    rw (p.1, p.2, ← e) (towards_fail _ (joined (s.comments_spelling c.args.comments.now ∷ [])) refl (towards_start _ c.args.writer.now) c.in_err-put_header.ensures)

pub returns-in_err-put_comments : goal.returns-in_err-put_comments
unfolding s.block_spelling s.content_spelling
returns-in_err-put_comments g c =
    let e : c.length-size.result ≡ s.comments_length c.args.comments.now = c.length-size.ensures ∙ lengths.short_is (s.comments_length c.args.comments.now) c.requires in
    let p = err_from_is_err_and c.from_residual-in_err-put_comments.result c.from_residual-in_err-put_comments.ensures.1 in
    rw (p.1, p.2, ← e) (towards_fail _ ([]) refl (towards_more (joined (s.comments_spelling c.args.comments.now ∷ [])) refl (towards_start _ c.args.writer.now) c.in_ok-put_header.ensures) c.in_err-put_comments.ensures)

pub returns : goal.returns
unfolding s.block_spelling s.content_spelling
returns g c =
    let e : c.length-size.result ≡ s.comments_length c.args.comments.now = c.length-size.ensures ∙ lengths.short_is (s.comments_length c.args.comments.now) c.requires in
    rw (← e) (towards_end refl (towards_more ([]) refl (towards_more (joined (s.comments_spelling c.args.comments.now ∷ [])) refl (towards_start _ c.args.writer.now) c.in_ok-put_header.ensures) c.in_ok-put_comments.ensures))
