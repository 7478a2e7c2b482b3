use Rattle.std.proofs.Common.{◌≡◌, ℕ, ◌+◌, ◌<◌, List, ◌∷◌, [], length, refl, ap, arith}
use Rattle.std.proofs.lemmas.Result.{err_from_is_err_and}
use Rattle.flac_bits.specs.LittleEndian.{little_bits}
use Rattle.flac_bits.specs.Forms.{joined}
use Rattle.flac_bits.proofs.Writing.{towards_start, towards_more, towards_fail}
use Rattle.flac_meta.specs.Spelling as s
use Rattle.flac_meta.proofs.Lengths.{texts_many}
use Rattle.flac_meta.proofs.Steps.{towards_done}
use Rattle.flac_meta.proofs.comments.put_comments.Goals as goal

-- the parts of a content that is short enough
vendor_fits : (vendor texts size : ℕ) → 8 + vendor + texts < 16777216 → size ≡ vendor → size < 16777216
vendor_fits vendor texts size small is = omega arith

texts_fit : (vendor texts size : ℕ) → 8 + vendor + texts < 16777216 → size ≡ texts → size < 16777216
texts_fit vendor texts size small is = omega arith

many_fit : (vendor : ℕ) (texts : List (List ℕ)) (count : ℕ) → 8 + vendor + s.texts_length texts < 16777216 → count ≡ length texts → count < 4294967296
many_fit vendor texts count small is = let h = texts_many texts in omega arith

pub returns-in_err-put_little_sized : goal.returns-in_err-put_little_sized
unfolding s.comments_spelling
returns-in_err-put_little_sized g c =
    let p = err_from_is_err_and c.from_residual.result c.from_residual.ensures.1 in
    rw (p.1, p.2, ← c.as_slice-vendor.ensures, ← c.as_slice-list.ensures) (towards_fail _ (joined (little_bits (length c.as_slice-list.result.now) ∷ s.each_spelled s.little_sized c.as_slice-list.result.now ∷ [])) refl (towards_start _ c.args.writer.now) c.in_err-put_little_sized.ensures)

pub returns-in_err-put_little_32 : goal.returns-in_err-put_little_32
unfolding s.comments_spelling
returns-in_err-put_little_32 g c =
    let p = err_from_is_err_and c.from_residual-in_err-put_little_32.result c.from_residual-in_err-put_little_32.ensures.1 in
    rw (p.1, p.2, ← c.as_slice-vendor.ensures, ← c.as_slice-list.ensures) (towards_fail _ (joined (s.each_spelled s.little_sized c.as_slice-list.result.now ∷ [])) refl (towards_more (joined (little_bits (length c.as_slice-list.result.now) ∷ s.each_spelled s.little_sized c.as_slice-list.result.now ∷ [])) refl (towards_start _ c.args.writer.now) c.in_ok-put_little_sized.ensures) c.in_err-put_little_32.ensures)

pub returns : goal.returns
unfolding s.comments_spelling
returns g c = rw (← c.as_slice-vendor.ensures, ← c.as_slice-list.ensures) (towards_done (s.each_spelled s.little_sized c.as_slice-list.result.now) c.put_texts.new.writer c.put_texts.result (towards_more (joined (s.each_spelled s.little_sized c.as_slice-list.result.now ∷ [])) refl (towards_more (joined (little_bits (length c.as_slice-list.result.now) ∷ s.each_spelled s.little_sized c.as_slice-list.result.now ∷ [])) refl (towards_start _ c.args.writer.now) c.in_ok-put_little_sized.ensures) c.in_ok-put_little_32.ensures) c.put_texts.ensures)

pub put_little_sized-requires : goal.put_little_sized-requires
put_little_sized-requires g c = let k = c.args.comments.now in vendor_fits (length k.vendor) (s.texts_length k.list) (length c.as_slice-vendor.result.now) c.requires (ap length c.as_slice-vendor.ensures)

pub overflow_cast-list : goal.overflow_cast-list
overflow_cast-list g c =
    let k = c.args.comments.now in
    let small = many_fit (length k.vendor) k.list (length c.as_slice-list.result.now) c.requires (ap length c.as_slice-list.ensures) in
    omega arith

pub put_texts-requires : goal.put_texts-requires
put_texts-requires g c = let k = c.args.comments.now in texts_fit (length k.vendor) (s.texts_length k.list) (s.texts_length c.as_slice-list.result.now) c.requires (ap s.texts_length c.as_slice-list.ensures)
