-- What ties a picture to its spelling.
use Rattle.std.proofs.Common.{◌≡◌, ℕ, ◌+◌, ◌-◌, ◌^◌, ◌<◌, ◌≤◌, Bool, List, [], ◌∷◌, ◌++◌, length, refl, ap, ◌∙◌, arith}
use Rattle.flac_bits.specs.Bits.{unsigned}
use Rattle.flac_bits.specs.State.{Mark}
use Rattle.flac_bits.specs.Layout.{bits}
use Rattle.flac_bits.specs.Forms.{joined}
use Rattle.flac_bits.specs.inner.Forms.{Ties}
use Rattle.flac_bits.proofs.Ties.{tie, each_tied, some_tied}
use Rattle.flac_meta.specs.Fields.{sized, number_32}
use Rattle.flac_meta.specs.Picture.{sizes, picture_front, picture}
use Rattle.flac_meta.specs.Spelling as s
use Rattle.flac_meta.specs.Valid.{IsPicture}
use Rattle.flac_meta.specs.declared.picture.Picture.{Picture}
use Rattle.flac_meta.proofs.Tied.{is_zero, joined_append, bits_tie, number_32_tie, IsText, text_spelling, sized_tie, respell}

abbrev In32 : ℕ → ℕ → Type 0
In32 left v = (4 ≤ left) × (v < 2 ^ 32)

-- numbers of 32 bits spelled in some way
abbrev Numbers : (ℕ → List Bool) → Type 0
Numbers b = (left : ℕ) (m : Mark) → Ties (number_32 left) m (In32 left) b

abbrev Texts : (ℕ → List Bool) → Type 0
Texts b = (left : ℕ) (m : Mark) → Ties (sized (bits 32) left) m (IsText left) (text_spelling b)

record AreSizes (left : ℕ) (f : ℕ × ℕ × ℕ × ℕ) : Type 0 where
  room : 16 ≤ left
  width : f.0 < 2 ^ 32
  height : f.1 < 2 ^ 32
  depth : f.2 < 2 ^ 32
  colours : f.3 < 2 ^ 32

abbrev sizes_parts : (ℕ → List Bool) → ℕ × ℕ × ℕ × ℕ → List (List Bool)
sizes_parts b f = b f.0 ∷ b f.1 ∷ b f.2 ∷ b f.3 ∷ []

sizes_tie : (b : ℕ → List Bool) → Numbers b → (left : ℕ) (m : Mark) → Ties (sizes left) m (AreSizes left) (λ f. joined (sizes_parts b f))
unfolding sizes
sizes_tie b numbers left m = tie (sizes left) m (AreSizes left) (λ f. joined (sizes_parts b f))
    (each_tied (number_32 left) _ (In32 left) b _ (numbers left _) (λ width h.
    each_tied (number_32 (left - 4)) _ (In32 (left - 4)) b _ (numbers (left - 4) _) (λ height i.
    each_tied (number_32 (left - 8)) _ (In32 (left - 8)) b _ (numbers (left - 8) _) (λ depth j.
    each_tied (number_32 (left - 12)) _ (In32 (left - 12)) b _ (numbers (left - 12) _) (λ colours k.
    let e = k.0 in (record { room = omega arith; width = h.1; height = i.1; depth = j.1; colours = k.1 }, refl))))))
    (λ f v.
    let e = v.room in
    some_tied (number_32 left) _ (In32 left) b _ f.0 (numbers left _) (omega arith, v.width)
    (some_tied (number_32 (left - 4)) _ (In32 (left - 4)) b _ f.1 (numbers (left - 4) _) (omega arith, v.height)
    (some_tied (number_32 (left - 8)) _ (In32 (left - 8)) b _ f.2 (numbers (left - 8) _) (omega arith, v.depth)
    (some_tied (number_32 (left - 12)) _ (In32 (left - 12)) b _ f.3 (numbers (left - 12) _) (omega arith, v.colours) (refl, refl)))))

pub record PictureOf (left : ℕ) (p : Picture) : Type 0 where
  pub is : IsPicture p
  pub size : 32 + length p.media + length p.text + length p.bytes ≡ left

abbrev parts : (ℕ → List Bool) → Picture → List (List Bool)
parts b p = b p.kind ∷ text_spelling b p.media ∷ text_spelling b p.text ∷ b p.width ∷ b p.height ∷ b p.depth ∷ b p.colours ∷ text_spelling b p.bytes ∷ []

abbrev front_parts : (ℕ → List Bool) → Picture → List (List Bool)
front_parts b p = b p.kind ∷ text_spelling b p.media ∷ text_spelling b p.text ∷ []

abbrev sizes_of : Picture → ℕ × ℕ × ℕ × ℕ
sizes_of p = (p.width, p.height, p.depth, p.colours)

-- the spellings of front, sizes and data joined
groups : (b : ℕ → List Bool) (p : Picture) → joined (front_parts b p) ++ (joined (sizes_parts b (sizes_of p)) ++ joined (text_spelling b p.bytes ∷ [])) ≡ joined (parts b p)
groups b p = ap (λ t. joined (front_parts b p) ++ t) (joined_append (sizes_parts b (sizes_of p)) (text_spelling b p.bytes ∷ []))
    ∙ joined_append (front_parts b p) (b p.width ∷ b p.height ∷ b p.depth ∷ b p.colours ∷ text_spelling b p.bytes ∷ [])

spelled_tie : (b : ℕ → List Bool) → Numbers b → Texts b → (left : ℕ) → left < 2 ^ 24 → (m : Mark) → Ties (picture left) m (PictureOf left) (λ p. joined (parts b p))
unfolding picture picture_front
spelled_tie b numbers texts left lt m = tie (picture left) m (PictureOf left) (λ p. joined (parts b p))
    (each_tied (number_32 left) _ (In32 left) b _ (numbers left _) (λ kind h.
    each_tied (sized (bits 32) (left - 4)) _ (IsText (left - 4)) (text_spelling b) _ (texts (left - 4) _) (λ media i.
    let after_media : ℕ = left - (8 + length media) in
    each_tied (sized (bits 32) after_media) _ (IsText after_media) (text_spelling b) _ (texts after_media _) (λ text j.
    let rest : ℕ = left - (12 + length media + length text) in
    each_tied (sizes rest) _ (AreSizes rest) (λ f. joined (sizes_parts b f)) _ (sizes_tie b numbers rest _) (λ f k.
    each_tied (sized (bits 32) (rest - 16)) _ (IsText (rest - 16)) (text_spelling b) _ (texts (rest - 16) _) (λ bytes l kept.
    let z = is_zero (rest - (20 + length bytes)) kept.0 in
    let lh = h.0 in let li = i.fits in let lj = j.fits in let lk = k.room in let ll = l.fits in
    let p : Picture = record { kind = kind; media = media; text = text; width = f.0; height = f.1; depth = f.2; colours = f.3; bytes = bytes } in (
      record { is = record { kind = h.1; media = i.small; text = j.small; width = k.width; height = k.height; depth = k.depth; colours = k.colours; bytes = l.small }; size = omega arith },
      groups b p,
    )))))))
    (λ p v.
    let size = v.size in
    let after_media : ℕ = left - (8 + length p.media) in
    let rest : ℕ = left - (12 + length p.media + length p.text) in
    let f : ℕ × ℕ × ℕ × ℕ = sizes_of p in
    some_tied (number_32 left) _ (In32 left) b _ p.kind (numbers left _) (omega arith, v.is.kind)
    (some_tied (sized (bits 32) (left - 4)) _ (IsText (left - 4)) (text_spelling b) _ p.media (texts (left - 4) _) (record { fits = omega arith; few = omega arith; small = v.is.media })
    (some_tied (sized (bits 32) after_media) _ (IsText after_media) (text_spelling b) _ p.text (texts after_media _) (record { fits = omega arith; few = omega arith; small = v.is.text })
    (some_tied (sizes rest) _ (AreSizes rest) (λ f. joined (sizes_parts b f)) _ f (sizes_tie b numbers rest _) (record { room = omega arith; width = v.is.width; height = v.is.height; depth = v.is.depth; colours = v.is.colours })
    (some_tied (sized (bits 32) (rest - 16)) _ (IsText (rest - 16)) (text_spelling b) _ p.bytes (texts (rest - 16) _) (record { fits = omega arith; few = omega arith; small = v.is.bytes }) (
      (let z : rest - (20 + length p.bytes) ≡ 0 = omega arith in rw z refl, tt),
      (groups b p, refl),
    ))))))

same : (p : Picture) → joined (parts (unsigned 32) p) ≡ s.picture_spelling p
unfolding s.picture_spelling s.sized_bits
same p = refl

pub picture_tie : (left : ℕ) → left < 2 ^ 24 → (m : Mark) → Ties (picture left) m (PictureOf left) s.picture_spelling
picture_tie left lt m = respell s.picture_spelling same (spelled_tie (unsigned 32) number_32_tie (λ l k. sized_tie (bits 32) (unsigned 32) (bits_tie 32) l k) left lt m)
