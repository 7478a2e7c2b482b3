-- The picture (RFC 9639, section 8.8).
use Rattle.std.specs.Prelude.{ℕ, ◌+◌, ◌-◌, List, length}
use Rattle.flac_bits.specs.Layout.{Layout, done, ◌>>=◌, bits}
use Rattle.flac_meta.specs.Fields.{number_32, nothing_left, sized}
use Rattle.flac_meta.specs.declared.picture.Picture.{Picture}

-- width, height, bits per pixel and colours used
unfoldable pub sizes : ℕ → Layout (ℕ × ℕ × ℕ × ℕ)
sizes left = do
  width ← number_32 left
  height ← number_32 (left - 4)
  depth ← number_32 (left - 8)
  colours ← number_32 (left - 12)
  done (width, height, depth, colours)

-- kind; media type and description, each after its length
unfoldable pub picture_front : ℕ → Layout (ℕ × List ℕ × List ℕ)
picture_front left = do
  kind ← number_32 left
  media ← sized (bits 32) (left - 4)
  text ← sized (bits 32) (left - (8 + length media))
  done (kind, media, text)

-- kind, media type and description; sizes; the data after its length, at whose end the content ends
unfoldable pub picture : ℕ → Layout Picture
picture left = do
  front ← picture_front left
  let rest : ℕ = left - (12 + length front.1 + length front.2)
  found ← sizes rest
  bytes ← sized (bits 32) (rest - 16)
  _ ← nothing_left (rest - (20 + length bytes))
  done (record { kind = front.0; media = front.1; text = front.2; width = found.0; height = found.1; depth = found.2; colours = found.3; bytes = bytes })
