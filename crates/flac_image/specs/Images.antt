-- The sizes of a picture, as a picture block states them (RFC 9639, section 8.8).
use Rattle.std.specs.Prelude.{ℕ, List, codes, Option, Some, None}
use Rattle.flac_image.specs.Png.{png_of}
use Rattle.flac_image.specs.Jpeg.{jpeg_of}
use Rattle.flac_image.specs.declared.image.Image.{Image}
use Rattle.flac_image.specs.declared.image.ImageKind.{ImageKind}
use Rattle.flac_image.specs.declared.image.ImageKind.TheVariants as kind

-- the media type of a format
abbrev pub media_of : ImageKind → List ℕ
media_of kind.Png = codes "image/png"
media_of kind.Jpeg = codes "image/jpeg"

-- those of a PNG picture, else those of a JPEG picture, if it is either
abbrev pub image_of : List ℕ → Option Image
image_of bytes = elim (png_of bytes) [ None ↦ jpeg_of bytes | Some image ↦ Some image ]
