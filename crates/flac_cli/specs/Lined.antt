-- What is printed of a reason.
use Rattle.std.specs.Prelude.{ℕ, List, ◌++◌, codes, decimal}
use Rattle.flac_native.specs.Places.{place_text}
use Rattle.flac_cli.specs.declared.lines.At.{At}
use Rattle.flac_cli.specs.declared.lines.At.TheVariants.{Whole, Place, Line, Chunk}

-- the text of a reason, after that of its place in a stream, or of the number of its line
abbrev pub text_at : At → (text : List ℕ) → List ℕ
text_at Whole text = text
text_at (Place at) text = place_text at ++ (codes ": " ++ text)
text_at (Line number) text = (codes "line " ++ decimal number) ++ (codes ": " ++ text)
text_at (Chunk number) text = (codes "chunk " ++ decimal number) ++ (codes ": " ++ text)
