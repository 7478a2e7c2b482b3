-- The samples of a stream as numbers, interleaved channel by channel.
use Rattle.std.specs.Prelude.{ℕ, ℤ, min, List, [], ◌∷◌, ◌++◌}
use Rattle.flac_header.specs.declared.subset.Profile.{Profile}
use Rattle.flac_frame.specs.Interleaved.{interleaved}
use Rattle.flac_native.specs.Samples.{samples_from}
use Rattle.flac_native.specs.Stream.{Piece, marked, block, framed}
use Rattle.flac_ogg.specs.Verifying.{bytes_reading}
use Rattle.flac_c.specs.Answers.{IsCopied}

-- the samples of all frames, interleaved channel by channel
abbrev pub numbers_from : List Piece → List ℤ
numbers_from [] = []
numbers_from (marked ∷ xs) = numbers_from xs
numbers_from (block last b ∷ xs) = numbers_from xs
numbers_from (framed f ∷ xs) = interleaved f ++ numbers_from xs

-- the bytes are one whole stream, and this of its parts is written to the front of a buffer, as far as there is room
abbrev pub WritesStream : {X : Type 0} → Profile → List ℕ → (List Piece → List X) → (out new : List X) → (len : ℕ) → Type 0
WritesStream profile bytes of out new len = (items : List Piece) × (bytes_reading profile bytes).whole items × IsCopied (of items) out new len

-- and of the samples as bytes, each of a width of at most 4
abbrev pub DecodesTo : Profile → List ℕ → (width : ℕ) → (out new : List ℕ) → (len : ℕ) → Type 0
DecodesTo profile bytes width out new len = WritesStream profile bytes (samples_from (min width 4) 0) out new len
