-- For proofs of the sink that keeps samples: what an item leaves in it.
use Rattle.std.specs.Prelude.{ℕ, ℤ, List, []}
use Rattle.flac_bits.specs.Handing.{TakesAll}
use Rattle.flac_header.specs.declared.subset.Profile.{Profile}
use Rattle.flac_frame.specs.Interleaved.{interleaved}
use Rattle.flac_native.specs.Decoding.{taken}
use Rattle.flac_native.specs.Item.{Item, metadata, frame}
use Rattle.flac_native.specs.Stream.{Piece}
use Rattle.flac_native.specs.declared.decoding.Sink as sink
use Rattle.flac_ogg.specs.Verifying.{bytes_reading}

abbrev pub numbers_in : Item → List ℤ
numbers_in (metadata b) = []
numbers_in (frame f) = interleaved f

-- the bytes are one whole stream, and a sink took its parts
abbrev pub TakesStream : {S : Type 0} → Profile → sink.Ghosts S → List ℕ → (old new : S) → Type 0
TakesStream profile s bytes old new = (items : List Piece) × (bytes_reading profile bytes).whole items × TakesAll (taken s.takes) old items new
