-- The raw samples of a stream: interleaved channel by channel, signed little-endian, each sign-extended to whole bytes.
-- They are the bytes whose MD5 STREAMINFO states (RFC 9639, section 8.2).
use Rattle.std.specs.Prelude.{ℕ, List}
use Rattle.flac_bits.specs.declared.source.Source as source
use Rattle.flac_bits.specs.declared.target.Target as target
use Rattle.flac_header.specs.declared.subset.Profile.{Profile}
use Rattle.flac_native.specs.Stream.{Piece}
use Rattle.flac_native.specs.Samples.{samples_from}
use Rattle.flac_cli.specs.Streams.{SendsOfStream}

-- the samples of all frames, after blocks that state this depth
abbrev pub all_samples : ℕ → List Piece → List ℕ
all_samples depth xs = samples_from 0 depth xs

-- If the source did not fail, and the bytes of the target are known: the source gives a stream, and the target was sent
-- exactly the samples of its frames.
abbrev pub SendsSamples : {S T : Type 0} (g : source.Ghosts S) (h : target.Ghosts T) → Profile → (from to : S) (old new : T) → Type 0
SendsSamples g h profile from to old new = SendsOfStream g h profile (all_samples 0) from to old new
