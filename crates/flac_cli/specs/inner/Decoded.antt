-- For proofs of decoding to raw samples: what a call has sent.
use Rattle.std.specs.Prelude.{Result}
use Rattle.flac_bits.specs.declared.source.Source as source
use Rattle.flac_bits.specs.declared.target.Target as target
use Rattle.flac_header.specs.declared.subset.Profile.{Profile}
use Rattle.flac_native.specs.Samples.{samples_from}
use Rattle.flac_native.specs.declared.sinks.SampleWriter.{SampleWriter}
use Rattle.flac_cli.specs.Samples.{all_samples}
use Rattle.flac_cli.specs.Streams.{HasSentOfStream}

-- if it returned Ok, exactly the samples of the stream's frames
abbrev pub HasSentSamples : {S T X E : Type 0} (g : source.Ghosts S) (h : target.Ghosts T) → Profile → (from to : S) (old new : T) → Result X E → Type 0
HasSentSamples g h profile from to old new result = HasSentOfStream g h profile (all_samples 0) from to old new result

-- the same by way of a writer of samples, which may have seen blocks and may be asked for a number of bytes a sample
abbrev pub SinkSends : {S T X E : Type 0} {h : target.Ghosts T} (g : source.Ghosts S) → Profile → (from to : S) (old new : SampleWriter T h) → Result X E → Type 0
SinkSends {h = h} g profile from to old new result = HasSentOfStream g h profile (samples_from old.asked old.depth) from to old.target new.target result
