use Rattle.flac_native.specs.Track.{piece_of}
use Rattle.flac_native.proofs.Arriving.{native_next}
use Rattle.flac_native.proofs.native.BitReaderContainer.next.Goals as goal

pub returns-clause-gives : goal.returns-clause-gives
returns-clause-gives g c = λ p at known same quiet room parts end come.
    native_next p c.args.self.now c.advance.new.reader (piece_of c.advance.new.track) c.advance.result known c.advance.ensures.counts (c.advance.ensures.steps p at known same quiet) room parts end come
