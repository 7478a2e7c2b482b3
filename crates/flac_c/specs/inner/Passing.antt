-- For proofs of passing frames: frames that are passed one after another.
use Rattle.std.specs.Prelude.{ℕ, List, ◌++◌, take, drop, map}
use Rattle.flac_bits.specs.declared.why.Why.{Why}
use Rattle.flac_header.specs.declared.subset.Profile.{Profile}
use Rattle.flac_native.specs.Stream.{framed}
use Rattle.flac_c.specs.Cursors.{NoFrame, StandsIn}
use Rattle.flac_c.specs.Passing.{PassesFrames, OfFrames}
use Rattle.flac_c.specs.declared.cursor.FlacProvedCursor.{FlacProvedCursor}

-- after some frames there is none at the cursor, for this reason
abbrev pub StopsOn : Profile → List ℕ → (sample : ℕ) → (old new : FlacProvedCursor) → Why → Type 0
StopsOn profile bytes sample old new why = (n : ℕ) × PassesFrames profile bytes sample n old new × NoFrame profile bytes new why

-- n frames were passed, which are the next ones of each stream that the cursor is in
pub record Passing (profile : Profile) (bytes : List ℕ) (sample n : ℕ) (old new : FlacProvedCursor) : Type 0 where
  pub frames : PassesFrames profile bytes sample n old new
  pub stands : OfFrames profile bytes old (λ front frames. StandsIn profile bytes new (front ++ map framed (take n frames)) (map framed (drop n frames)))
