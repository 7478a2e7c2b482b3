-- The state after the frames of a stream, for the next one (RFC 9639, sections 9.1.1 and 9.1.5).
use Rattle.std.specs.Prelude.{ℕ, Bool}

-- the first block size, whether the frames are numbered by their first samples, the number of the next frame, and the
-- size of the last block
pub record Left : Type 0 where
  pub first_size : ℕ
  pub variable : Bool
  pub next : ℕ
  pub size : ℕ
