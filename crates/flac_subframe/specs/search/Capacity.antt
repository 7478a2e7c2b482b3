-- What working arrays have room for.
use Rattle.std.specs.Prelude.{ℕ}

-- the largest block in samples, and the largest partition order
pub record Capacity : Type 0 where
  pub block : ℕ
  pub most : ℕ
