-- n values of one layout, one after another.
use Rattle.std.specs.Prelude.{ℕ, zero, suc, List, [], ◌∷◌, ◌++◌, Result, Ok}
use Rattle.flac_bits.specs.State.{Cursor}
use Rattle.flac_bits.specs.Layout.{Layout, done, ◌>>=◌, Reason}

unfoldable pub list_of : {A : Type 0} → ℕ → Layout A → Layout (List A)
list_of zero l = done []
list_of (suc n) l = do
  x ← l
  xs ← list_of n l
  done (x ∷ xs)

-- the values, after those that were read before
unfoldable pub after : {A : Type 0} → List A → List A → Cursor → Result (List A × Cursor) Reason
after front xs c = Ok (front ++ xs, c)
