-- Padding (RFC 9639, section 8.3).
use Rattle.std.specs.Prelude.{ℕ, ⊤}
use Rattle.flac_bits.specs.Layout.{Layout, done, ◌>>=◌, bits}

-- n bits of any value
unfoldable pub skipped : ℕ → Layout ⊤
skipped n = do
  _ ← bits n
  done tt
