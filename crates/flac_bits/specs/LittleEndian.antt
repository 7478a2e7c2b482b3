-- Numbers whose lowest byte comes first (RFC 9639, section 8.6; RFC 3533, section 6).
use Rattle.std.specs.Prelude.{ℕ, ◌+◌, ◌*◌, ◌/◌, ◌%◌, Bool, List, [], ◌∷◌}
use Rattle.flac_bits.specs.Bits.{unsigned}
use Rattle.flac_bits.specs.Forms.{joined}
use Rattle.flac_bits.specs.Layout.{Layout, done, bits, ◌>>=◌}

unfoldable pub little_32 : Layout ℕ
little_32 = do
  a ← bits 8
  b ← bits 8
  c ← bits 8
  d ← bits 8
  done (a + 256 * b + 65536 * c + 16777216 * d)

unfoldable pub little_64 : Layout ℕ
little_64 = do
  low ← little_32
  high ← little_32
  done (low + 4294967296 * high)

-- a number of 32 bits as its bytes
unfoldable pub little_bits : ℕ → List Bool
little_bits v = joined (unsigned 8 (v % 256) ∷ unsigned 8 (v / 256 % 256) ∷ unsigned 8 (v / 65536 % 256) ∷ unsigned 8 (v / 16777216 % 256) ∷ [])
