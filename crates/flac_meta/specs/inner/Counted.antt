-- For proofs of reading: bytes whose number was read before.
use Rattle.std.specs.Prelude.{ℕ, List}
use Rattle.flac_bits.specs.Layout.{Layout, ◌>>=◌, bits}
use Rattle.flac_bits.specs.Lists.{list_of}
use Rattle.flac_meta.specs.Fields.{needs}

-- `size` bytes, of a content of which `left` bytes are left
abbrev pub counted : ℕ → ℕ → Layout (List ℕ)
counted size left = needs size left >>= λ _. list_of size (bits 8)
