-- Fields of a block, by the number of bytes that are left of its content.
use Rattle.std.specs.Prelude.{ℕ, zero, suc, ◌-◌, ◌*◌, Bool, not, List, [], ◌∷◌, nat_eq, nat_lt, ⊤}
use Rattle.flac_bits.specs.Layout.{Layout, done, judge, refuse, ◌>>=◌, bits, choose}
use Rattle.flac_bits.specs.Lists.{list_of}
use Rattle.flac_bits.specs.declared.why.Why.TheVariants.{BlockLength, CueSheet}
use Rattle.flac_meta.specs.Padding.{skipped}

-- the last bytes of a content that has too few of them
abbrev pub ends_short : {A : Type 0} → ℕ → Layout A
ends_short left = skipped (8 * left) >>= λ _. refuse BlockLength

-- Fields that begin with `size` bytes of fixed size. If the content has fewer left, it is refused at its last byte.
abbrev pub part : {A : Type 0} → ℕ → ℕ → Layout A → Layout A
part size left fields = choose (nat_lt left size) (ends_short left) fields

-- at the end of a length or a count: what it announces needs `size` bytes
abbrev pub needs : ℕ → ℕ → Layout ⊤
needs size left = judge (record { broken = nat_lt left size; why = BlockLength } ∷ [])

-- after the last field nothing is left
abbrev pub nothing_left : ℕ → Layout ⊤
nothing_left left = judge (record { broken = not (nat_eq left 0); why = BlockLength } ∷ [])

-- bytes after their number
unfoldable pub sized : Layout ℕ → ℕ → Layout (List ℕ)
sized number left = part 4 left (do
  size ← number
  _ ← needs size (left - 4)
  list_of size (bits 8))

-- a number of 32 bits, its highest byte first
unfoldable pub number_32 : ℕ → Layout ℕ
number_32 left = part 4 left (bits 32)

-- n items one after another, each in the state after those before it, and what is checked after the last
unfoldable pub in_turn : {S A : Type 0} → (S → Layout A) → (S → A → S) → (S → Layout ⊤) → ℕ → S → Layout (List A)
in_turn item next after_last zero s = do
  _ ← after_last s
  done []
in_turn item next after_last (suc n) s = do
  x ← item s
  xs ← in_turn item next after_last n (next s x)
  done (x ∷ xs)

-- whether n bits are zeros
unfoldable pub zeros : ℕ → Layout Bool
zeros n = do
  v ← bits n
  done (nat_eq v 0)

-- reserved bits of a cue sheet are zeros
unfoldable pub reserved : ℕ → Layout ⊤
reserved n = do
  clear ← zeros n
  judge (record { broken = not clear; why = CueSheet } ∷ [])
