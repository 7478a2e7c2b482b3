-- For proofs of reading bytes: whether the checks go on over them, or begin anew.
use Rattle.std.specs.Prelude.{◌≡◌, ℕ, Bool, true, false, List, ◌++◌}
use Rattle.flac_bits.specs.Bits.{bits_of}
use Rattle.flac_bits.specs.State.{Mark, Cursor, State, past, fresh}

-- the checks go on, or begin anew
abbrev pub marked : Bool → Mark → Mark
marked true m = m
marked false m = fresh m

-- these bits were read; the checks go on over them, or begin anew after them
abbrev pub Fills : Bool → List Bool → Cursor → Cursor → Type 0
Fills checked text old new = (old.left ≡ text ++ new.left) × (new.mark ≡ marked checked (past text old.mark))

-- the same state, its checks begun anew unless they go on
abbrev pub started_unless : Bool → State → State
started_unless checked s = record s { cursor = record s.cursor { mark = marked checked s.cursor.mark } }

-- the same of bytes, if the bytes of the source are known
abbrev pub FillsBytes : Bool → List ℕ → State → State → Type 0
FillsBytes checked bytes old new = old.known ≡ true → Fills checked (bits_of bytes) old.cursor new.cursor
