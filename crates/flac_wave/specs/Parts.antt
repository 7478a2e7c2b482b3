-- A part of the bytes of a source: as many of them as there may be, or all.
use Rattle.std.specs.Prelude.{ℕ, ◌-◌, min, Bool, true, false, cond, nat_lt, List, [], ◌∷◌, length, take, drop, Option, Some, None}
use Rattle.flac_bits.specs.State.{After}

-- the bytes of the part; `None` is all
abbrev pub given : (size : Option ℕ) → List ℕ → List ℕ
given None bytes = bytes
given (Some n) bytes = take n bytes

-- the bytes after it
abbrev pub beyond : (size : Option ℕ) → List ℕ → List ℕ
beyond None bytes = []
beyond (Some n) bytes = drop n bytes

-- the bytes end inside the part
abbrev pub is_cut : (size : Option ℕ) → List ℕ → Bool
is_cut None bytes = false
is_cut (Some n) bytes = nat_lt (length bytes) n

-- how many of `room` bytes belong to the part
abbrev pub room_in : (size : Option ℕ) → (room : ℕ) → ℕ
room_in None room = room
room_in (Some n) room = min n room

-- the size after n of its bytes
abbrev pub size_after : (size : Option ℕ) → (n : ℕ) → Option ℕ
size_after None n = None
size_after (Some k) n = Some (k - n)

-- what comes after the part: the end of it, and the bytes beyond
abbrev pub end_of : (size : Option ℕ) → List ℕ → After
end_of size bytes = record { fails = None; cut = is_cut size bytes; pieces = length (beyond size bytes) ∷ []; bytes = beyond size bytes; fault = None; stop = None; fenced = [] }

-- an error that is counted beside those of the source
abbrev pub one_if : Bool → ℕ
one_if failed = cond failed 1 0
