-- The state of a bit reader.
use Rattle.std.specs.Prelude.{ℕ, ◌≡◌, ◌<◌, ◌++◌, ◌+◌, ◌-◌, ◌*◌, ◌%◌, ◌^◌, min, Bool, true, false, cond, nat_eq, List, [], ◌∷◌, bit_xor, Option, Some, None}
use Rattle.std.specs.Int.{bit_at}
use Rattle.std.specs.Borrow.{GName}
use Rattle.flac_bits.specs.declared.why.Why.{Why}
use Rattle.flac_bits.specs.declared.why.Why.TheVariants.{Read, Truncated}

-- the remainder by x^w + g after one more bit
abbrev pub feed : ℕ → ℕ → ℕ → Bool → ℕ
feed w g check true = cond (nat_eq (bit_at check (w - 1)) 1) (2 * check % 2 ^ w) (bit_xor (2 * check % 2 ^ w) g)
feed w g check false = cond (nat_eq (bit_at check (w - 1)) 1) (bit_xor (2 * check % 2 ^ w) g) (2 * check % 2 ^ w)

-- What a reader knows of the bits that were read: how many bits of the byte that was begun are still to come, how many
-- bytes were begun (a count that stops at 2^64 - 1), and the remainders of the bits since the checks began.
pub record Mark : Type 0 where
  pub unread : ℕ
  pub bytes : ℕ
  pub check8 : ℕ
  pub check16 : ℕ
  -- the reason if a field needs more bits than are left: the end of the input, or of what may be read of it
  pub short : Why

-- the mark after one more bit, of the byte that was begun or of the next
abbrev pub step : Bool → Mark → Mark
step b m = record {
  unread = cond (nat_eq m.unread 0) 7 (m.unread - 1);
  bytes = cond (nat_eq m.unread 0) (min (m.bytes + 1) (2 ^ 64 - 1)) m.bytes;
  check8 = feed 8 7 m.check8 b;
  check16 = feed 16 32773 m.check16 b;
  short = m.short;
}

-- the mark after these bits
abbrev pub past : List Bool → Mark → Mark
past [] m = m
past (b ∷ bs) m = past bs (step b m)

-- the bits still to come, and what is known of those before
pub record Cursor : Type 0 where
  pub left : List Bool
  pub mark : Mark

-- these bits were read
abbrev pub Consumes : List Bool → Cursor → Cursor → Type 0
Consumes text old new = (old.left ≡ text ++ new.left) × (new.mark ≡ past text old.mark)

-- What follows the bytes to come. A source may be one part of several, as a packet of an Ogg stream is; then the parts
-- after it come in pieces: `pieces` has the length of each, and `bytes` the bytes of all of them.
pub record After : Type 0 where
  -- the error that comes in place of the end: a place and a reason of the source's own
  pub fails : Option (ℕ × Why)
  -- the part is not whole
  pub cut : Bool
  pub pieces : List ℕ
  pub bytes : List ℕ
  -- the error that ends early a part which goes on after these
  pub fault : Option (ℕ × Why)
  -- the error if no part is left, in place of the end of all parts
  pub stop : Option (ℕ × Why)
  -- the bits past a fence, which are not read
  pub fenced : List Bool

-- after these bytes is the end
abbrev pub the_end : After
the_end = record { fails = None; cut = false; pieces = []; bytes = []; fault = None; stop = None; fenced = [] }

-- the same without a fence
abbrev pub without_fence : After → After
without_fence b = record b { fenced = [] }

-- the reason if a field needs more than is left: the input ends, or the error comes that is foretold
abbrev pub short_of : Option (ℕ × Why) → Why
short_of None = Truncated
short_of (Some f) = Read

-- a mark whose bits run short for another reason
abbrev pub with_short : Why → Mark → Mark
with_short why m = record m { short = why }

-- the mark at the start of a writer, and of a reader whose input ends
abbrev pub first_mark : Mark
first_mark = record { unread = 0; bytes = 0; check8 = 0; check16 = 0; short = Truncated }

-- a mark at which the checks begin anew, as they do at a whole byte
abbrev pub fresh : Mark → Mark
fresh m = cond (nat_eq m.unread 0) (record m { check8 = 0; check16 = 0 }) m

-- a count of errors rose, unless it is at its largest value, 2^64 - 1
abbrev pub Rises : ℕ → ℕ → Type 0
Rises old new = old < 2 ^ 64 - 1 → old < new

-- the state of a reader
pub record State : Type 0 where
  -- whether the bytes of the source are known
  pub known : Bool
  -- the number of errors that the source returned and that were not foretold
  pub errors : ℕ
  -- the number of all errors that it returned
  pub raised : ℕ
  -- what follows the bytes to come
  pub after : After
  -- the most bits that can still come
  pub most : ℕ
  -- how many bits were pulled from the source and not read yet, those past a fence too
  pub held : ℕ
  -- the references that the source goes through
  pub names : List GName
  -- the position of the reader, if the bytes are known
  pub cursor : Cursor

-- the same, but the checks begin anew
abbrev pub started : State → State
started s = record s { cursor = record s.cursor { mark = fresh s.cursor.mark } }
