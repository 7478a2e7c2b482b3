-- For proofs of the bit reader: what its store holds while bytes are pulled and fields are taken.
use Rattle.std.specs.Prelude.{◌≡◌, ℕ, ℤ, ◌-◌, Bool, List, ◌++◌, length, take, drop, min, get_or, ◌+◌, [], ◌∷◌, Option, Some, None}
use Rattle.flac_bits.specs.Bits.{bits_of}
use Rattle.flac_bits.specs.State.{past, first_mark}
use Rattle.flac_bits.specs.inner.Stretches.{IsRead}
use Rattle.flac_bits.specs.Store.{Fence, Store, allowed, forbidden, reached, left_of, fenced_of}

-- these bits were taken off the word
abbrev pub Takes : List Bool → Store → Store → Type 0
Takes text old new = (old.word ≡ text ++ new.word) × (new.bytes ≡ old.bytes) × (new.mark ≡ past text old.mark) × (new.fence ≡ old.fence)

-- these bits were taken, off the word or off the bytes after it
abbrev pub Passes : List Bool → Store → Store → Type 0
Passes text old new = (old.word ++ bits_of old.bytes ≡ text ++ (new.word ++ bits_of new.bytes)) × (new.mark ≡ past text old.mark) × (new.fence ≡ old.fence)

-- the same bits are held
abbrev pub HoldsSame : Store → Store → Type 0
HoldsSame old new = (new.word ++ bits_of new.bytes ≡ old.word ++ bits_of old.bytes) × (new.mark ≡ old.mark) × (new.fence ≡ old.fence)

-- the four bytes from an index on
abbrev pub four_at : List ℕ → ℕ → List ℕ
four_at bytes place = get_or bytes place 0 ∷ get_or bytes (place + 1) 0 ∷ get_or bytes (place + 2) 0 ∷ get_or bytes (place + 3) 0 ∷ []

-- ---- with a fence, of bytes that are still to come

-- how many of n bytes that came are before it, and how many may still come
abbrev pub seen : Option ℕ → ℕ → ℕ
seen None n = n
seen (Some room) n = min n room

abbrev pub room_after : Option ℕ → ℕ → Option ℕ
room_after None n = None
room_after (Some room) n = Some (room - n)

-- ---- the state of a store and of the source that fills it

-- the same bits are to come, before a fence and past it
pub record SameBits (old : Store) (xs : List ℕ) (new : Store) (ys : List ℕ) : Type 0 where
  pub left : left_of new ys ≡ left_of old xs
  pub fenced : fenced_of new ys ≡ fenced_of old xs
  pub reached : reached new.fence.room ys ≡ reached old.fence.room xs

-- bytes came, up to the fence and past it
pub record Came (fence : Fence) (xs bytes : List ℕ) (new : Fence) (ys : List ℕ) : Type 0 where
  pub left : allowed fence.room xs ≡ bytes ++ allowed new.room ys
  pub fenced : fence.hidden ++ forbidden fence.room xs ≡ new.hidden ++ forbidden new.room ys
  pub reached : reached new.room ys ≡ reached fence.room xs

-- ---- fences that are removed and set

-- no fence, and the fence after the first n of the bytes held and of those that come after them
abbrev pub no_fence : Fence
no_fence = record { room = None; hidden = [] }

abbrev pub fence_after : ℕ → List ℕ → Fence
fence_after n held = record { room = Some (n - length held); hidden = drop n held }

-- the bits that are held, those past a fence too
abbrev pub all_held : Store → List Bool
all_held s = s.word ++ bits_of (s.bytes ++ s.fence.hidden)

-- a store that holds nothing
abbrev pub empty_store : Store
empty_store = record { word = []; bytes = []; mark = first_mark; fence = no_fence }

-- the bytes past the fence are held after those before it
abbrev pub Lifts : Store → Store → Type 0
Lifts old new = (new.word ≡ old.word) × (new.bytes ≡ old.bytes ++ old.fence.hidden) × (new.mark ≡ old.mark) × (new.fence ≡ no_fence)

-- the bytes to come before a fence, those that are held past it, and those to come past it
abbrev pub ComesWhole : Fence → Type 0
ComesWhole fence = (coming : List ℕ) → allowed fence.room coming ++ (fence.hidden ++ forbidden fence.room coming) ≡ fence.hidden ++ coming

-- values were read, of bits that were held (RFC 9639, section 9.2.7.3)
abbrev pub PassesValues : ℕ → Store → Store → List ℤ → ℕ → List ℤ → ℕ → Type 0
PassesValues k old new values from values' to = (text : List Bool) × Passes text old new × IsRead k text values from values' to

-- the first n bytes that are held stay, and a fence is after them
abbrev pub Closes : ℕ → List ℕ → Store → Type 0
Closes n held new = (new.bytes ≡ take n held) × (new.fence ≡ fence_after n held)

-- the same of a store that has no fence
abbrev pub ClosesAt : ℕ → Store → Store → Type 0
ClosesAt n old new = (new.word ≡ old.word) × (new.mark ≡ old.mark) × Closes n old.bytes new

-- and of any store, whose word gives whole bytes back
abbrev pub Fences : ℕ → Store → Store → Type 0
Fences n old new = (held : List ℕ) × (new.word ++ bits_of held ≡ all_held old) × Closes n held new
