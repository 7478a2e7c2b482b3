-- What a call returns in C: a number, and the place of a refusal.
use Rattle.std.specs.Prelude.{◌≡◌, ◌⊎◌, ℕ, min, List, [], ◌++◌, length, take, drop, slice_index_or, ◌∷◌, Option, Some, None}
use Rattle.flac_bits.specs.declared.why.Why.{Why}
use Rattle.flac_bits.specs.Reasons.{number_of}
use Rattle.flac_native.specs.declared.fault.Place.{Place}
use Rattle.flac_native.specs.declared.fault.Place.TheVariants.{Marker, Block, Frame, Page, End}
use Rattle.flac_native.specs.Places.{kind_name}
use Rattle.flac_c.specs.declared.fault.FlacProvedFault.{FlacProvedFault}

-- which kind of place it is
abbrev pub kind_of : Place → ℕ
kind_of Marker = 1
kind_of (Block index) = 2
kind_of (Frame index) = 3
kind_of (Page index) = 4
kind_of End = 5

-- the index of the block, the frame or the page, counted from 0
abbrev pub index_of : Place → ℕ
index_of Marker = 0
index_of (Block index) = index
index_of (Frame index) = index
index_of (Page index) = index
index_of End = 0

-- the place and the reason of a call's error; all are 0 if there is none
abbrev pub in_c : Option (Place × Why) → FlacProvedFault
in_c None = record { number = 0; place = 0; index = 0 }
in_c (Some f) = record { number = number_of f.1; place = kind_of f.0; index = index_of f.0 }

-- the fault is that of an outcome of which this holds
abbrev pub IsAnswered : (Option (Place × Why) → Type 0) → FlacProvedFault → Type 0
IsAnswered holds fault = (outcome : Option (Place × Why)) × holds outcome × (fault ≡ in_c outcome)

-- a call returned 0, and this holds, or memory ran out (2)
abbrev pub IsDone : (status : ℕ) → Type 0 → Type 0
IsDone status holds = (status ≡ 2) ⊎ ((status ≡ 0) × holds)

-- as much of a list as there is room for, and the rest of the buffer unchanged
abbrev pub copied : {X : Type 0} → (list out : List X) → List X
copied list out = take (min (length list) (length out)) list ++ drop (min (length list) (length out)) out

-- this was written, and its length is reported
abbrev pub IsCopied : {X : Type 0} → (text old new : List X) → ℕ → Type 0
IsCopied text old new told = (new ≡ copied text old) × (told ≡ length text)

-- the names of the kinds of places, in the order of their numbers
abbrev pub place_texts : List (List ℕ)
place_texts = [] ∷ kind_name Marker ∷ kind_name (Block 0) ∷ kind_name (Frame 0) ∷ kind_name (Page 0) ∷ kind_name End ∷ []

-- the name of a kind of place, empty if there is no such kind
abbrev pub place_text : ℕ → List ℕ
place_text kind = slice_index_or place_texts kind []
