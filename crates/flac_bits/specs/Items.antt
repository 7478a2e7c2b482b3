-- Items one after another, each spelled by its layout in the state after the items before it.
use Rattle.std.specs.Prelude.{◌≡◌, ◌&&◌, ℕ, Bool, true, false, List, [], ◌∷◌, ◌++◌, Option, ◌⊎◌}
use Rattle.flac_bits.specs.Bits.{is_nil}
use Rattle.flac_bits.specs.State.{Mark, Cursor, past, fresh}
use Rattle.flac_bits.specs.Layout.{Layout, Rule}
use Rattle.flac_bits.specs.Meaning.{Spells, AllKept, BreaksFirst}
use Rattle.flac_bits.specs.Fence.{InRoom, StopsIn}
use Rattle.flac_bits.specs.declared.why.Why.{Why}

-- In each state: the layout of the next item, its largest number of bytes (None: there is no bound), the state after
-- it, whether the input may end, the rules of the end, and the place of the next item; and the place of the end.
pub record Grammar (S I P : Type 0) : Type 1 where
  pub layout : S → Layout I
  pub room : S → Option ℕ
  pub next : S → I → S
  pub may_end : S → Bool
  pub at_end : S → List Rule
  pub place : S → P
  pub end_place : P

-- the state after these items
abbrev pub state_after : {S I P : Type 0} → Grammar S I P → S → List I → S
state_after g s [] = s
state_after g s (x ∷ xs) = state_after g (g.next s x) xs

-- the bits are these items, spelled one after another, each within its room; at each the checks begin anew
abbrev pub Joined : {S I P : Type 0} → Grammar S I P → S → Mark → List I → List Bool → Type 0
Joined g s m [] text = text ≡ []
Joined g s m (x ∷ xs) text =
    (front : List Bool) × (rest : List Bool) × (text ≡ front ++ rest) × Spells (g.layout s) (fresh m) front x × InRoom (g.room s) (fresh m) front × Joined g (g.next s x) (past front (fresh m)) xs rest

-- the mark after these items
abbrev pub mark_after : {S I P : Type 0} (g : Grammar S I P) (s : S) (m : Mark) (items : List I) (text : List Bool) → Joined g s m items text → Mark
mark_after g s m [] text j = m
mark_after g s m (x ∷ xs) text j = mark_after g (g.next s x) (past j.0 (fresh m)) xs j.1 j.5

-- the whole input is these items, may end after them, and keeps the rules of the end
pub record Stream {S I P : Type 0} (g : Grammar S I P) (s : S) (m : Mark) (items : List I) (text : List Bool) : Type 0 where
  pub spelled : Joined g s m items text
  pub ends : g.may_end (state_after g s items) ≡ true
  pub kept : AllKept (g.at_end (state_after g s items))

-- there is no next item: it is not spelled within its room; or the input is over, and a rule of the end is broken
abbrev pub StopsAt : {S I P : Type 0} → Grammar S I P → S → Mark → List Bool → P → Why → Type 0
StopsAt g s m left at why =
    (((g.may_end s && is_nil left) ≡ false) × (at ≡ g.place s) × StopsIn (g.room s) (g.layout s) (fresh m) left why)
    ⊎ (((g.may_end s && is_nil left) ≡ true) × (at ≡ g.end_place) × BreaksFirst (g.at_end s) why)

-- after these valid items the input is refused, at this place and for this reason
pub record Refused {S I P : Type 0} (g : Grammar S I P) (s : S) (m : Mark) (items : List I) (text : List Bool) (at : P) (why : Why) : Type 0 where
  pub front : List Bool
  pub left : List Bool
  pub stands : text ≡ front ++ left
  pub spelled : Joined g s m items front
  pub stops : StopsAt g (state_after g s items) (mark_after g s m items front spelled) left at why

-- ---- what one step of a reading gives

pub data Step (I P : Type 0) : Type 0 where
  item : I → Cursor → Step I P
  over : Step I P
  refused : P → Why → Step I P
