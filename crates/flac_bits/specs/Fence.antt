-- A fence: an item has at most n bytes, and no bit past them is read. (STREAMINFO has the largest frame size in bytes:
-- RFC 9639, section 8.2.)
use Rattle.std.specs.Prelude.{◌≡◌, ℕ, ◌+◌, ◌*◌, ◌<◌, ◌≤◌, Bool, cond, nat_le, List, ◌++◌, length, take, drop, Option, Some, None, Result, Ok, ◌⊎◌, ⊤}
use Rattle.flac_bits.specs.State.{Mark, Cursor, with_short}
use Rattle.flac_bits.specs.Layout.{Layout, Reason, run, and_then}
use Rattle.flac_bits.specs.Meaning.{Shows, IsCut}
use Rattle.flac_bits.specs.declared.why.Why.{Why}
use Rattle.flac_bits.specs.declared.why.Why.TheVariants.{FrameTooLong}

-- ---- what a fence means

-- the item has no more bytes than it may have, beyond the byte that was begun; None: there is no bound
abbrev pub InRoom : Option ℕ → Mark → List Bool → Type 0
InRoom None m front = ⊤
InRoom (Some n) m front = length front ≤ m.unread + 8 * n

-- fewer bits are left than the item may have
abbrev pub LeavesRoom : Option ℕ → Mark → List Bool → Type 0
LeavesRoom None m left = ⊤
LeavesRoom (Some n) m left = length left < m.unread + 8 * n

-- the item does not end within the bytes that it may have, and all of these are there
abbrev pub FillsRoom : {A : Type 0} → Option ℕ → Layout A → Mark → List Bool → Type 0
FillsRoom None l m left = ⊥
FillsRoom (Some n) l m left = (front : List Bool) × (rest : List Bool) × (left ≡ front ++ rest) × (length front ≡ m.unread + 8 * n) × IsCut l m front

-- there is no item: a prefix within the room shows this reason, or the input ends inside the item, or the item does not
-- end within its room
abbrev pub StopsIn : {A : Type 0} → Option ℕ → Layout A → Mark → List Bool → Why → Type 0
StopsIn room l m left why =
    ((front : List Bool) × (rest : List Bool) × (left ≡ front ++ rest) × Shows l m front why × InRoom room m front)
    ⊎ (((why ≡ m.short) × IsCut l m left × LeavesRoom room m left)
    ⊎ ((why ≡ FrameTooLong) × FillsRoom room l m left))

-- ---- and how it is read

-- only the rest of the byte that was begun and the next n bytes are seen; if all of them are there, a field that needs
-- more bits makes the frame too long
abbrev pub fenced : ℕ → Cursor → Cursor
fenced n c = record {
  left = take (c.mark.unread + 8 * n) c.left;
  mark = with_short (cond (nat_le (c.mark.unread + 8 * n) (length c.left)) FrameTooLong c.mark.short) c.mark;
}

-- the position d after the fence that was set at c is lifted
abbrev pub unfenced : ℕ → Cursor → Cursor → Cursor
unfenced n c d = record {
  left = d.left ++ drop (c.mark.unread + 8 * n) c.left;
  mark = with_short c.mark.short d.mark;
}

-- what reading a layout within a room gives
abbrev pub read_in : {A : Type 0} → Option ℕ → Layout A → Cursor → Result (A × Cursor) Reason
read_in None l c = run l c
read_in (Some n) l c = and_then (run l (fenced n c)) (λ x d. Ok (x, unfenced n c d))
