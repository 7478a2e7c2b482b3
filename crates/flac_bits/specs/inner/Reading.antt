-- For proofs of loops that read: what is still to be read.
use Rattle.std.specs.Prelude.{◌≡◌, ◌≤◌, ◌<◌, ◌+◌, ◌-◌, ℕ, ℤ, pos, true, false, List, ◌++◌, length, take, replicate, get_or, Result, Ok, ◌^◌, Some}
use Rattle.flac_bits.specs.State.{State, Cursor}
use Rattle.flac_bits.specs.Layout.{Layout, Reason, run, and_then, number_at, zeros_at, zeros_from}
use Rattle.flac_bits.specs.Lists.{list_of, after}
use Rattle.flac_bits.specs.Reading.{HeldEnds}
use Rattle.flac_bits.specs.Rice.{rice_value, IsResidual}

-- a loop has read without a refusal so far, and what it has still to read gives what the whole gives
pub record Goes {Y : Type 0} (old now : State) (rest whole : Result Y Reason) : Type 0 where
  pub known : old.known ≡ true → now.known ≡ true
  pub errors : now.errors ≡ old.errors
  pub raised : now.raised ≡ old.raised
  pub after : old.known ≡ true → now.after ≡ old.after
  pub names : now.names ≡ old.names
  pub reads : old.known ≡ true → rest ≡ whole

-- A loop that reads pulled only for what it read: if the bits that are held end inside the rest, those that were held
-- before it end inside the whole.
pub record Draws (old now : State) (rest whole : Type 0) : Type 0 where
  pub held : old.known ≡ true → old.held + length now.cursor.left ≤ now.held + length old.cursor.left
  pub ends : old.known ≡ true → rest → whole

-- The source was not asked: what is known of it stays.
abbrev pub SameSource : State → State → Type 0
SameSource old new = (new.known ≡ old.known) × (new.errors ≡ old.errors) × (new.raised ≡ old.raised) × (new.after ≡ old.after) × (new.names ≡ old.names)

-- what was read was held
abbrev pub TookHeld : State → State → Type 0
TookHeld old new = old.held + length new.cursor.left ≡ new.held + length old.cursor.left

-- the word had these n bits, which are this number
abbrev pub TookBits : (n v : ℕ) → State → State → Type 0
TookBits n v old new = (v < 2 ^ n) × (new.most + n ≡ old.most) × SameSource old new × (number_at n old.cursor ≡ Ok (v, new.cursor))

-- the word had these q zeros, of which there are at most `limit`, and the one after them
abbrev pub TookZeros : (limit q : ℕ) → State → State → Type 0
TookZeros limit q old new = (q ≤ limit) × (new.most ≤ old.most) × SameSource old new × (zeros_at limit old.cursor ≡ Ok (Some q, new.cursor))

-- the word was these q zeros, which were taken
abbrev pub SkippedZeros : (q : ℕ) → State → State → Type 0
SkippedZeros q old new = (new.held + q ≡ old.held) × (new.most ≤ old.most) × SameSource old new × (old.cursor.left ≡ replicate q false ++ new.cursor.left)
    × ((room count : ℕ) → q ≤ room → zeros_from room count old.cursor ≡ zeros_from (room - q) (count + q) new.cursor)

-- The word had what was read, a value, with the position after it.
abbrev pub FromWord : {X : Type 0} (old new : State) → Result (X × Cursor) Reason → X → Type 0
FromWord old new answer x = (new.most ≤ old.most) × SameSource old new × (answer ≡ Ok (x, new.cursor))

-- n values under one Rice parameter, one after another
abbrev pub rice_values : (k n : ℕ) → Layout (List ℤ)
rice_values k n = list_of n (rice_value k)

-- the values from an index on are read from a position, after those before it
abbrev pub values_from : (k n : ℕ) → List ℤ → ℕ → Cursor → Result (List ℤ × Cursor) Reason
values_from k n values i at = and_then (run (rice_values k (n - i)) at) (after (take i values))

-- the values from one index on at one position are those from a later index on at a later position
abbrev pub LeavesValues : (k n : ℕ) → (old : List ℤ) → (from : ℕ) → Cursor → (new : List ℤ) → (to : ℕ) → Cursor → Type 0
LeavesValues k n old from at new to later = values_from k n old from at ≡ values_from k n new to later

-- a loop that reads n values pulled only for those from one index up to another
abbrev pub DrawsValues : (k n from to : ℕ) → State → State → Type 0
DrawsValues k n from to old new = Draws old new (HeldEnds (rice_values k (n - to)) new) (HeldEnds (rice_values k (n - from)) old)

-- the values before an index are residual values
abbrev pub AreResiduals : List ℤ → ℕ → Type 0
AreResiduals values n = (j : ℕ) → j < n → IsResidual (get_or values j (pos 0))
