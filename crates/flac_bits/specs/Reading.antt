-- What a reading call does.
use Rattle.std.specs.Prelude.{◌≡◌, ◌≢◌, ◌<◌, ◌≤◌, ◌+◌, ◌*◌, ℕ, ℤ, [], Bool, true, false, List, ◌++◌, length, take, Result, Ok, Err, OnOk, IfOk, IfErr, IsOkAnd, IsErrAnd, MatchResult, ◌⊎◌}
use Rattle.flac_bits.specs.State.{Cursor, State, Rises, Consumes}
use Rattle.flac_bits.specs.Reasons.{of_output}
use Rattle.flac_bits.specs.Layout.{Layout, Reason, because, run, bits}
use Rattle.flac_bits.specs.Lists.{list_of}
use Rattle.flac_bits.specs.Rice.{rice_value}
use Rattle.flac_bits.specs.Signed.{signed_field}
use Rattle.flac_bits.specs.Bits.{bits_of, is_nil}
use Rattle.flac_bits.specs.Meaning.{Spells, Shows, IsCut}
use Rattle.flac_bits.specs.declared.why.Why.{Why}
use Rattle.flac_bits.specs.declared.why.Why.TheVariants.{Memory, Read}

-- Errors of the source are counted: a call that returns a value met none, and one that returns Read met one.
-- No reading call returns an error of the output. What comes after the bytes still to come stays, and so do the
-- references that the source goes through.
abbrev pub Counts : {X : Type 0} → State → State → Result X Why → Type 0
Counts old new (Ok x) = (old.known ≡ true → new.known ≡ true) × (new.errors ≡ old.errors) × (new.raised ≡ old.raised) × (old.known ≡ true → new.after ≡ old.after) × (new.names ≡ old.names)
Counts old new (Err e) = (old.errors ≤ new.errors) × (old.known ≡ true → new.errors ≡ old.errors → new.after ≡ old.after) × (old.known ≡ true → e ≡ Read → old.raised < new.raised) × (new.names ≡ old.names) × (e ≡ Read → Rises old.raised new.raised) × (of_output e ≡ false)

-- The source is asked only for bits that are needed: a call that reads n bits returns an error of the source, foretold
-- or not, only if fewer than n were held; and after a value all that were held are held but these.
abbrev pub PullsFor : {X : Type 0} → ℕ → State → State → Result X Why → Type 0
PullsFor n old new (Ok x) = old.held ≤ new.held + n
PullsFor n old new (Err e) = e ≡ Read → old.held < n

-- the bits that are held, which come first, are valid fields of a layout and end inside it
abbrev pub HeldEnds : {Y : Type 0} → Layout Y → State → Type 0
HeldEnds layout s = IsCut layout s.cursor.mark (take s.held s.cursor.left)

-- The same of a call that reads a layout, if the bytes of the source are known. After a value no more are missing of
-- those that were held than the value has bits.
abbrev pub PullsInside : {X Y : Type 0} → Layout Y → State → State → Result X Why → Type 0
PullsInside layout old new (Ok x) = old.known ≡ true → old.held + length new.cursor.left ≤ new.held + length old.cursor.left
PullsInside layout old new (Err e) = e ≡ Read → old.known ≡ true → HeldEnds layout old

-- What was returned, seen by view, and the position of the reader after the call are what is read.
abbrev pub Answers : {X Y : Type 0} → (X → Y) → Result (Y × Cursor) Reason → Cursor → Result X Why → Type 0
Answers view read at (Ok x) = read ≡ Ok (view x, at)
Answers view read at (Err e) = read ≡ Err (because e)

-- This holds if the bytes of the source are known and it returned no error in the call.
abbrev pub Gives : {X Y : Type 0} → (X → Y) → Result (Y × Cursor) Reason → State → State → Result X Why → Type 0
Gives view read old new result = old.known ≡ true → new.errors ≡ old.errors → Answers view read new.cursor result

abbrev pub Reads : {X Y : Type 0} → (X → Y) → Layout Y → State → State → Result X Why → Type 0
Reads view layout old new result = Gives view (run layout old.cursor) old new result

-- the same unless memory ran out
abbrev pub ReadsGivenMemory : {X Y : Type 0} → (X → Y) → Layout Y → State → State → Result X Why → Type 0
ReadsGivenMemory view layout old new result = (result ≡ Err Memory → ⊥) → Reads view layout old new result

-- What each call that reads a layout promises: a value takes at least this number of the bits that can still come,
-- errors of the source are counted, and the call's own promise holds of the reader before and after it and of the
-- result, such as Reads of a layout.
pub record Call {X : Type 0} (least : ℕ) (says : State → State → Result X Why → Type 0) (old new : State) (result : Result X Why) : Type 0 where
  pub spends : OnOk result (new.most + least ≤ old.most)
  pub counts : Counts old new result
  pub reads : says old new result

-- The same of a call that allocates nothing: memory never runs out.
pub record CallInPlace {X : Type 0} (least : ℕ) (says : State → State → Result X Why → Type 0) (old new : State) (result : Result X Why) : Type 0 where
  pub spends : OnOk result (new.most + least ≤ old.most)
  pub counts : Counts old new result
  pub memory : IfErr result (λ e. e ≢ Memory)
  pub reads : says old new result

-- What was returned follows from the meaning of the layout alone: a value is the one that a prefix of the input spells,
-- and the reader is after exactly these bits; a reason is one that a prefix of the input shows, or the input ends
-- inside.
pub record Decodes {X Y : Type 0} (view : X → Y) (layout : Layout Y) (old new : Cursor) (result : Result X Why) : Type 0 where
  pub found : IfOk result (λ x. (text : List Bool) × Consumes text old new × Spells layout old.mark text (view x))
  pub only : (text rest : List Bool) (y : Y) → old.left ≡ text ++ rest → Spells layout old.mark text y → IsOkAnd result (λ x. (view x ≡ y) × (new.left ≡ rest))
  pub fault : IfErr result (λ e. ((front : List Bool) × (rest : List Bool) × (old.left ≡ front ++ rest) × Shows layout old.mark front e) ⊎ ((e ≡ old.mark.short) × IsCut layout old.mark old.left))
  pub shown : (front rest : List Bool) (why : Why) → old.left ≡ front ++ rest → Shows layout old.mark front why → IsErrAnd result (λ e. e ≡ why)
  pub cut : IsCut layout old.mark old.left → IsErrAnd result (λ e. e ≡ old.mark.short)

abbrev pub Means : {X Y : Type 0} → (X → Y) → Layout Y → State → State → Result X Why → Type 0
Means view layout old new result = old.known ≡ true → new.errors ≡ old.errors → Decodes view layout old.cursor new.cursor result

-- the same unless memory ran out
abbrev pub MeansGivenMemory : {X Y : Type 0} → (X → Y) → Layout Y → State → State → Result X Why → Type 0
MeansGivenMemory view layout old new result = (result ≡ Err Memory → ⊥) → Means view layout old new result

-- ---- calls that read a slice of values

-- what was read are n bytes
abbrev pub ReadsBytes : {X : Type 0} → ℕ → List ℕ → State → State → Result X Why → Type 0
ReadsBytes n bytes old new result = Reads (λ _. bytes) (list_of n (bits 8)) old new result

-- what was read are m residual values under the Rice parameter k (RFC 9639, section 9.2.7.2)
abbrev pub ReadsRice : {X : Type 0} → (k m : ℕ) → List ℤ → State → State → Result X Why → Type 0
ReadsRice k m values old new result = Reads (λ _. values) (list_of m (rice_value k)) old new result

-- what was read are m signed numbers of n bits (section 5)
abbrev pub ReadsSigned : {X : Type 0} → (n m : ℕ) → List ℤ → State → State → Result X Why → Type 0
ReadsSigned n m values old new result = Reads (λ _. values) (list_of m (signed_field n)) old new result

-- no bit is left, and no error comes in place of the end
abbrev pub IsAtEnd : Cursor → Type 0
IsAtEnd c = (c.left ≡ []) × (c.mark.short ≡ Read → ⊥)

-- the error is one of the source; if the source did not count it, it is the one that comes in place of the end, and of
-- the bits that were left P holds
abbrev pub IsForetold : Type 0 → State → State → Why → Type 0
IsForetold P old new e = (e ≡ Read) × (old.known ≡ true → new.errors ≡ old.errors → P × (old.cursor.mark.short ≡ Read))

-- these bytes were read, if the bytes of the source are known
abbrev pub ConsumesBytes : List ℕ → State → State → Type 0
ConsumesBytes bytes old new = old.known ≡ true → Consumes (bits_of bytes) old.cursor new.cursor

-- the source is asked for bytes only if fewer than these are held
abbrev pub PullsBytes : ℕ → State → State → Result ℕ Why → Type 0
PullsBytes most old new result = MatchResult result (λ n. old.held ≤ new.held + 8 * n) (λ _. old.held < 8 * most)

-- whether no bit is left
abbrev pub SaysOver : State → State → Bool → Type 0
SaysOver old new over = old.known ≡ true → (new.cursor ≡ old.cursor) × (over ≡ is_nil old.cursor.left)

-- the error if no bit is left and none comes in place of the end
abbrev pub SaysShort : State → Why → Type 0
SaysShort s why = s.known ≡ true → s.cursor.left ≡ [] → (s.cursor.mark.short ≡ Read → ⊥) → why ≡ s.cursor.mark.short
