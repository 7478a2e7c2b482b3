-- A source that keeps the bytes that were pulled from it.
use Rattle.std.specs.Prelude.{◌≡◌, ℕ, ◌+◌, ◌<◌, ◌≤◌, Bool, true, false, not, ◌&&◌, cond, Option, Some, None, is_some, List, [], ◌++◌, length, drop, vec_len}
use Rattle.flac_bits.specs.State.{After, Rises}
use Rattle.flac_bits.specs.declared.source.Source as source
use Rattle.flac_bits.specs.declared.why.Why.{Why}
use Rattle.flac_bits.specs.declared.why.Why.TheVariants.{Read, Memory, Truncated}
use Rattle.flac_copy.specs.declared.again.Again.{Again}

-- the bytes still to come are known, and none of them is lost
abbrev pub known_of : {S : Type 0} → (S → Bool) → Again S → Bool
known_of known a = known a.source && not (is_some a.fault)

-- The error after which nothing more comes counts, also if the source below announced it.
abbrev pub errors_of : {S : Type 0} → (S → ℕ) → Again S → ℕ
errors_of errors a = errors a.source + cond (is_some a.fault) 1 0

-- an allocation that failed
abbrev pub failed : Option Why → ℕ
failed (Some Memory) = 1
failed other = 0

-- the errors of the source below, and an allocation that failed
abbrev pub raised_of : {S : Type 0} → (S → ℕ) → Again S → ℕ
raised_of raised a = raised a.source + failed a.fault

-- the bytes that are held and were not given
abbrev pub to_give : {S : Type 0} → Again S → List ℕ
to_give a = drop a.given a.held.items

-- the bytes that are held, and those that the source below still has
abbrev pub all_of : {S : Type 0} → (S → List ℕ) → Again S → List ℕ
all_of coming a = a.held.items ++ coming a.source

-- what comes after the bytes to come: all of them, which may come again
abbrev pub after_of : {S : Type 0} → (S → List ℕ) → (S → After) → Again S → After
after_of coming after a = record (after a.source) { bytes = all_of coming a }

-- ---- a call, before which the source is `old`, and after which it is `new`

-- Bytes may have been pulled, and are held; none came, and no error was met.
pub record Holds {S : Type 0} (g : source.Ghosts S) (old new : Again S) : Type 0 where
  pub all : g.known old.source ≡ true → all_of g.coming new ≡ all_of g.coming old
  pub known : g.known old.source ≡ true → g.known new.source ≡ true
  pub fails : g.known old.source ≡ true → (g.after new.source).fails ≡ (g.after old.source).fails
  pub errors : g.errors new.source ≡ g.errors old.source
  pub raised : g.raised new.source ≡ g.raised old.source
  pub calm : old.fault ≡ None
  pub fault : new.fault ≡ None
  pub names : g.names new.source ≡ g.names old.source

-- the same, and there were some, or the source below is at its end
abbrev pub HoldsMore : {S : Type 0} → source.Ghosts S → (old new : Again S) → Bool → Type 0
HoldsMore g old new true = Holds g old new × (vec_len old.held < vec_len new.held)
HoldsMore g old new false = Holds g old new × (g.known old.source ≡ true → g.coming old.source ≡ [])

-- the same, and the first n bytes are held
abbrev pub HoldsFirst : {S : Type 0} → source.Ghosts S → ℕ → (old new : Again S) → Type 0
HoldsFirst g n old new = Holds g old new × (n ≤ length new.held.items)

-- the same, and no byte is left, or there are some
abbrev pub SaysOver : {S : Type 0} → source.Ghosts S → (old new : Again S) → Bool → Type 0
SaysOver g old new over = Holds g old new × (new.given ≡ old.given) × (over ≡ true → g.known old.source ≡ true → all_of g.coming old ≡ [])

-- An error of the source below was met, or an allocation failed, or fewer bytes are to come than are asked for: these
-- are held. Or it is the error of an earlier call.
pub record FailsToHold {S : Type 0} (g : source.Ghosts S) (n : ℕ) (old new : Again S) (e : Why) : Type 0 where
  pub kept : g.errors old.source ≤ g.errors new.source
  pub names : g.names new.source ≡ g.names old.source
  pub risen : old.fault ≡ None → e ≡ Read → Rises (g.raised old.source) (g.raised new.source)
  pub short : old.fault ≡ None → e ≡ Truncated → g.known old.source ≡ true → length (all_of g.coming old) < n
  pub stays : old.fault ≡ None → e ≡ Truncated → Holds g old new
