-- For proofs: what calls of a source did, one after another.
use Rattle.std.specs.Prelude.{◌≡◌, ◌≤◌, ◌<◌, ℕ, ◌+◌, min, true, List, [], ◌++◌, length, take, drop, is_some, None}
use Rattle.flac_around.specs.Around.{front_length, past_front}
use Rattle.flac_bits.specs.Sources.{SameEnd, Ended}
use Rattle.flac_bits.specs.State.{Rises}
use Rattle.flac_bits.specs.declared.source.Source as source

-- None of them returned an error.
pub record Goes {S : Type 0} (g : source.Ghosts S) (old new : S) : Type 0 where
  pub names : g.names new ≡ g.names old
  pub known : g.known old ≡ true → g.known new ≡ true
  pub errors : g.errors new ≡ g.errors old
  pub raised : g.raised new ≡ g.raised old
  pub after : g.known old ≡ true → g.after new ≡ g.after old
  pub most : g.most new ≤ g.most old

-- The last of them did. If that was announced, this holds of what was to come.
pub record Fails {S : Type 0} (g : source.Ghosts S) (Left : List ℕ → Type 0) (old new : S) : Type 0 where
  pub names : g.names new ≡ g.names old
  pub kept : g.errors old ≤ g.errors new
  pub after : SameEnd g.known g.errors g.after old new
  pub foreseen : g.known old ≡ true → g.errors new ≡ g.errors old → Left (g.coming old) × (is_some ((g.after old).fails) ≡ true)
  pub rises : g.known old ≡ true → g.raised old < g.raised new
  pub risen : Rises (g.raised old) (g.raised new)

-- if its bytes are known, none is to come, and the end follows
abbrev pub IsOver : {S : Type 0} → source.Ghosts S → (old new : S) → Type 0
IsOver g old new = g.known old ≡ true → (g.coming new ≡ []) × ((g.after new).fails ≡ None)

-- ---- what they gave, if the bytes are known

-- this holds of what was to come
abbrev pub IfComing : {S : Type 0} → source.Ghosts S → (old : S) → (List ℕ → Type 0) → Type 0
IfComing g old Says = g.known old ≡ true → Says (g.coming old)

-- these bytes, and the others are still to come
abbrev pub Gives : {S : Type 0} → source.Ghosts S → (old new : S) → (bytes : List ℕ) → Type 0
Gives g old new bytes = g.known old ≡ true → g.coming old ≡ bytes ++ g.coming new

-- the first ones, and then the second ones
abbrev pub GivesBoth : {S : Type 0} → source.Ghosts S → (old new : S) → (first second : List ℕ) → Type 0
GivesBoth g old new first second = g.known old ≡ true → g.coming old ≡ first ++ (second ++ g.coming new)

-- some of them, after `held`, so that `bytes` are held now
abbrev pub GivesAfter : {S : Type 0} → source.Ghosts S → (old new : S) → (held bytes : List ℕ) → Type 0
GivesAfter g old new held bytes = g.known old ≡ true → held ++ g.coming old ≡ bytes ++ g.coming new

-- the same of places of which those up to `from` are held before, and those up to n now
abbrev pub FillsPlaces : {S : Type 0} → source.Ghosts S → (old new : S) → (from : ℕ) (before after : List ℕ) → (n : ℕ) → Type 0
FillsPlaces g old new from before after n = GivesAfter g old new (take from before) (take n after)

-- of those that were held and those to come `bytes` go, and `held` are held now
abbrev pub Slides : {S : Type 0} → source.Ghosts S → (old new : S) → (before bytes held : List ℕ) → Type 0
Slides g old new before bytes held = g.known old ≡ true → before ++ g.coming old ≡ bytes ++ (held ++ g.coming new)

-- the same bytes are still to come
abbrev pub KeepsComing : {S : Type 0} → source.Ghosts S → (old new : S) → Type 0
KeepsComing g old new = g.known old ≡ true → g.coming new ≡ g.coming old

-- n bytes, which are let go
abbrev pub Skips : {S : Type 0} → source.Ghosts S → (old new : S) → (n : ℕ) → Type 0
Skips g old new n = g.known old ≡ true → (length (g.coming old) ≡ n + length (g.coming new)) × (g.coming new ≡ drop n (g.coming old))

-- a tag at the start, and these bytes after it
abbrev pub PassesFront : {S : Type 0} → source.Ghosts S → (old new : S) → (bytes : List ℕ) → Type 0
PassesFront g old new bytes = g.known old ≡ true → past_front (g.coming old) ≡ bytes ++ g.coming new

-- how many of the bytes are those of a tag at the start
abbrev pub front_within : List ℕ → ℕ
front_within bytes = min (front_length bytes) (length bytes)

-- nothing is to come
abbrev pub IsEnded : {S : Type 0} → source.Ghosts S → (old : S) → Type 0
IsEnded g old = Ended g.known g.coming g.after old
