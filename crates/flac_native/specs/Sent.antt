-- What a call sent.
use Rattle.std.specs.Prelude.{◌≡◌, ℕ, ◌<◌, ◌≤◌, Bool, true, List, ◌++◌, Result, OnOk, OnErr}
use Rattle.flac_bits.specs.Bits.{bits_of}
use Rattle.flac_bits.specs.State.{Rises}
use Rattle.flac_bits.specs.declared.target.Target as target

-- A call that was to send whole bytes of these bits sent all of them if it returned Ok, and else a prefix of them; then
-- the target returned an error.
pub record SendsBits {S X E : Type 0} (g : target.Ghosts S) (text : List Bool) (old new : S) (result : Result X E) : Type 0 where
  pub known : OnOk result (g.known old ≡ true → g.known new ≡ true)
  pub sent : OnOk result (g.known old ≡ true → bits_of (g.sent new) ≡ bits_of (g.sent old) ++ text)
  pub begun : OnErr result (g.known old ≡ true → (front : List Bool) × (rest : List Bool) × (text ≡ front ++ rest) × (bits_of (g.sent new) ≡ bits_of (g.sent old) ++ front))
  pub names : g.names new ≡ g.names old
  pub counted : OnOk result (g.errors new ≡ g.errors old)
  pub kept : g.errors old ≤ g.errors new
  pub rises : OnErr result (g.known old ≡ true → g.errors old < g.errors new)
  pub risen : OnErr result (Rises (g.errors old) (g.errors new))

-- if the bytes of the target are known, it was sent exactly these
abbrev pub SendsBytes : {S : Type 0} → target.Ghosts S → List ℕ → S → S → Type 0
SendsBytes g bytes old new = g.known old ≡ true → g.sent new ≡ g.sent old ++ bytes

-- the same: its count of errors rose
abbrev pub TargetFailed : {S : Type 0} → target.Ghosts S → S → S → Type 0
TargetFailed g old new = g.known old ≡ true → g.errors old < g.errors new

-- the same if this number of failures is not 0
abbrev pub FailedIfCounted : {S : Type 0} → target.Ghosts S → ℕ → S → S → Type 0
FailedIfCounted g failures old new = g.known old ≡ true → 0 < failures → g.errors old < g.errors new
