-- What a call does that sends bytes to a target.
use Rattle.std.specs.Prelude.{◌≡◌, ◌<◌, ◌≤◌, ℕ, List, ◌++◌, true, Result, OnOk, OnErr}
use Rattle.flac_bits.specs.State.{Rises}
use Rattle.flac_bits.specs.declared.target.Target as target

-- A call that was to send these bytes sent all of them if it returned Ok, and else a prefix of them, after which the
-- target returned an error.
pub record Sends {S X E : Type 0} (g : target.Ghosts S) (bytes : List ℕ) (old new : S) (result : Result X E) : Type 0 where
  pub known : OnOk result (g.known old ≡ true → g.known new ≡ true)
  pub sent : OnOk result (g.known old ≡ true → g.sent new ≡ g.sent old ++ bytes)
  pub begun : OnErr result (g.known old ≡ true → (front : List ℕ) × (rest : List ℕ) × (bytes ≡ front ++ rest) × (g.sent new ≡ g.sent old ++ front))
  pub names : g.names new ≡ g.names old
  pub counted : OnOk result (g.errors new ≡ g.errors old)
  pub kept : g.errors old ≤ g.errors new
  pub rises : OnErr result (g.known old ≡ true → g.errors old < g.errors new)
  pub risen : OnErr result (Rises (g.errors old) (g.errors new))
