-- For proofs of printing: what a call adds to the lines, and the place of a fault of a stream.
use Rattle.std.specs.Prelude.{◌≡◌, ◌<◌, ◌≤◌, ℕ, List, ◌++◌, true, Option, Some, None, Result, OnOk, OnErr}
use Rattle.flac_bits.specs.declared.target.Target as target
use Rattle.flac_native.specs.declared.fault.Place.{Place as StreamPlace}
use Rattle.flac_cli.specs.declared.lines.At.{At}
use Rattle.flac_cli.specs.declared.lines.At.TheVariants.{Whole, Place}

abbrev pub at_place : Option StreamPlace → At
at_place None = Whole
at_place (Some at) = Place at

-- A call that was to add this text has added it if it returned Ok, to what was sent or to what is held; else the target
-- returned an error.
pub record Adds {T X E : Type 0} (g : target.Ghosts T) (text : List ℕ) (old new : T) (had has : List ℕ) (result : Result X E) : Type 0 where
  pub names : g.names new ≡ g.names old
  pub kept : g.errors old ≤ g.errors new
  pub known : OnOk result (g.known old ≡ true → g.known new ≡ true)
  pub added : OnOk result (g.known old ≡ true → g.sent new ++ has ≡ (g.sent old ++ had) ++ text)
  pub rises : OnErr result (g.known old ≡ true → g.errors old < g.errors new)

-- A call that was to add some text, of which nothing is said: where it returned an error, the target answered one.
pub record Prints {T X E : Type 0} (g : target.Ghosts T) (old new : T) (result : Result X E) : Type 0 where
  pub names : g.names new ≡ g.names old
  pub kept : g.errors old ≤ g.errors new
  pub known : OnOk result (g.known old ≡ true → g.known new ≡ true)
  pub rises : OnErr result (g.known old ≡ true → g.errors old < g.errors new)
