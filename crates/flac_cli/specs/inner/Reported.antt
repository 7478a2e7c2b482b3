-- For proofs of the lines of a report.
use Rattle.std.specs.Prelude.{◌≡◌, ◌≤◌, ◌<◌, ℕ, true, List, ◌++◌, Result, OnOk, OnErr}
use Rattle.flac_bits.specs.declared.target.Target as target
use Rattle.flac_report.specs.Entries.{line_of}
use Rattle.flac_cli.specs.Reported.{entry_of}
use Rattle.flac_cli.specs.declared.verify.Finding.{Finding}
use Rattle.flac_cli.specs.declared.verify_report.Entry.{Entry}

-- the line of a file that was found to be this
abbrev pub entry_text : Entry → Finding → List ℕ
entry_text entry finding = line_of (entry_of entry.path.now entry.stamp entry.is_sought entry.tagged finding)

-- a call that was to send the line of a file
pub record EntrySent {T X E : Type 0} (g : target.Ghosts T) (entry : Entry) (finding : Finding) (old new : T) (result : Result X E) : Type 0 where
  pub kept : g.errors old ≤ g.errors new
  pub known : OnOk result (g.known old ≡ true → g.known new ≡ true)
  pub sent : OnOk result (g.known old ≡ true → g.sent new ≡ g.sent old ++ entry_text entry finding)
  pub failed : OnErr result (g.known old ≡ true → g.errors old < g.errors new)
