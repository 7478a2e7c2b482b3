-- What `flac verify` does for files.
use Rattle.std.specs.Prelude.{◌≡◌, ℕ, true, List, ◌++◌}
use Rattle.flac_bits.specs.declared.target.Target as target
use Rattle.flac_shelf.specs.Listed.{Listed}
use Rattle.flac_shelf.specs.declared.shelf.Shelf as shelf
use Rattle.flac_cli.specs.Calls.{Passed, old_of, new_of}
use Rattle.flac_cli.specs.Reported.{report_lines}
use Rattle.flac_cli.specs.Reports.{Serves}
use Rattle.flac_cli.specs.Missing.{AreMissing, told_lines}
use Rattle.flac_cli.specs.Verified.{AreFound, printed_lines, bad_count, all_kept, IfNoneFails}
use Rattle.flac_cli.specs.declared.verify.Checks.{Checks}
use Rattle.flac_cli.specs.declared.verify.Finding.{Finding}

-- What was done for these files: what was found of each, the status, and what was sent to standard output, to standard
-- error and to the report.
pub record Verifies {O E P : Type 0} (o : target.Ghosts O) (e : target.Ghosts E) (p : target.Ghosts P) (checks : Checks) (files : List Listed) (status : ℕ) (out printed_to : O) (err told : E) (report reported : P) : Type 0 where
  pub findings : List Finding
  pub found : AreFound checks.subset files findings
  pub missing : List (List ℕ)
  pub listed : AreMissing checks.all files findings missing
  -- the status is 0 only if all are streams, each is as it was in the older report, and every line was written
  pub good : status ≡ 0 → bad_count findings ≡ 0
  pub kept : status ≡ 0 → all_kept files findings ≡ true
  pub written : status ≡ 0 → o.known out ≡ true → o.sent printed_to ≡ o.sent out ++ printed_lines files findings
  pub entered : status ≡ 0 → p.known report ≡ true → p.sent reported ≡ p.sent report ++ report_lines checks.subset files findings
  -- and if standard output and the report did not fail, it is 0 if all are
  pub done : Serves o out printed_to → Serves p report reported → bad_count findings ≡ 0 → all_kept files findings ≡ true → status ≡ 0
  pub printed_is : Serves o out printed_to → o.sent printed_to ≡ o.sent out ++ printed_lines files findings
  pub entered_is : Serves p report reported → p.sent reported ≡ p.sent report ++ report_lines checks.subset files findings
  pub told_is : Serves o out printed_to → Serves e err told → e.sent told ≡ e.sent err ++ told_lines files findings missing

-- The same of devices, if the files of the list are known and the device of none failed. `s` is that of the type of the
-- list.
abbrev pub VerifiesFiles : {S F O E P : Type 0} (s : shelf.Ghosts S F) (o : target.Ghosts O) (e : target.Ghosts E) (p : target.Ghosts P) → Checks → (status : ℕ) → Passed S → Passed O → Passed E → Passed P → Type 0
VerifiesFiles s o e p checks status list out err report =
    IfNoneFails s.known s.faults (old_of list) (new_of list) (Verifies o e p checks (s.files (old_of list)) status (old_of out) (new_of out) (old_of err) (new_of err) (old_of report) (new_of report))
