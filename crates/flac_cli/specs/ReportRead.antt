-- What `recorded_of` of flac_report reads of the lines that `flac verify` adds to a report.
use Rattle.std.specs.Prelude.{◌≡◌, ℕ, Bool, true, List, [], ◌∷◌, map, Option, Some, None, option_map}
use Rattle.std.specs.Str.{is_utf8}
use Rattle.flac_shelf.specs.Listed.{Listed}
use Rattle.flac_shelf.specs.declared.past.Audio.{Audio}
use Rattle.flac_shelf.specs.declared.past.Earlier.TheVariants.{Was}
use Rattle.flac_shelf.specs.declared.past.Past.{Past}
use Rattle.flac_report.specs.Entries.{FitsStamp}
use Rattle.flac_report.specs.Lines.{said, IsReadFrom, lines_in}
use Rattle.flac_report.specs.declared.lines.Recorded.{Recorded}
use Rattle.flac_cli.specs.Changes.{audio_of, change_of}
use Rattle.flac_cli.specs.Reported.{report_lines}
use Rattle.flac_cli.specs.Verified.{AreFound}
use Rattle.flac_cli.specs.declared.verify.Finding.{Finding}
use Rattle.flac_cli.specs.declared.verify.Finding.TheVariants.{Good}
use Rattle.flac_cli.specs.declared.verify_change.Change.TheVariants.{Same}

-- ---- what a report has of files

-- a path is a text in UTF-8, and a size and a time have 64 bits: every value has this by its type
pub record IsNamed (file : Listed) : Type 0 where
  pub path : is_utf8 file.path ≡ true
  pub stamp : FitsStamp file.stamp

abbrev pub AreNamed : List Listed → Type 0
AreNamed [] = Unit {0}
AreNamed (file ∷ files) = IsNamed file × AreNamed files

-- the audio of a stream; none of a file that is refused, or cannot be opened
abbrev pub found_audio : Finding → Option Audio
found_audio (Good facts) = Some (audio_of facts)
found_audio other = None

-- a file's path, and its size, its time and its audio
abbrev pub record_of : Listed → Finding → List ℕ × Past
record_of file finding = (file.path, record { stamp = file.stamp; audio = found_audio finding })

abbrev pub records_of : List Listed → List Finding → List (List ℕ × Past)
records_of [] findings = []
records_of files [] = []
records_of (file ∷ files) (finding ∷ findings) = record_of file finding ∷ records_of files findings

-- ---- reading it

-- what `recorded_of` returned of each of these lines
abbrev pub AreReadFrom : (lines : List (List ℕ)) → List (Option Recorded) → Type 0
AreReadFrom [] [] = Unit {0}
AreReadFrom (line ∷ lines) (recorded ∷ more) = IsReadFrom line recorded × AreReadFrom lines more
AreReadFrom lines recorded = ⊥

-- Whatever these files were found to be by their own bytes: of the lines that are added to a report, one after another,
-- `recorded_of` reads exactly each file's path, size, time and audio, in the order of the files.
abbrev pub ReportsAreReadBack : Type 0
ReportsAreReadBack =
    (subset : Bool) (files : List Listed) (findings : List Finding) (read : List (Option Recorded)) → AreNamed files → AreFound subset files findings
    → AreReadFrom (lines_in (report_lines subset files findings)) read → map (option_map said) read ≡ map Some (records_of files findings)

-- A file that is found to be the same again, at the same size and time, is the same as in the report: its line ends with
-- ` same`.
abbrev pub ReadFilesAreSame : Type 0
ReadFilesAreSame = (file : Listed) (finding : Finding) → change_of (Was (record_of file finding).1) file.stamp finding ≡ Same
