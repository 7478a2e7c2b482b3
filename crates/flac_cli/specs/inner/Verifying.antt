-- For proofs of `flac verify`: what calls did to the list of files and to the targets, and how a file is read.
use Rattle.std.specs.Prelude.{◌≡◌, ◌≢◌, ◌≤◌, ◌<◌, ℕ, ◌+◌, Bool, true, false, ◌&&◌, List, ◌++◌, length, Option, Some, None, IfSome}
use Rattle.flac_bits.specs.declared.target.Target as target
use Rattle.flac_bits.specs.declared.why.Why.TheVariants as why
use Rattle.flac_header.specs.declared.subset.Profile.{Profile}
use Rattle.flac_header.specs.declared.subset.Profile.TheVariants.{Lax}
use Rattle.flac_shelf.specs.Listed.{Contents, Listed}
use Rattle.flac_cli.specs.Changes.{is_kept}
use Rattle.flac_cli.specs.Counted.{printed}
use Rattle.flac_cli.specs.Reported.{report_lines}
use Rattle.flac_cli.specs.Missing.{IsMissingIf, AreMissing, told_lines}
use Rattle.flac_cli.specs.Verified.{IsStreamOf, IsRefusedAs, IsFound, AreFound, ok_lines, last_line, good_count, bad_count, all_kept}
use Rattle.flac_cli.specs.declared.verify.Checks.{Checks}
use Rattle.flac_cli.specs.declared.verify.Finding.{Finding}
use Rattle.flac_cli.specs.declared.verify.Finding.TheVariants.{Good, Bad, Unopened}
use Rattle.flac_cli.specs.declared.verify.Tally.{Tally}
use Rattle.flac_cli.specs.declared.verify_change.Change.{Change}
use Rattle.flac_cli.specs.declared.verify_facts.Flaw.{Flaw}

-- A call that was to send this text: it was sent, or the target returned an error.
pub record IsSent {T : Type 0} (g : target.Ghosts T) (text : List ℕ) (old new : T) (done : Bool) : Type 0 where
  pub kept : g.errors old ≤ g.errors new
  pub sent : done ≡ true → g.known old ≡ true → (g.known new ≡ true) × (g.sent new ≡ g.sent old ++ text)
  pub lost : done ≡ false → g.known old ≡ true → g.errors old < g.errors new

-- It was sent, if the target returned no error.
pub record IsTold {T : Type 0} (g : target.Ghosts T) (text : List ℕ) (old new : T) : Type 0 where
  pub kept : g.errors old ≤ g.errors new
  pub told : g.known old ≡ true → g.errors new ≡ g.errors old → (g.known new ≡ true) × (g.sent new ≡ g.sent old ++ text)

-- What is said of a file after its line, if that is asked for, was sent.
pub record IsListed {T : Type 0} (g : target.Ghosts T) (asked : Bool) (file : Listed) (old new : T) : Type 0 where
  pub text : List ℕ
  pub missing : IsMissingIf asked file text
  pub told : IsTold g text old new

-- A call that was to send this text, if it was going on: it was sent, or the target returned an error.
pub record IsEntered {T : Type 0} (g : target.Ghosts T) (going : Bool) (text : List ℕ) (old new : T) (done : Bool) : Type 0 where
  pub kept : g.errors old ≤ g.errors new
  pub was : done ≡ true → going ≡ true
  pub sent : done ≡ true → g.known old ≡ true → (g.known new ≡ true) × (g.sent new ≡ g.sent old ++ text)
  pub lost : going ≡ true → done ≡ false → g.known old ≡ true → g.errors old < g.errors new

-- A call that read the current file: the list is still there.
pub record Stays {S : Type 0} (known : S → Bool) (current : S → Listed) (files : S → List Listed) (gone : S → List (List ℕ)) (faults most : S → ℕ) (old new : S) : Type 0 where
  pub kept : faults old ≤ faults new
  pub knows : known old ≡ true → faults new ≡ faults old → known new ≡ true
  pub here : current new ≡ current old
  pub rest : files new ≡ files old
  pub left : gone new ≡ gone old
  pub room : most new ≡ most old

-- The bytes are refused so, unless memory ran out.
abbrev pub IsFlaw : Profile → (bytes : List ℕ) → Flaw → Type 0
IsFlaw profile bytes flaw = flaw.fault.why ≢ why.Memory → IsRefusedAs profile bytes flaw

-- What a reading in this profile found: a stream, or a fault, which is reported as the input is.
abbrev pub IsReading : Profile → Option Contents → Finding → Type 0
IsReading profile None Unopened = Unit {0}
IsReading profile (Some of) (Good facts) = IsStreamOf profile of facts × (facts.outside ≡ false)
IsReading profile (Some of) (Bad flaw) = IsFlaw profile of.bytes flaw
IsReading profile contents finding = ⊥

-- the same of a file that is not in the streamable subset
abbrev pub IsReadingOutside : Option Contents → Finding → Type 0
IsReadingOutside None Unopened = Unit {0}
IsReadingOutside (Some of) (Good facts) = IsStreamOf Lax of facts × (facts.outside ≡ true)
IsReadingOutside (Some of) (Bad flaw) = IsFlaw Lax of.bytes flaw
IsReadingOutside contents finding = ⊥

-- what a file was found to be that can be read again
abbrev pub IsFoundAgain : Option Contents → Finding → Type 0
IsFoundAgain contents finding = IfSome contents (λ of. of.again ≡ true) → IsFound false contents finding

-- ---- the same of a file of a list

abbrev pub ReadsIn : Profile → Listed → Finding → Type 0
ReadsIn profile file finding = IsReading profile file.contents finding

abbrev pub ReadsOutside : Listed → Finding → Type 0
ReadsOutside file finding = IsReadingOutside file.contents finding

-- what it was found to be
abbrev pub Finds : (subset : Bool) → Listed → Finding → Type 0
Finds subset file finding = IsFound subset file.contents finding

-- ---- counts

-- one more of the files that are streams, and of the others
abbrev pub good_after : ℕ → Finding → ℕ
good_after n (Good facts) = printed (n + 1)
good_after n other = n

abbrev pub bad_after : ℕ → Finding → ℕ
bad_after n (Good facts) = n
bad_after n other = printed (n + 1)

-- a file more was counted, whose lines standard output and the report took or not
pub record IsCounted (finding : Finding) (change : Change) (sent entered : Bool) (old new : Tally) : Type 0 where
  pub files : new.files ≡ printed (old.files + 1)
  pub good : new.good ≡ good_after old.good finding
  pub bad : new.bad ≡ bad_after old.bad finding
  pub written : new.is_written ≡ (old.is_written && sent)
  pub reported : new.is_reported ≡ entered
  pub kept : new.is_kept ≡ (old.is_kept && is_kept change)

-- every line was written, also those of the report, no file was bad, and each is as it was in the older report
abbrev pub IsAllGood : (is_written : Bool) → Tally → Type 0
IsAllGood is_written tally = (is_written ≡ true) × (tally.is_reported ≡ true) × (tally.is_kept ≡ true) × (tally.bad ≡ 0)

-- if so, this holds
abbrev pub IfAllGood : (is_written : Bool) → Tally → Type 0 → Type 0
IfAllGood is_written tally Says = is_written ≡ true → tally.is_reported ≡ true → tally.is_kept ≡ true → tally.bad ≡ 0 → Says

-- The last line was sent, if those before were.
pub record IsEnded {O E : Type 0} (o : target.Ghosts O) (e : target.Ghosts E) (tally : Tally) (out ended : O) (err told : E) (done : Bool) : Type 0 where
  pub sent : tally.is_written ≡ true → IsSent o (last_line tally.files tally.good tally.bad) out ended done
  pub kept : o.errors out ≤ o.errors ended
  pub lost : tally.is_written ≡ false → done ≡ false
  pub unheard : done ≡ true → told ≡ err

-- ---- a list that is read

-- If these are found of the files that are left, and these texts said of them, then these are found and said of all
-- files; what was sent and counted so far is that of the files before.
pub record SoFar {O E P : Type 0} (o : target.Ghosts O) (e : target.Ghosts E) (p : target.Ghosts P) (checks : Checks) (files rest : List Listed) (first out : O) (began err : E) (blank report : P) (tally : Tally) (left : List Finding) (texts : List (List ℕ)) : Type 0 where
  pub all : List Finding
  pub found : AreFound checks.subset files all
  pub missing : List (List ℕ)
  pub listed : AreMissing checks.all files all missing
  pub sent_is : tally.is_written ≡ true → o.known first ≡ true → o.sent out ++ ok_lines rest left ≡ o.sent first ++ ok_lines files all
  pub told_is : e.known began ≡ true → e.errors err ≡ e.errors began → e.sent err ++ told_lines rest left texts ≡ e.sent began ++ told_lines files all missing
  pub reported_is : tally.is_reported ≡ true → p.known blank ≡ true → p.sent report ++ report_lines checks.subset rest left ≡ p.sent blank ++ report_lines checks.subset files all
  pub files_are : printed (tally.files + length left) ≡ printed (length all)
  pub good_are : printed (tally.good + good_count left) ≡ printed (good_count all)
  pub bad_are : printed (tally.bad + bad_count left) ≡ printed (bad_count all)
  pub kept_are : (tally.is_kept && all_kept rest left) ≡ all_kept files all

pub record Underway {O E P : Type 0} (o : target.Ghosts O) (e : target.Ghosts E) (p : target.Ghosts P) (checks : Checks) (files rest : List Listed) (first out : O) (began err : E) (blank report : P) (tally : Tally) : Type 0 where
  pub kept : o.errors first ≤ o.errors out
  pub known : tally.is_written ≡ true → o.known first ≡ true → o.known out ≡ true
  pub lost : tally.is_written ≡ false → o.known first ≡ true → o.errors first < o.errors out
  pub told : e.errors began ≤ e.errors err
  pub told_known : e.known began ≡ true → e.errors err ≡ e.errors began → e.known err ≡ true
  pub report_kept : p.errors blank ≤ p.errors report
  pub report_known : tally.is_reported ≡ true → p.known blank ≡ true → p.known report ≡ true
  pub report_lost : tally.is_reported ≡ false → p.known blank ≡ true → p.errors blank < p.errors report
  pub files_fit : tally.files ≤ 18446744073709551615
  pub good_fits : tally.good ≤ 18446744073709551615
  pub bad_fits : tally.bad ≤ 18446744073709551615
  pub so_far : (left : List Finding) (texts : List (List ℕ)) → AreFound checks.subset rest left → AreMissing checks.all rest left texts → SoFar o e p checks files rest first out began err blank report tally left texts
