-- Members of the lines of a report, as a program has them and as they are said.
use Rattle.std.proofs.Common.{◌≡◌, ◌≤◌, ◌<◌, ℕ, true, List, [], ◌∷◌, ◌++◌, codes, Option, Some, None, Result, Ok, Err, OnOk, OnErr, ap, refl, subst, ◌∙◌}
use Rattle.flac_bits.specs.declared.target.Target as target
use Rattle.flac_json.specs.Json.{text}
use Rattle.flac_report.specs.Objects.{Member, object_line, present}
use Rattle.flac_cli.specs.Objects.{member_of, known_members}
use Rattle.flac_cli.specs.declared.json.Member.{Member as Given}
use Rattle.flac_cli.specs.declared.verify.Finding.{Finding}
use Rattle.flac_cli.specs.declared.verify_report.Entry.{Entry}
use Rattle.flac_cli.specs.inner.Objects.{given_member}
use Rattle.flac_cli.specs.inner.Reported.{entry_text, EntrySent}

by_given : (m : Option Given) (ms : List (Option Given)) (os : List (Option Member)) → known_members ms ≡ present os → known_members (m ∷ ms) ≡ present (given_member m ∷ os)
by_given None ms os are = are
by_given (Some m) ms os are = ap (λ l. member_of m ∷ l) are

-- members as a program has them, and as they are said
pub record AreKnown (ms : List (Option Given)) (os : List (Option Member)) : Type 0 where
  are : known_members ms ≡ present os

pub none_known : AreKnown [] []
none_known = record { are = refl }

-- a member more
pub one_known : {o : Option Member} {ms : List (Option Given)} {os : List (Option Member)} (m : Option Given) → given_member m ≡ o → AreKnown ms os → AreKnown (m ∷ ms) (o ∷ os)
one_known {ms = ms} {os = os} m is k = record { are = by_given m ms os k.are ∙ ap (λ o. present (o ∷ os)) is }

-- the line of an object with this path is that of a file
pub line_same : {path : List ℕ} {ms : List (Option Given)} {os : List (Option Member)} (first : Given) → member_of first ≡ record { name = codes "path"; value = text path } → AreKnown ms os
    → object_line (member_of first ∷ known_members ms) ≡ object_line (record { name = codes "path"; value = text path } ∷ present os)
line_same {path = path} {ms = ms} first is k = ap (λ m. object_line (m ∷ known_members ms)) is ∙ ap (λ l. object_line (record { name = codes "path"; value = text path } ∷ l)) k.are

module _ {T : Type 0} (g : target.Ghosts T) where
  -- a line that was sent as an object
  pub sent_as : {X E : Type 0} {old new : T} {line : List ℕ} (entry : Entry) (finding : Finding) (r : Result X E) → line ≡ entry_text entry finding → g.errors old ≤ g.errors new
      → OnOk r (g.known old ≡ true → g.known new ≡ true) → OnOk r (g.known old ≡ true → g.sent new ≡ g.sent old ++ line)
      → OnErr r (g.known old ≡ true → g.errors old < g.errors new) → EntrySent g entry finding old new r
  sent_as {old = old} entry finding (Ok x) is kept known sent failed = record {
    kept = kept;
    known = known;
    sent = λ k. sent k ∙ ap (λ l. g.sent old ++ l) is;
    failed = tt;
  }
  sent_as entry finding (Err e) is kept known sent failed = record {
    kept = kept;
    known = tt;
    sent = tt;
    failed = failed;
  }

  pub found_same : {X E : Type 0} {old new : T} {entry : Entry} {finding other : Finding} {r : Result X E} → EntrySent g entry finding old new r → finding ≡ other → EntrySent g entry other old new r
  found_same {old = old} {new = new} {entry = entry} {r = r} s same = subst (λ f. EntrySent g entry f old new r) same s
