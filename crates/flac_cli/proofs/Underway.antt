-- A list of files that is read one after another.
use Rattle.std.proofs.Common.{◌≡◌, ◌≤◌, ◌<◌, ◌⊎◌, ◌+◌, ◌&&◌, ◌||◌, ℕ, Bool, true, false, List, [], ◌∷◌, ◌++◌, length, cond, Option, Some, None, IfSome, refl, sym, ap, subst, ◌∙◌, append-nil, append_assoc, arith, inl, inr}
use Rattle.flac_bits.specs.declared.target.Target as target
use Rattle.flac_shelf.specs.Listed.{Contents, Listed}
use Rattle.flac_shelf.specs.declared.stamp.Stamp.{Stamp}
use Rattle.flac_report.specs.Entries.{line_of}
use Rattle.flac_cli.specs.Changes.{change_in, is_kept}
use Rattle.flac_cli.specs.Counted.{printed}
use Rattle.flac_cli.specs.Outcomes.{Fits}
use Rattle.flac_cli.specs.Reports.{Serves}
use Rattle.flac_cli.specs.Missing.{IsMissingIf, asks_missing, AreMissing, told_lines}
use Rattle.flac_cli.specs.Verified.{IsFinding, HasNoMemory, AreFound, AreWhole, IsWhole, ok_of, bad_of, all_kept, ok_lines, printed_lines, last_line, good_count, bad_count}
use Rattle.flac_cli.specs.Reported.{entry_of, is_sought_in, report_line, report_lines}
use Rattle.flac_cli.specs.Verifies.{Verifies}
use Rattle.flac_cli.specs.inner.Verifying.{IsSent, IsTold, IsEntered, IsCounted, IsEnded, SoFar, Underway, good_after, bad_after}
use Rattle.flac_cli.specs.declared.verify_facts.Facts.{Facts}
use Rattle.flac_cli.specs.declared.verify.Checks.{Checks}
use Rattle.flac_cli.specs.declared.verify.Finding.{Finding}
use Rattle.flac_cli.specs.declared.verify.Finding.TheVariants.{Good, Bad, Unopened}
use Rattle.flac_cli.specs.declared.verify.Tally.{Tally}

both_true : (a b : Bool) → (a && b) ≡ true → (a ≡ true) × (b ≡ true)
both_true true true is = (refl, refl)
both_true true false is = absurd cc
both_true false b is = absurd cc

and_assoc : (a b c : Bool) → ((a && b) && c) ≡ (a && (b && c))
and_assoc true b c = refl
and_assoc false b c = refl

and_true : (a : Bool) → (a && true) ≡ a
and_true true = refl
and_true false = refl

one_false : (a b : Bool) → (a && b) ≡ false → (a ≡ false) ⊎ ((a ≡ true) × (b ≡ false))
one_false true true is = absurd cc
one_false true false is = inr (refl, refl)
one_false false b is = inl refl

-- counts of a file more
files_more : (n m total : ℕ) (finding : Finding) (left : List Finding) → m ≡ printed (n + 1) → printed (n + length (finding ∷ left)) ≡ printed total → printed (m + length left) ≡ printed total
files_more n m total finding left is all = omega (arith, is, all)

good_more : (n m total : ℕ) (finding : Finding) (left : List Finding) → m ≡ good_after n finding → printed (n + good_count (finding ∷ left)) ≡ printed total → printed (m + good_count left) ≡ printed total
good_more n m total (Good facts) left is all = omega (arith, is, all)
good_more n m total (Bad fault) left is all = omega (arith, is, all)
good_more n m total Unopened left is all = omega (arith, is, all)

bad_more : (n m total : ℕ) (finding : Finding) (left : List Finding) → m ≡ bad_after n finding → printed (n + bad_count (finding ∷ left)) ≡ printed total → printed (m + bad_count left) ≡ printed total
bad_more n m total (Good facts) left is all = omega (arith, is, all)
bad_more n m total (Bad fault) left is all = omega (arith, is, all)
bad_more n m total Unopened left is all = omega (arith, is, all)

good_small : (n m : ℕ) (finding : Finding) → n ≤ 18446744073709551615 → m ≡ good_after n finding → m ≤ 18446744073709551615
good_small n m (Good facts) few is = omega (arith, is)
good_small n m (Bad fault) few is = omega (arith, few, is)
good_small n m Unopened few is = omega (arith, few, is)

bad_small : (n m : ℕ) (finding : Finding) → n ≤ 18446744073709551615 → m ≡ bad_after n finding → m ≤ 18446744073709551615
bad_small n m (Good facts) few is = omega (arith, few, is)
bad_small n m (Bad fault) few is = omega (arith, is)
bad_small n m Unopened few is = omega (arith, is)

all_counted : (n m : ℕ) → n ≤ 18446744073709551615 → printed (n + 0) ≡ printed m → n ≡ printed m
all_counted n m few is = omega (arith, few, is)

is_zero : (n m : ℕ) → n ≡ printed m → n ≡ 0 → m ≡ 0
is_zero n m is none = omega (arith, is, none)

zero_is : (n m : ℕ) → n ≡ printed m → m ≡ 0 → n ≡ 0
zero_is n m is none = omega (arith, is, none)

whole_of : (subset : Bool) (contents : Option Contents) (facts : Facts) → IsFinding subset contents (Good facts) → IsWhole subset contents
whole_of subset None facts is = absurd is
whole_of subset (Some of) facts is = (is.0.0.0, is.0.0.1)

-- If none is bad, each is a stream.
pub are_whole : (subset : Bool) (files : List Listed) (findings : List Finding) → AreFound subset files findings → bad_count findings ≡ 0 → AreWhole subset files
are_whole subset [] findings found none = tt
are_whole subset (file ∷ files) [] found none = absurd found
are_whole subset (file ∷ files) (Good facts ∷ findings) found none = (elim found.0.right [ inl out ↦ absurd out | inr is ↦ whole_of subset file.contents facts is ], are_whole subset files findings found.1 none)
are_whole subset (file ∷ files) (Bad fault ∷ findings) found none = absurd (omega (arith, none))
are_whole subset (file ∷ files) (Unopened ∷ findings) found none = absurd (omega (arith, none))

-- the files that were left, before the next one
pub first_of : {file : Listed} {left now more : List Listed} (some : Bool) → some ≡ true → left ≡ cond some (file ∷ now) [] → more ≡ now → left ≡ file ∷ more
first_of {file = file} true holds is same = is ∙ ap (λ l. file ∷ l) (sym same)
first_of false holds is same = absurd cc

pub none_of : (file : Listed) (left now : List Listed) (some : Bool) → some ≡ false → left ≡ cond some (file ∷ now) [] → left ≡ []
none_of file left now true fails is = absurd cc
none_of file left now false fails is = is

-- a count of failures that did not rise in the end did not rise before
pub calm_so_far : (began before at after : ℕ) → began ≤ before → at ≡ before → at ≤ after → after ≡ began → (before ≡ began) × (after ≡ at)
calm_so_far began before at after kept is more same = (omega (arith, kept, is, more, same), omega (arith, kept, is, more, same))

-- the line of the report of a file whose size, time and kind were asked for
pub line_is : (subset again sought : Bool) (file : Listed) (path : List ℕ) (stamp : Stamp) (tagged : Option Bool) (finding : Finding) → sought ≡ (subset || again) → path ≡ file.path → stamp ≡ file.stamp → tagged ≡ file.tagged → IfSome file.contents (λ of. again ≡ of.again)
    → Fits HasNoMemory (IsFinding subset file.contents) finding → line_of (entry_of path stamp sought tagged finding) ≡ report_line subset file finding
line_is subset again sought file path stamp tagged finding look paths stamps tags seen fits =
    ap (λ b. line_of (entry_of path stamp b tagged finding)) look ∙ ap (λ l. line_of (entry_of l stamp (subset || again) tagged finding)) paths ∙ ap (λ s. line_of (entry_of file.path s (subset || again) tagged finding)) stamps
    ∙ ap (λ t. line_of (entry_of file.path file.stamp (subset || again) t finding)) tags ∙ kinds file.contents finding seen fits
  where
    kinds : (contents : Option Contents) (finding : Finding) → IfSome contents (λ of. again ≡ of.again) → Fits HasNoMemory (IsFinding subset contents) finding
        → line_of (entry_of file.path file.stamp (subset || again) file.tagged finding) ≡ line_of (entry_of file.path file.stamp (is_sought_in subset contents) file.tagged finding)
    kinds None (Good facts) seen fits = elim fits.right [ inl out ↦ absurd out | inr is ↦ absurd is ]
    kinds (Some of) (Good facts) seen fits = ap (λ a. line_of (entry_of file.path file.stamp (subset || a) file.tagged (Good facts))) seen
    kinds contents (Bad fault) seen fits = refl
    kinds contents Unopened seen fits = refl

module _ {O E P : Type 0} (o : target.Ghosts O) (e : target.Ghosts E) (p : target.Ghosts P) (checks : Checks) (files : List Listed) (first : O) (began : E) (blank : P) where
  -- before the first file
  pub begins : (tally : Tally) → tally.files ≡ 0 → tally.good ≡ 0 → tally.bad ≡ 0 → tally.is_written ≡ true → tally.is_reported ≡ true → tally.is_kept ≡ true → Underway o e p checks files files first first began began blank blank tally
  begins tally no_files no_good no_bad written reported kept = record {
    kept = omega arith;
    known = λ w k. k;
    lost = λ fails. absurd (let both : true ≡ false = sym written ∙ fails in cc);
    told = omega arith;
    told_known = λ k same. k;
    report_kept = omega arith;
    report_known = λ w k. k;
    report_lost = λ fails. absurd (let both : true ≡ false = sym reported ∙ fails in cc);
    files_fit = omega (arith, no_files);
    good_fits = omega (arith, no_good);
    bad_fits = omega (arith, no_bad);
    so_far = λ left texts found said. record {
      all = left;
      found = found;
      missing = texts;
      listed = said;
      sent_is = λ w k. refl;
      told_is = λ k same. refl;
      reported_is = λ w k. refl;
      files_are = omega (arith, no_files);
      good_are = omega (arith, no_good);
      bad_are = omega (arith, no_bad);
      kept_are = ap (λ b. b && all_kept files left) kept;
    };
  }

  -- a file more
  pub read_more : {rest more : List Listed} {out sent : O} {err told : E} {report reported : P} {tally counted : Tally} (file : Listed) (finding : Finding) (text : List ℕ) (done entered : Bool)
      → Underway o e p checks files rest first out began err blank report tally → rest ≡ file ∷ more
      → Fits HasNoMemory (IsFinding checks.subset file.contents) finding → IsSent o (ok_of file finding) out sent done → IsMissingIf (asks_missing checks.all finding) file text → IsTold e (bad_of file finding ++ text) err told
      → IsEntered p tally.is_reported (report_line checks.subset file finding) report reported entered → IsCounted finding (change_in file finding) done entered tally counted
      → Underway o e p checks files more first sent began told blank reported counted
  read_more {rest = rest} {more = more} {out = out} {sent = sent} {err = err} {told = told} {report = report} {reported = reported} {tally = tally} {counted = counted} file finding text done entered u is fits s m t n c = record {
    kept = omega (arith, u.kept, s.kept);
    known = λ w k. let b = were w in (s.sent b.1 (u.known b.0 k)).0;
    lost = λ w k. were_not w k;
    told = omega (arith, u.told, t.kept);
    told_known = λ k same. let calm = calm_before same in (t.told (u.told_known k calm.0) calm.1).0;
    report_kept = omega (arith, u.report_kept, n.kept);
    report_known = λ w k. (n.sent (was_entered w) (u.report_known (n.was (was_entered w)) k)).0;
    report_lost = λ w k. not_entered tally.is_reported refl (sym c.reported ∙ w) k;
    files_fit = omega (arith, c.files);
    good_fits = good_small tally.good counted.good finding u.good_fits c.good;
    bad_fits = bad_small tally.bad counted.bad finding u.bad_fits c.bad;
    so_far = λ left texts found said.
        let f : SoFar o e p checks files rest first out began err blank report tally (finding ∷ left) (text ∷ texts) =
        u.so_far (finding ∷ left) (text ∷ texts) (subst (λ fs. AreFound checks.subset fs (finding ∷ left)) (sym is) (fits, found)) (subst (λ fs. AreMissing checks.all fs (finding ∷ left) (text ∷ texts)) (sym is) (m, said)) in
        record {
          all = f.all;
          found = f.found;
          missing = f.missing;
          listed = f.listed;
          sent_is = λ w k.
              let b = were w in
              ap (λ l. l ++ ok_lines more left) (s.sent b.1 (u.known b.0 k)).1 ∙ append_assoc (o.sent out) (ok_of file finding) (ok_lines more left)
              ∙ ap (λ fs. o.sent out ++ ok_lines fs (finding ∷ left)) (sym is) ∙ f.sent_is b.0 k;
          told_is = λ k same.
              let calm = calm_before same in
              ap (λ l. l ++ told_lines more left texts) (t.told (u.told_known k calm.0) calm.1).1 ∙ append_assoc (e.sent err) (bad_of file finding ++ text) (told_lines more left texts)
              ∙ ap (λ fs. e.sent err ++ told_lines fs (finding ∷ left) (text ∷ texts)) (sym is) ∙ f.told_is k calm.0;
          reported_is = λ w k.
              let d = was_entered w in
              ap (λ l. l ++ report_lines checks.subset more left) (n.sent d (u.report_known (n.was d) k)).1 ∙ append_assoc (p.sent report) (report_line checks.subset file finding) (report_lines checks.subset more left)
              ∙ ap (λ fs. p.sent report ++ report_lines checks.subset fs (finding ∷ left)) (sym is) ∙ f.reported_is (n.was d) k;
          files_are = files_more tally.files counted.files (length f.all) finding left c.files f.files_are;
          good_are = good_more tally.good counted.good (good_count f.all) finding left c.good f.good_are;
          bad_are = bad_more tally.bad counted.bad (bad_count f.all) finding left c.bad f.bad_are;
          kept_are =
              ap (λ b. b && all_kept more left) c.kept ∙ and_assoc tally.is_kept (is_kept (change_in file finding)) (all_kept more left)
              ∙ ap (λ fs. tally.is_kept && all_kept fs (finding ∷ left)) (sym is) ∙ f.kept_are;
        };
  }
    where
      were : counted.is_written ≡ true → (tally.is_written ≡ true) × (done ≡ true)
      were w = both_true tally.is_written done (sym c.written ∙ w)

      was_entered : counted.is_reported ≡ true → entered ≡ true
      was_entered w = sym c.reported ∙ w

      not_entered : (b : Bool) → tally.is_reported ≡ b → entered ≡ false → p.known blank ≡ true → p.errors blank < p.errors reported
      not_entered true going fails k = omega (arith, u.report_kept, n.lost going fails (u.report_known going k))
      not_entered false going fails k = omega (arith, u.report_lost going k, n.kept)

      were_not : counted.is_written ≡ false → o.known first ≡ true → o.errors first < o.errors sent
      were_not w k = elim (one_false tally.is_written done (sym c.written ∙ w)) [
        | inl fails ↦ omega (arith, u.lost fails k, s.kept)
        | inr q ↦ omega (arith, u.kept, s.lost q.1 (u.known q.0 k))
      ]

      calm_before : e.errors told ≡ e.errors began → (e.errors err ≡ e.errors began) × (e.errors told ≡ e.errors err)
      calm_before same = (omega (arith, same, u.told, t.kept), omega (arith, same, u.told, t.kept))

  -- all files were read
  module _ {rest : List Listed} {out ended : O} {err told : E} {report : P} {tally : Tally} (done : Bool) (status : ℕ) (u : Underway o e p checks files rest first out began err blank report tally) (none : rest ≡ [])
      (over : IsEnded o e tally out ended err told done) (zero : status ≡ 0 → (done ≡ true) × (tally.is_reported ≡ true) × (tally.is_kept ≡ true) × (tally.bad ≡ 0))
      (one : done ≡ true → tally.is_reported ≡ true → tally.is_kept ≡ true → tally.bad ≡ 0 → status ≡ 0) where
    last : SoFar o e p checks files rest first out began err blank report tally [] []
    last = u.so_far [] [] (subst (λ fs. AreFound checks.subset fs []) (sym none) tt) (subst (λ fs. AreMissing checks.all fs [] []) (sym none) tt)

    files_are : tally.files ≡ printed (length last.all)
    files_are = all_counted tally.files (length last.all) u.files_fit last.files_are

    good_are : tally.good ≡ printed (good_count last.all)
    good_are = all_counted tally.good (good_count last.all) u.good_fits last.good_are

    bad_are : tally.bad ≡ printed (bad_count last.all)
    bad_are = all_counted tally.bad (bad_count last.all) u.bad_fits last.bad_are

    kept_are : tally.is_kept ≡ all_kept files last.all
    kept_are = sym (and_true tally.is_kept) ∙ ap (λ fs. tally.is_kept && all_kept fs []) (sym none) ∙ last.kept_are

    was_written : (b : Bool) → tally.is_written ≡ b → done ≡ true → tally.is_written ≡ true
    was_written true is holds = is
    was_written false is holds = absurd (let fails = over.lost is in let both : true ≡ false = sym holds ∙ fails in cc)

    ended_line : done ≡ true → o.known first ≡ true → o.sent ended ≡ o.sent first ++ printed_lines files last.all
    ended_line holds k =
        let w = was_written tally.is_written refl holds in
        let sent = ((over.sent w).sent holds (u.known w k)).1 in
        let before : o.sent out ≡ o.sent first ++ ok_lines files last.all = sym (append-nil (o.sent out)) ∙ ap (λ fs. o.sent out ++ ok_lines fs []) (sym none) ∙ last.sent_is w k in
        sent ∙ ap (λ l. l ++ last_line tally.files tally.good tally.bad) before ∙ append_assoc (o.sent first) (ok_lines files last.all) (last_line tally.files tally.good tally.bad)
        ∙ ap (λ n. o.sent first ++ (ok_lines files last.all ++ last_line n tally.good tally.bad)) files_are
        ∙ ap (λ n. o.sent first ++ (ok_lines files last.all ++ last_line (printed (length last.all)) n tally.bad)) good_are
        ∙ ap (λ n. o.sent first ++ (ok_lines files last.all ++ last_line (printed (length last.all)) (printed (good_count last.all)) n)) bad_are

    -- what is done if standard output did not fail
    was_done : (b d : Bool) → tally.is_written ≡ b → done ≡ d → Serves o first ended → done ≡ true
    was_done b true is holds served = holds
    was_done true false is fails served = let rose = (over.sent is).lost fails (u.known is served.0) in absurd (omega (arith, rose, u.kept, served.1))
    was_done false false is fails served = let rose = u.lost is served.0 in absurd (omega (arith, rose, over.kept, served.1))

    -- the report, if it did not fail
    report_is : tally.is_reported ≡ true → p.known blank ≡ true → p.sent report ≡ p.sent blank ++ report_lines checks.subset files last.all
    report_is w k = sym (append-nil (p.sent report)) ∙ ap (λ fs. p.sent report ++ report_lines checks.subset fs []) (sym none) ∙ last.reported_is w k

    was_reported : (b : Bool) → tally.is_reported ≡ b → Serves p blank report → tally.is_reported ≡ true
    was_reported true is served = is
    was_reported false is served = let rose = u.report_lost is served.0 in absurd (omega (arith, rose, served.1))

    err_lines : (d : Bool) → done ≡ d → done ≡ true → Serves e began told → e.sent told ≡ e.sent began ++ told_lines files last.all last.missing
    err_lines d is holds served =
        let same = over.unheard holds in
        let calm : e.errors err ≡ e.errors began = ap e.errors (sym same) ∙ served.1 in
        ap e.sent same ∙ sym (append-nil (e.sent err)) ∙ ap (λ fs. e.sent err ++ told_lines fs [] []) (sym none) ∙ last.told_is served.0 calm

    pub all_read : Verifies o e p checks files status first ended began told blank report
    all_read = record {
      findings = last.all;
      found = last.found;
      missing = last.missing;
      listed = last.listed;
      kept = λ ok. sym kept_are ∙ (zero ok).2;
      good = λ ok. is_zero tally.bad (bad_count last.all) bad_are (zero ok).3;
      written = λ ok. ended_line (zero ok).0;
      entered = λ ok. report_is (zero ok).1;
      done = λ served stored none kept.
          one (was_done tally.is_written done refl refl served) (was_reported tally.is_reported refl stored) (kept_are ∙ kept) (zero_is tally.bad (bad_count last.all) bad_are none);
      printed_is = λ served. ended_line (was_done tally.is_written done refl refl served) served.0;
      entered_is = λ stored. report_is (was_reported tally.is_reported refl stored) stored.0;
      told_is = λ served heard. err_lines done refl (was_done tally.is_written done refl refl served) heard;
    }

    -- after status 0 each file is a stream
    pub all_whole : status ≡ 0 → AreWhole checks.subset files
    all_whole ok = are_whole checks.subset files last.all last.found (is_zero tally.bad (bad_count last.all) bad_are (zero ok).3)
