use Rattle.std.proofs.Common.{◌≡◌, ◌∙◌, IfSome, ap, refl, sym, arith, subst}
use Rattle.flac_cli.specs.Changes.{change_of}
use Rattle.flac_cli.specs.Verified.{ok_part, bad_part}
use Rattle.flac_cli.specs.inner.Verifying.{IsCounted}
use Rattle.flac_cli.specs.Missing.{IsMissingIf, asks_missing}
use Rattle.flac_cli.proofs.Told.{sent_same, told_same, told_then, entered_same}
use Rattle.flac_cli.proofs.Underway.{begins, read_more, all_read, all_whole, first_of, none_of, calm_so_far, line_is}
use Rattle.flac_cli.proofs.Verifying.{stays_then, still}
use Rattle.flac_cli.proofs.verify.verify_files.Goals as goal

pub files-init : goal.files-init
files-init g c = record {
  gone = λ known same. refl;
  kept = omega arith;
  under = λ known same. (known, begins g.O.Target g.E.Target g.P.Target _ _ _ _ _ _ refl refl refl refl refl refl);
}

pub files-preserved : goal.files-preserved
files-preserved g c =
    let inv = c.files.invariant in
    let found = c.find-finding.ensures in
    let said = c.list_missing.ensures in
    let both = stays_then found.stays said.stays in
    record {
      gone = λ known same.
          let calm = calm_so_far _ _ _ _ inv.kept c.next.ensures.faults both.kept same in
          both.left ∙ c.next.ensures.gone (inv.under known calm.0).0 ∙ inv.gone known calm.0;
      kept = omega (arith, inv.kept, c.next.ensures.faults, both.kept);
      under = λ known same.
          let calm = calm_so_far _ _ _ _ inv.kept c.next.ensures.faults both.kept same in
          let each = still found.stays said.stays calm.1 in
          let u = inv.under known calm.0 in
          let here = c.next.ensures.known u.0 in
          let after = found.stays.knows here each.0 in
          let file = found.stays.here in
          let path = c.path.ensures after ∙ ap (λ k. k.path) file in
          let stamp = c.stamp-stamp.ensures after ∙ ap (λ k. k.stamp) file in
          let earlier = c.earlier.ensures after ∙ ap (λ k. k.earlier) file in
          let tags = c.tagged-tagged.ensures after ∙ ap (λ k. k.tagged) file in
          let change = c.compare-change.ensures ∙ ap (λ e. change_of e c.stamp-stamp.result c.find-finding.result) earlier
          ∙ ap (λ s. change_of (g.S.Shelf.current c.next.new.self).earlier s c.find-finding.result) stamp in
          let out = sent_same g.O.Target c.report-is_sent.ensures.out (ap (λ p. ok_part p c.compare-change.result c.tagged-tagged.result c.find-finding.result) path
          ∙ ap (λ d. ok_part (g.S.Shelf.current c.next.new.self).path d c.tagged-tagged.result c.find-finding.result) change
          ∙ ap (λ t. ok_part (g.S.Shelf.current c.next.new.self).path (change_of (g.S.Shelf.current c.next.new.self).earlier (g.S.Shelf.current c.next.new.self).stamp c.find-finding.result) t c.find-finding.result) tags) in
          let err = told_same g.E.Target c.report-is_sent.ensures.err (ap (λ p. bad_part p c.compare-change.result c.find-finding.result) path
          ∙ ap (λ d. bad_part (g.S.Shelf.current c.next.new.self).path d c.find-finding.result) change) in
          let counted = subst (λ d. IsCounted c.find-finding.result d c.report-is_sent.result c.enter-is_entered.result c.files.tally c.add.new.self) change c.add.ensures in
          let line = line_is _ c.reads_again-again.result c.is_sought.result (g.S.Shelf.current c.next.new.self) _ _ c.tagged-tagged.result c.find-finding.result c.is_sought.ensures (c.path-in-files.ensures after ∙ ap (λ k. k.path) file) stamp tags
          (subst (λ k. IfSome k.contents (λ of. c.reads_again-again.result ≡ of.again)) file (c.reads_again-again.ensures after)) (found.found here each.0) in
          let entered = entered_same g.P.Target c.enter-is_entered.ensures line in
          let told = said.told after each.1 in
          let missing = subst (λ k. IsMissingIf (asks_missing c.args.checks.all c.find-finding.result) k told.text) file told.missing in
          (said.stays.knows after each.1, read_more g.O.Target g.E.Target g.P.Target _ _ _ _ _ (g.S.Shelf.current c.next.new.self) _ told.text _ _ u.1 (first_of _ c.files-test.true (c.next.ensures.files u.0) both.rest) (found.found here each.0) out missing (told_then g.E.Target err told.told) entered counted);
    }

pub returns-clause-verified : goal.returns-clause-verified
returns-clause-verified g c = λ known same.
    let u = c.files.invariant.under known (sym c.next.ensures.faults ∙ same) in
    all_read g.O.Target g.E.Target g.P.Target _ _ _ _ _ _ _ u.1 (none_of _ _ _ _ c.files-test.false (c.next.ensures.files u.0)) c.report_end-is_written.ensures c.status_of.ensures.zero c.status_of.ensures.one

pub returns-clause-streams : goal.returns-clause-streams
returns-clause-streams g c = λ ok known same.
    let u = c.files.invariant.under known (sym c.next.ensures.faults ∙ same) in
    all_whole g.O.Target g.E.Target g.P.Target _ _ _ _ _ _ _ u.1 (none_of _ _ _ _ c.files-test.false (c.next.ensures.files u.0)) c.report_end-is_written.ensures c.status_of.ensures.zero c.status_of.ensures.one ok

pub returns-clause-gone : goal.returns-clause-gone
returns-clause-gone g c = λ known same.
    let calm = sym c.next.ensures.faults ∙ same in
    let here = (c.files.invariant.under known calm).0 in
    record {
      over = c.next.ensures.over here c.files-test.false;
      left = c.next.ensures.gone here ∙ c.files.invariant.gone known calm;
    }
