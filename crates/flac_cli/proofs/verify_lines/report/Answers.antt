use Rattle.std.proofs.Common.{◌∙◌, ◌++◌, ap, sym, codes}
use Rattle.flac_native.specs.Places.{place_text}
use Rattle.flac_shelf.specs.Shown.{shown}
use Rattle.flac_cli.specs.Chains.{stream_path}
use Rattle.flac_cli.specs.Changes.{word_of}
use Rattle.flac_cli.specs.Reports.{fault_line}
use Rattle.flac_cli.specs.Verified.{file_line, ok_part, bad_part}
use Rattle.flac_cli.proofs.Told.{sent_of, none_sent, none_told, told_same, sent_same}
use Rattle.flac_cli.proofs.verify_lines.report.Goals as goal

pub returns-in-Good : goal.returns-in-Good
returns-in-Good g c = record {
  out = sent_same g.O.Target (sent_of g.O.Target c.write_ok.result c.is_ok.result c.is_ok.ensures.value c.write_ok.ensures.kept c.write_ok.ensures.known c.write_ok.ensures.sent c.write_ok.ensures.failed)
      (ap (ok_part c.args.path.now c.args.change c.args.tagged) (sym c.in-Good.is));
  err = told_same g.E.Target (none_told g.E.Target c.args.err.now) (ap (bad_part c.args.path.now c.args.change) (sym c.in-Good.is));
}

pub returns-in-Bad : goal.returns-in-Bad
returns-in-Bad g c =
    let path = stream_path (shown c.args.path.now) c.in-Bad.flaw.stream in
    let word = ap (λ w. fault_line path ((place_text c.in-Bad.flaw.fault.at ++ (codes ": " ++ c.as_str.result.now)) ++ w)) c.word.ensures in
    let text = ap (λ t. fault_line path ((place_text c.in-Bad.flaw.fault.at ++ (codes ": " ++ t)) ++ word_of c.args.change)) c.as_str.ensures in
    record {
      out = sent_same g.O.Target (none_sent g.O.Target c.args.out.now) (ap (ok_part c.args.path.now c.args.change c.args.tagged) (sym c.in-Bad.is));
      err = told_same g.E.Target c.tell_bad.ensures (word ∙ text ∙ ap (bad_part c.args.path.now c.args.change) (sym c.in-Bad.is));
    }

pub returns-in-Unopened : goal.returns-in-Unopened
returns-in-Unopened g c =
    let word = ap (λ w. file_line c.args.path.now (codes "cannot be opened" ++ w)) c.word-in-Unopened.ensures in
    record {
      out = sent_same g.O.Target (none_sent g.O.Target c.args.out.now) (ap (ok_part c.args.path.now c.args.change c.args.tagged) (sym c.in-Unopened.is));
      err = told_same g.E.Target c.tell_bad-in-Unopened.ensures (word ∙ ap (bad_part c.args.path.now c.args.change) (sym c.in-Unopened.is));
    }
