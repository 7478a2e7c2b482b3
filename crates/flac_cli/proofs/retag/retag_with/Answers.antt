use Rattle.std.proofs.Common.{◌≡◌, true, map}
use Rattle.flac_cli.proofs.Outcomes.{then_ok}
use Rattle.flac_cli.proofs.Reported.{retagged_fits, served_written}
use Rattle.flac_cli.proofs.retag.retag_with.Goals as goal

pub returns-clause-written : goal.returns-clause-written
returns-clause-written g c = rw (← c.in-Ok.ensures.comments) c.retag.ensures.written

pub returns-clause-outcome : goal.returns-clause-outcome
returns-clause-outcome g c = λ tells served.
    let fault = c.retag.ensures in
    retagged_fits (map (λ word. word.now) c.args.words.now) (g.R.Source.coming c.args.source.now) (g.R.Source.after c.args.source.now) c.in-Ok.comments c.in-Ok.ensures.comments
    tells.0 tells.1 tells.2 served c.retag.result (λ h. (fault.long h).0) fault.short
    (then_ok c.retag.result fault.written (λ w. let t = w tells.0 served.0 in record { info = t.info; list = t.list; rest = t.rest; begins = t.input }))
    fault.refused fault.accepted fault.shown fault.placeless (served_written (g.W.Target.known c.args.target.now ≡ true) c.retag.result (g.W.Target.errors c.args.target.now) (g.W.Target.errors c.retag.new.target) fault.write)

pub returns-clause-served : goal.returns-clause-served
returns-clause-served g c = served_written (g.W.Target.known c.args.target.now ≡ true) c.retag.result (g.W.Target.errors c.args.target.now) (g.W.Target.errors c.retag.new.target) c.retag.ensures.write
