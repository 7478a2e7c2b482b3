use Rattle.flac_cli.specs.Excerpts.{samples_text}
use Rattle.flac_cli.proofs.Excerpts.{SpanSoFar}
use Rattle.flac_cli.proofs.excerpt.send_span.Given as goal

abbrev pub invariant-frames : goal.invariant-frames
invariant-frames g l = SpanSoFar g.W.Target (samples_text l.form.wave l.form.depth) l.fn.reader l.reader l.fn.span l.span l.fn.target l.target
