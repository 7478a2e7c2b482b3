use Rattle.flac_ogg.specs.Either.{begins_page}
use Rattle.flac_native.specs.Decoding.{taken}
use Rattle.flac_cli.proofs.Outcomes.{at_ok, is_stream}
use Rattle.flac_cli.proofs.Reported.{decoded_fits, sink_failed}
use Rattle.flac_cli.proofs.streams.decode_stream.Goals as goal

pub returns-clause-takes : goal.returns-clause-takes
returns-clause-takes g c = λ tells receives.
    at_ok c.decode_any.result (λ none. let d = (c.decode_any.ensures.hands tells.0 receives).done (tells.1, tells.2) none in (d.0, is_stream c.args.profile (begins_page (g.R.Source.coming c.args.source.now)) d.0 (g.R.Source.coming c.args.source.now) (g.R.Source.after c.args.source.now) d.1, d.2))

pub returns-clause-outcome : goal.returns-clause-outcome
returns-clause-outcome g c = λ tells receives same.
    decoded_fits c.args.profile (g.R.Source.coming c.args.source.now) (g.R.Source.after c.args.source.now) (taken g.S.Sink.takes) g.S.Sink.errors _ c.args.sink.now _ c.decode_any.result
    (c.decode_any.ensures.hands tells.0 receives) (c.decode_any.ensures.decides tells.0 receives tells.1 tells.2 same) (tells.1, tells.2) same

pub returns-clause-failed : goal.returns-clause-failed
returns-clause-failed g c = λ tells receives rose.
    sink_failed c.args.profile (g.R.Source.coming c.args.source.now) (g.R.Source.after c.args.source.now) (taken g.S.Sink.takes) g.S.Sink.errors _ c.args.sink.now _ c.decode_any.result
    (c.decode_any.ensures.hands tells.0 receives) rose
