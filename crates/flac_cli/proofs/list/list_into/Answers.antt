use Rattle.std.proofs.Common.{◌≡◌, ◌∙◌, sym, arith}
use Rattle.flac_bits.specs.Bits.{bit_value}
use Rattle.flac_bits.specs.Handing.{outcome_of}
use Rattle.flac_cli.specs.Reports.{Serves}
use Rattle.flac_cli.specs.inner.Outcomes.{at_place}
use Rattle.flac_cli.proofs.Outcomes.{then_ok, counts_on, same_first, same_second}
use Rattle.flac_cli.proofs.Reported.{listed_fits, unfailed}
use Rattle.flac_cli.proofs.list.list_into.Goals as goal

pub returns-clause-stream : goal.returns-clause-stream
returns-clause-stream g c tells = then_ok c.decode_stream-outcome.result (c.decode_stream-outcome.ensures.takes tells (counts_on _ c.requires.none)) (λ d. (d.0, d.1))

pub returns-clause-outcome : goal.returns-clause-outcome
returns-clause-outcome g c tells =
    let known = counts_on _ c.requires.none in
    let names = c.decode_stream-outcome.ensures.names in
    let bits : bit_value (g.W.Target.known c.decode_stream-outcome.new.sink.began.value) ≡ bit_value (g.W.Target.known c.args.sink.now.began.value) = same_first _ _ _ _ _ _ names in
    let stays : g.W.Target.errors c.decode_stream-outcome.new.sink.began.value ≡ g.W.Target.errors c.args.sink.now.began.value = same_second _ _ _ _ _ _ names in
    listed_fits (Serves g.W.Target c.args.sink.now.lines.target c.decode_stream-outcome.new.sink.lines.target)
    c.args.profile (g.R.Source.coming c.args.source.now) (g.R.Source.after c.args.source.now) c.decode_stream-outcome.new.sink.failures.count (outcome_of at_place c.decode_stream-outcome.result)
    (λ none. c.decode_stream-outcome.ensures.outcome tells known (none ∙ sym c.requires.none))
    (λ some. c.decode_stream-outcome.ensures.failed tells known (omega (arith, c.requires.none, some)))
    (λ served. unfailed g.W.Target.known g.W.Target.errors c.args.sink.now.lines.target c.decode_stream-outcome.new.sink.lines.target c.args.sink.now.began.value c.decode_stream-outcome.new.sink.began.value c.decode_stream-outcome.new.sink.failures.count
    c.requires.began served.0 served.1 bits stays c.failures-failures.ensures.failed)
