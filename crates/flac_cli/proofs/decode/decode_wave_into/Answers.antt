use Rattle.std.proofs.Common.{◌≡◌, ◌∙◌, sym}
use Rattle.flac_bits.specs.Bits.{bit_value}
use Rattle.flac_cli.specs.Reports.{Serves}
use Rattle.flac_cli.proofs.Outcomes.{then_ok, counts_on, same_first, same_second}
use Rattle.flac_cli.proofs.Reported.{unfailed, not_sink}
use Rattle.flac_native.proofs.Sampled.{all_written}
use Rattle.flac_cli.proofs.decode.decode_wave_into.Goals as goal

pub returns-clause-stream : goal.returns-clause-stream
returns-clause-stream g c tells = then_ok c.decode_stream-outcome.result (c.decode_stream-outcome.ensures.takes tells (counts_on _ c.requires.none)) (λ d. (d.0, d.1))

pub returns-clause-written : goal.returns-clause-written
returns-clause-written g c tells told =
    then_ok c.decode_stream-outcome.result (c.decode_stream-outcome.ensures.takes tells (counts_on _ c.requires.none))
    (λ d. (d.0, d.1, all_written (λ s. g.W.Target.known s.target) (λ s. g.W.Target.sent s.target) (λ s. s.asked) (λ s. s.depth) _ d.0 _ d.2 told))

pub returns-clause-outcome : goal.returns-clause-outcome
returns-clause-outcome g c tells served =
    let known = counts_on _ c.requires.none in
    let names = c.decode_stream-outcome.ensures.names in
    let bits : bit_value (g.W.Target.known c.decode_stream-outcome.new.sink.began.value) ≡ bit_value (g.W.Target.known c.args.sink.now.began.value) = same_first _ _ _ _ _ _ names in
    let stays : g.W.Target.errors c.decode_stream-outcome.new.sink.began.value ≡ g.W.Target.errors c.args.sink.now.began.value = same_second _ _ _ _ _ _ names in
    let none : c.decode_stream-outcome.new.sink.failures.count ≡ 0 =
    unfailed g.W.Target.known g.W.Target.errors c.args.sink.now.target c.decode_stream-outcome.new.sink.target c.args.sink.now.began.value c.decode_stream-outcome.new.sink.began.value c.decode_stream-outcome.new.sink.failures.count
    c.requires.began served.0 served.1 bits stays c.failures-failures.ensures.failed in
    c.decode_stream-outcome.ensures.outcome tells known (none ∙ sym c.requires.none)

pub returns-clause-served : goal.returns-clause-served
returns-clause-served g c = not_sink (Serves g.W.Target c.args.sink.now.target c.decode_stream-outcome.new.sink.target) c.decode_stream-outcome.result c.args.sink.now.failures.count c.decode_stream-outcome.new.sink.failures.count c.decode_stream-outcome.ensures.sink c.requires.none (λ served.
    let names = c.decode_stream-outcome.ensures.names in
    let bits : bit_value (g.W.Target.known c.decode_stream-outcome.new.sink.began.value) ≡ bit_value (g.W.Target.known c.args.sink.now.began.value) = same_first _ _ _ _ _ _ names in
    let stays : g.W.Target.errors c.decode_stream-outcome.new.sink.began.value ≡ g.W.Target.errors c.args.sink.now.began.value = same_second _ _ _ _ _ _ names in
    unfailed g.W.Target.known g.W.Target.errors c.args.sink.now.target c.decode_stream-outcome.new.sink.target c.args.sink.now.began.value c.decode_stream-outcome.new.sink.began.value c.decode_stream-outcome.new.sink.failures.count
    c.requires.began served.0 served.1 bits stays c.failures-failures.ensures.failed)
