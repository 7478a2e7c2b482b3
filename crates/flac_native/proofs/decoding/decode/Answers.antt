use Rattle.std.proofs.Common.{inr, subst, rules}
use Rattle.std.proofs.lemmas.Result.{IfErr-weaker}
use Rattle.std.proofs.lemmas.List.{append-nil}
use Rattle.flac_bits.specs.Bits.{bits_of}
use Rattle.flac_bits.specs.State.{short_of}
use Rattle.flac_bits.specs.Handing.{by_grammar, outcome_of}
use Rattle.flac_native.specs.Stream.{grammar, opening}
use Rattle.flac_native.specs.Item.{fault_pair}
use Rattle.flac_native.specs.Coming.{EndsEarly}
use Rattle.flac_native.specs.Decoding.{taken, beginning}
use Rattle.flac_bits.proofs.Handing.{calmer}
use Rattle.flac_native.proofs.Received.{some_come, fronts, hands_placed, decides_of}
use Rattle.flac_native.proofs.decoding.decode.Goals as goal

pub returns-clause-hands : goal.returns-clause-hands
returns-clause-hands g c = λ known receives.
    let R = g.R.Source in
    let source = c.args.source.now in
    let hands = rw c.new-reader.ensures at (c.decode_into-outcome.ensures.hands (opening c.args.profile) c.opening-track.ensures) in
    let whole = rw (append-nil (bits_of (R.coming source))) at hands in
    let there = some_come (opening c.args.profile) (beginning (short_of ((R.after source).fails))) (bits_of (R.coming source)) in
    calmer _ _ (λ q. (search (rules, q.0), search (rules, q.1)))
    (hands_placed (by_grammar grammar (opening c.args.profile) (beginning (short_of ((R.after source).fails))) (bits_of (R.coming source))) (taken g.S.Sink.takes) g.S.Sink.errors (opening c.args.profile) there.parts there.end _ EndsEarly _ c.args.sink.now c.decode_into-outcome.new.sink (outcome_of fault_pair c.decode_into-outcome.result)
    there.come (fronts (opening c.args.profile) (beginning (short_of ((R.after source).fails))) (bits_of (R.coming source)) there.parts there.end there.come) (λ xs at why e. e.0) (whole known receives there.parts there.end there.come))

pub returns-clause-decides : goal.returns-clause-decides
returns-clause-decides g c = λ known receives errors raised same.
    let R = g.R.Source in
    let source = c.args.source.now in
    let hands = rw c.new-reader.ensures at (c.decode_into-outcome.ensures.hands (opening c.args.profile) c.opening-track.ensures) in
    let whole = rw (append-nil (bits_of (R.coming source))) at hands in
    decides_of (by_grammar grammar (opening c.args.profile) (beginning (short_of ((R.after source).fails))) (bits_of (R.coming source))) (taken g.S.Sink.takes) g.S.Sink.errors (opening c.args.profile) _ _ c.args.sink.now c.decode_into-outcome.new.sink (outcome_of fault_pair c.decode_into-outcome.result)
    (λ parts end come. whole known receives parts end come) (search (rules, errors), search (rules, raised)) same

pub returns-clause-sink : goal.returns-clause-sink
returns-clause-sink g c = c.decode_into-outcome.ensures.sink

pub returns-clause-write : goal.returns-clause-write
returns-clause-write g c = c.decode_into-outcome.ensures.write

pub returns-clause-placed : goal.returns-clause-placed
returns-clause-placed g c = λ receives.
    let broken = c.decode_into-outcome.ensures.broken (opening c.args.profile) c.opening-track.ensures in
    IfErr-weaker c.decode_into-outcome.result _ _ (λ f b out.
    let there = b out in
    let took = there.2 receives in
    (took.0, took.1, subst (λ q. EndsEarly q f.at f.why) took.2 there.1)) broken

pub returns-clause-memory : goal.returns-clause-memory
returns-clause-memory g c =
    let broken = c.decode_into-outcome.ensures.broken (opening c.args.profile) c.opening-track.ensures in
    IfErr-weaker c.decode_into-outcome.result _ _ (λ f b is. (b (inr is)).1.1 is) broken

pub returns-clause-names : goal.returns-clause-names
returns-clause-names g c = c.decode_into-outcome.ensures.names
