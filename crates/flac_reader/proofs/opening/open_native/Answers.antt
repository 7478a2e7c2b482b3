use Rattle.std.proofs.Common.{◌≡◌, sym, subst, ◌∙◌}
use Rattle.flac_bits.specs.Bits.{bits_of}
use Rattle.flac_bits.specs.State.{short_of}
use Rattle.flac_bits.specs.Handing.{by_grammar}
use Rattle.flac_native.specs.Stream.{grammar, opening}
use Rattle.flac_native.specs.Coming.{PartsCome}
use Rattle.flac_native.specs.Decoding.{beginning}
use Rattle.flac_native.specs.Giving.{stage_of}
use Rattle.flac_reader.proofs.Openings.{opens_over, starts_over}
use Rattle.flac_reader.proofs.Refusals.{refuses_input}
use Rattle.flac_reader.proofs.opening.open_native.Goals as goal

pub returns-in-Ok-clause-opens : goal.returns-in-Ok-clause-opens
returns-in-Ok-clause-opens g c = λ known.
    let R = g.R.Source in
    let source = c.args.source in
    opens_over (by_grammar grammar (opening c.args.profile) (beginning (short_of ((R.after source).fails))) (bits_of (R.coming source))) c.args.keep c.in-Ok.reader (stage_of c.new.result) (opening c.args.profile) c.new.ensures.course c.new.ensures.track
    (λ parts end read. subst (λ k. PartsCome (opening c.args.profile) k parts end) (sym c.new.ensures.cursor) read) (c.new.ensures.known ∙ known) c.in-Ok.ensures.head c.in-Ok.ensures.info

pub returns-in-Ok-clause-starts : goal.returns-in-Ok-clause-starts
returns-in-Ok-clause-starts g c =
    let R = g.R.Source in
    let source = c.args.source in
    starts_over c.in-Ok.reader (stage_of c.new.result) c.args.keep (R.known source) (R.errors source) (R.raised source) (R.names source) c.new.ensures.known c.new.ensures.errors.0 c.new.ensures.errors.1 c.new.ensures.names
    c.in-Ok.ensures.head c.in-Ok.ensures.info c.in-Ok.ensures.ahead c.in-Ok.ensures.start c.in-Ok.ensures.past

pub returns-in-Err-clause-refused : goal.returns-in-Err-clause-refused
returns-in-Err-clause-refused g c =
    let R = g.R.Source in
    let source = c.args.source in
    let left = c.into_source-left.result in
    let last = c.in-Err.refused.left in
    let errors : last.container.errors ≡ R.errors left = sym c.into_source-left.ensures.errors.0 in
    let raised : last.container.raised ≡ R.raised left = sym c.into_source-left.ensures.errors.1 in
    refuses_input (by_grammar grammar (opening c.args.profile) (beginning (short_of ((R.after source).fails))) (bits_of (R.coming source))) (stage_of c.new.result) (stage_of last) (opening c.args.profile) c.in-Err.refused.fault (R.known source) (R.errors source) (R.raised source) (R.errors left) (R.raised left)
    c.new.ensures.course c.new.ensures.track
    (λ parts end read. subst (λ k. PartsCome (opening c.args.profile) k parts end) (sym c.new.ensures.cursor) read)
    c.new.ensures.known c.new.ensures.errors.0 c.new.ensures.errors.1 errors raised
    (λ _ same. raised ∙ same ∙ sym c.new.ensures.errors.1)
    c.in-Err.ensures.refused

pub returns-in-Err-clause-names : goal.returns-in-Err-clause-names
returns-in-Err-clause-names g c = c.into_source-left.ensures.names ∙ c.in-Err.ensures.refused.names ∙ c.new.ensures.names
