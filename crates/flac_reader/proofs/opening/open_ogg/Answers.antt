use Rattle.std.proofs.Common.{◌≡◌, sym, ap, ◌∙◌}
use Rattle.flac_bits.specs.Bits.{bits_of}
use Rattle.flac_bits.specs.State.{short_of}
use Rattle.flac_native.specs.Decoding.{beginning}
use Rattle.flac_native.specs.Giving.{stage_of}
use Rattle.flac_native.specs.declared.fault.Fault.{Fault}
use Rattle.flac_ogg.specs.Stream.{start}
use Rattle.flac_ogg.specs.Decoding.{ogg_reading}
use Rattle.flac_reader.proofs.Openings.{opens_over, starts_over, either_end}
use Rattle.flac_reader.proofs.Refusals.{refuses_input, refuses_memory}
use Rattle.flac_reader.proofs.opening.open_ogg.Goals as goal

pub returns-in-Ok-over-clause-opens : goal.returns-in-Ok-over-clause-opens
returns-in-Ok-over-clause-opens g c = λ known.
    let R = g.R.Source in
    let source = c.args.source in
    let d = c.in-Ok.decoder in
    let r = ogg_reading c.args.profile (beginning (short_of ((R.after source).fails))) (bits_of (R.coming source)) in
    opens_over r c.args.keep c.in-Ok-over.reader (stage_of d) (start c.args.profile) c.in-Ok.ensures.course c.in-Ok.ensures.track
    (either_end _ r c.in-Ok.ensures.stream c.in-Ok.ensures.refused) (c.in-Ok.ensures.known ∙ known) c.in-Ok-over.ensures.head c.in-Ok-over.ensures.info

pub returns-in-Ok-over-clause-starts : goal.returns-in-Ok-over-clause-starts
returns-in-Ok-over-clause-starts g c =
    let R = g.R.Source in
    let source = c.args.source in
    let told = c.in-Ok.ensures in
    starts_over c.in-Ok-over.reader (stage_of c.in-Ok.decoder) c.args.keep (R.known source) (R.errors source) (R.raised source) (R.names source) told.known told.errors told.met told.names
    c.in-Ok-over.ensures.head c.in-Ok-over.ensures.info c.in-Ok-over.ensures.ahead c.in-Ok-over.ensures.start c.in-Ok-over.ensures.past

pub returns-in-Err-over-clause-refused : goal.returns-in-Err-over-clause-refused
returns-in-Err-over-clause-refused g c =
    let R = g.R.Source in
    let source = c.args.source in
    let d = c.in-Ok.decoder in
    let left = c.into_source-left.result in
    let last = c.in-Err-over.refused.left in
    let errors : last.container.pages.errors ≡ R.errors left = cc in
    let raised : last.container.pages.raised ≡ R.raised left = cc in
    let r = ogg_reading c.args.profile (beginning (short_of ((R.after source).fails))) (bits_of (R.coming source)) in
    refuses_input r (stage_of d) (stage_of last) (start c.args.profile) c.in-Err-over.refused.fault (R.known source) (R.errors source) (R.raised source) (R.errors left) (R.raised left)
    c.in-Ok.ensures.course c.in-Ok.ensures.track
    (either_end _ r c.in-Ok.ensures.stream c.in-Ok.ensures.refused)
    c.in-Ok.ensures.known c.in-Ok.ensures.errors c.in-Ok.ensures.met errors raised
    (λ same _. errors ∙ same ∙ sym c.in-Ok.ensures.errors)
    c.in-Err-over.ensures.refused

pub returns-in-Err-over-clause-names : goal.returns-in-Err-over-clause-names
returns-in-Err-over-clause-names g c =
    let R = g.R.Source in
    let names : c.in-Err-over.refused.left.container.pages.names ≡ R.names c.into_source-left.result = cc in
    sym names ∙ c.in-Err-over.ensures.refused.names ∙ c.in-Ok.ensures.names

pub returns-in-Err-clause-refused : goal.returns-in-Err-clause-refused
returns-in-Err-clause-refused g c =
    let R = g.R.Source in
    let source = c.args.source in
    rw c.in-Err.ensures.left (refuses_memory (ogg_reading c.args.profile (beginning (short_of ((R.after source).fails))) (bits_of (R.coming source))) (R.known source) (R.errors source) (R.raised source) c.in-Err.refused.fault
    (ap (λ (f : Fault). f.why) c.in-Err.ensures.memory))

pub returns-in-Err-clause-names : goal.returns-in-Err-clause-names
returns-in-Err-clause-names g c = ap g.R.Source.names c.in-Err.ensures.left
