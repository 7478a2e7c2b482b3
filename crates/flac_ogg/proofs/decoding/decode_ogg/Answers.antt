use Rattle.std.proofs.Common.{rules, ◌*◌, ◌∙◌, sym, ap, subst}
use Rattle.std.proofs.lemmas.Result.{IfOk-weaker, IfErr-weaker}
use Rattle.flac_bits.specs.Bits.{bits_of}
use Rattle.flac_bits.specs.State.{short_of}
use Rattle.flac_bits.specs.Handing.{outcome_of}
use Rattle.flac_native.specs.Item.{fault_pair}
use Rattle.flac_native.specs.Decoding.{taken, beginning}
use Rattle.flac_ogg.specs.Stream.{start}
use Rattle.flac_pages.specs.Packets.{Place, ahead}
use Rattle.flac_ogg.specs.Coming.{ItemsCome}
use Rattle.flac_bits.proofs.Handing.{calmer}
use Rattle.flac_ogg.proofs.Arriving.{front_ahead, begins_at, some_come, hands_ogg, decides_ogg, nothing_read, clear_start}
use Rattle.flac_ogg.proofs.decoding.decode_ogg.Goals as goal

pub returns-in-Err-clause-hands : goal.returns-in-Err-clause-hands
returns-in-Err-clause-hands g c = λ known receives.
    let R = g.R.Source in
    nothing_read c.args.profile (taken g.S.Sink.takes) g.S.Sink.errors (beginning (short_of ((R.after c.args.source.now).fails))) (bits_of (R.coming c.args.source.now)) _ c.args.sink.now c.in-Err.why c.in-Err.ensures.err

pub returns-clause-hands : goal.returns-clause-hands
returns-clause-hands g c = λ known receives.
    let R = g.R.Source in
    let source = c.args.source.now in
    let mark = beginning (short_of ((R.after source).fails)) in
    let text = bits_of (R.coming source) in
    let front = ap ahead c.over-packets.ensures ∙ front_ahead c.over.result (R.known source) (R.errors source) (R.raised source) (8 * R.most source) _ text (short_of ((R.after source).fails)) c.over.ensures in
    let there = some_come c.args.profile mark text in
    let come = subst (λ a. ItemsCome (start c.args.profile) a there.items there.end) (sym front) there.come in
    let last = ap (λ (p : Place). p.errors) (sym c.into_pages-pages.ensures) in
    let first = ap (λ (p : Place). p.errors) c.over-packets.ensures in
    calmer _ _ (λ q. let e = last ∙ search (rules, q) ∙ sym first in (e, e))
    (hands_ogg c.args.profile c.over-packets.result c.decode_into-outcome.new.container (λ k. k.pages) (taken g.S.Sink.takes) g.S.Sink.errors mark text there.items there.end _ c.args.sink.now c.decode_into-outcome.new.sink (outcome_of fault_pair c.decode_into-outcome.result)
    (begins_at c.over-packets.result.pages (R.known source) (R.errors source) (R.raised source) (8 * R.most source) _ text (short_of ((R.after source).fails)) (c.over-packets.ensures ∙ c.over.ensures) known) there.come
    (c.decode_into-outcome.ensures.hands (start c.args.profile) c.new-track.ensures (ap (λ (p : Place). p.known) (c.over-packets.ensures ∙ c.over.ensures) ∙ known) receives there.items there.end come))

pub returns-clause-decides : goal.returns-clause-decides
returns-clause-decides g c = λ known receives errors same.
    let R = g.R.Source in
    let source = c.args.source.now in
    let mark = beginning (short_of ((R.after source).fails)) in
    let text = bits_of (R.coming source) in
    let front = ap ahead c.over-packets.ensures ∙ front_ahead c.over.result (R.known source) (R.errors source) (R.raised source) (8 * R.most source) _ text (short_of ((R.after source).fails)) c.over.ensures in
    let last = ap (λ (p : Place). p.errors) (sym c.into_pages-pages.ensures) in
    let first = ap (λ (p : Place). p.errors) c.over-packets.ensures in
    let e = last ∙ search (rules, errors) ∙ sym first in
    decides_ogg c.args.profile _ (taken g.S.Sink.takes) g.S.Sink.errors mark text _ c.args.sink.now c.decode_into-outcome.new.sink (outcome_of fault_pair c.decode_into-outcome.result)
    (λ items end come. c.decode_into-outcome.ensures.hands (start c.args.profile) c.new-track.ensures (ap (λ (p : Place). p.known) (c.over-packets.ensures ∙ c.over.ensures) ∙ known) receives items end (subst (λ a. ItemsCome (start c.args.profile) a items end) (sym front) come))
    (e, e) same

pub returns-clause-read : goal.returns-clause-read
returns-clause-read g c =
    let R = g.R.Source in
    let source = c.args.source.now in
    let fails = (R.after source).fails in
    let text = bits_of (R.coming source) in
    let front = ap ahead c.over-packets.ensures ∙ front_ahead c.over.result (R.known source) (R.errors source) (R.raised source) (8 * R.most source) _ text (short_of fails) c.over.ensures in
    let last = ap (λ (p : Place). p.errors) (sym c.into_pages-pages.ensures) in
    let first = ap (λ (p : Place). p.errors) c.over-packets.ensures in
    IfErr-weaker c.decode_into-outcome.result _ _
    (λ f read known none is.
    let rose = read (ap (λ (p : Place). p.known) (c.over-packets.ensures ∙ c.over.ensures) ∙ known) is (clear_start c.args.profile c.over-packets.result.pages c.new-track.result fails text front c.new-track.ensures none) in
    search (rules, rose, last, first))
    c.decode_into-outcome.ensures.read

pub returns-clause-counted : goal.returns-clause-counted
returns-clause-counted g c =
    let last = ap (λ (p : Place). p.errors) (sym c.into_pages-pages.ensures) in
    let first = ap (λ (p : Place). p.errors) c.over-packets.ensures in
    IfOk-weaker c.decode_into-outcome.result _ _ (λ x met. search (rules, met.1, last, first)) c.decode_into-outcome.ensures.met

pub returns-clause-raised : goal.returns-clause-raised
returns-clause-raised g c =
    let last = ap (λ (p : Place). p.raised) (sym c.into_pages-pages.ensures) in
    let first = ap (λ (p : Place). p.raised) c.over-packets.ensures in
    IfOk-weaker c.decode_into-outcome.result _ _ (λ x met. search (rules, met.3, last, first)) c.decode_into-outcome.ensures.met
