use Rattle.std.proofs.Common.{◌*◌, None, Some, sym, subst}
use Rattle.flac_bits.specs.Bits.{bits_of}
use Rattle.flac_bits.specs.State.{short_of}
use Rattle.flac_native.specs.Decoding.{beginning}
use Rattle.flac_ogg.specs.Stream.{start}
use Rattle.flac_ogg.specs.Coming.{ItemsCome}
use Rattle.flac_ogg.proofs.Arriving.{front_ahead, begins_at, stream_comes, refusal_comes, clear_start}
use Rattle.flac_ogg.proofs.decoding.ogg_decoder_returning.Goals as goal

pub returns-in-Ok-clause-stream : goal.returns-in-Ok-clause-stream
returns-in-Ok-clause-stream g c = λ items s.
    let R = g.R.Source in
    let source = c.args.source in
    let mark = beginning (short_of ((R.after source).fails)) in
    let text = bits_of (R.coming source) in
    let front = front_ahead c.in-Ok.pages (R.known source) (R.errors source) (R.raised source) (8 * R.most source) _ text (short_of ((R.after source).fails)) c.in-Ok.ensures.ok in
    rw (c.over-in-Ok.ensures.container, c.over.ensures) (subst (λ a. ItemsCome (start c.args.profile) a items None) (sym front) (stream_comes c.args.profile mark text items s))

pub returns-in-Ok-clause-refused : goal.returns-in-Ok-clause-refused
returns-in-Ok-clause-refused g c = λ items at why r.
    let R = g.R.Source in
    let source = c.args.source in
    let mark = beginning (short_of ((R.after source).fails)) in
    let text = bits_of (R.coming source) in
    let front = front_ahead c.in-Ok.pages (R.known source) (R.errors source) (R.raised source) (8 * R.most source) _ text (short_of ((R.after source).fails)) c.in-Ok.ensures.ok in
    rw (c.over-in-Ok.ensures.container, c.over.ensures) (subst (λ a. ItemsCome (start c.args.profile) a items (Some (at, why))) (sym front) (refusal_comes c.args.profile mark text items at why r))

pub returns-in-Ok-clause-front : goal.returns-in-Ok-clause-front
returns-in-Ok-clause-front g c = λ known.
    let R = g.R.Source in
    let source = c.args.source in
    rw (c.over-in-Ok.ensures.container, c.over.ensures) (begins_at c.in-Ok.pages (R.known source) (R.errors source) (R.raised source) (8 * R.most source) _ (bits_of (R.coming source)) (short_of ((R.after source).fails)) c.in-Ok.ensures.ok known)

pub returns-in-Ok-clause-clear : goal.returns-in-Ok-clause-clear
returns-in-Ok-clause-clear g c = λ none.
    let R = g.R.Source in
    let source = c.args.source in
    let fails = (R.after source).fails in
    let text = bits_of (R.coming source) in
    let front = front_ahead c.in-Ok.pages (R.known source) (R.errors source) (R.raised source) (8 * R.most source) _ text (short_of fails) c.in-Ok.ensures.ok in
    rw (c.over-in-Ok.ensures.container, c.over.ensures, c.over-in-Ok.ensures.track) (clear_start c.args.profile c.in-Ok.pages c.new.result fails text front c.new.ensures none)
