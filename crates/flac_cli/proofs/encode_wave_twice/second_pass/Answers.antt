use Rattle.std.proofs.Common.{rules, ◌≡◌, ◌∙◌, ◌++◌, ap, sym, subst, refl, true}
use Rattle.std.proofs.lemmas.List.{append_cancel_left}
use Rattle.std.proofs.lemmas.Result.{err_from_is_err_and}
use Rattle.flac_bits.specs.Bits.{bits_of}
use Rattle.flac_wave.specs.Parts.{given}
use Rattle.flac_wave.specs.Wave.{all_of}
use Rattle.flac_cli.specs.Waves.{contents, stream_samples}
use Rattle.flac_cli.specs.inner.WaveTwice.{EncodesStream, StopsStream, StopsPlan}
use Rattle.flac_cli.proofs.TakenWaves.{known_part}
use Rattle.flac_cli.proofs.WaveTwices.{plan_stopped}
use Rattle.flac_cli.proofs.encode_wave_twice.second_pass.Goals as goal

pub returns-in_err-begins_with_all-clause-refused : goal.returns-in_err-begins_with_all-clause-refused
returns-in_err-begins_with_all-clause-refused g c =
    let p = err_from_is_err_and c.from_residual.result c.from_residual.ensures.1 in
    rw (p.1, p.2) (λ known same. absurd (c.in_err-begins_with_all.ensures.failed known same))

pub returns-in-Ok-clause-written : goal.returns-in-Ok-clause-written
returns-in-Ok-clause-written g c = λ known told rest is.
    let p = c.args.plan in
    let P = c.new-part.result in
    let ok = c.in_ok-begins_with_all.ensures in
    let mid = g.R.Source.coming c.begins_with_all.new.source in
    let before = bits_of (g.W.Target.sent c.args.target) in
    let after = bits_of (g.W.Target.sent c.in-Ok.out) in
    let here : P.source.now ≡ c.begins_with_all.new.source = rw c.new-part.ensures.source refl in
    let first = ap (λ (l : _). all_of (contents l) ++ mid) c.as_slice.ensures.value in
    let read = ok.same c.if-not-branch.false known in
    let cut : mid ≡ rest = append_cancel_left (all_of (contents p.pieces.items)) mid rest (sym (read ∙ first) ∙ is) in
    let same = ap (λ o. given o (g.R.Source.coming P.source.now)) c.new-part.ensures.size ∙ (ap (λ s. given p.size (g.R.Source.coming s)) here ∙ ap (given p.size) cut) in
    let wrote = c.in-Ok.ensures.written (known_part (g.R.Source.known P.source.now) P.failed (ap g.R.Source.known here ∙ ok.known known) c.new-part.ensures.whole) told in
    subst (λ l. EncodesStream p.stream (stream_samples p.wide p.depth l) before after) same wrote

pub returns-in-Err-clause-refused : goal.returns-in-Err-clause-refused
returns-in-Err-clause-refused g c = λ known same.
    let p = c.args.plan in
    let P = c.new-part.result in
    let ok = c.in_ok-begins_with_all.ensures in
    let mid = g.R.Source.coming c.begins_with_all.new.source in
    let others = g.R.Source.coming c.args.second.now in
    let here : P.source.now ≡ c.begins_with_all.new.source = rw c.new-part.ensures.source refl in
    let first = ap (λ (l : _). all_of (contents l) ++ mid) c.as_slice.ensures.value in
    let is = ap (λ o. given o (g.R.Source.coming P.source.now)) c.new-part.ensures.size ∙ ap (λ s. given p.size (g.R.Source.coming s)) here in
    let still : g.R.Source.raised c.encode_samples-made.new.samples.source.now ≡ g.R.Source.raised c.args.second.now = search rules in
    let stops = c.in-Err.ensures.refused (known_part (g.R.Source.known P.source.now) P.failed (ap g.R.Source.known here ∙ ok.known known) c.new-part.ensures.whole)
    (still ∙ sym (ap g.R.Source.raised here ∙ ok.counted)) in
    subst (λ x. StopsPlan p x others) (sym c.from.ensures)
    (plan_stopped p others mid c.in-Err.fault (ok.same c.if-not-branch.false known ∙ first) (subst (λ l. StopsStream p.stream c.in-Err.fault (stream_samples p.wide p.depth l)) is stops))
