use Rattle.std.proofs.Common.{◌≡◌, ◌+◌, ◌++◌, ◌∷◌, [], sym, ap, ◌∙◌, subst}
use Rattle.flac_frame.specs.Viewed.{frame_of}
use Rattle.flac_frame.specs.Interleaved.{row}
use Rattle.flac_compare.specs.Samples.{samples_from}
use Rattle.flac_compare.proofs.Samples.{samples_none, samples_more}
use Rattle.flac_compare.proofs.Channels.{ended}
use Rattle.flac_compare.proofs.frames.first_difference.Goals as goal

pub loop-k-init : goal.loop-k-init
loop-k-init c = samples_none (frame_of c.args.first.now).channels c.args.i ∙ sym (samples_none (frame_of c.args.second.now).channels c.args.j)

pub loop-k-preserved : goal.loop-k-preserved
loop-k-preserved c =
    let a = (frame_of c.args.first.now).channels in
    let b = (frame_of c.args.second.now).channels in
    let k = c.loop-k.k in
    samples_more a k c.args.i ∙ ap (λ l. l ++ row a (c.args.i + k) ∷ []) c.loop-k.invariant ∙ ap (λ r. samples_from b k c.args.j ++ r ∷ []) c.in-None.ensures ∙ sym (samples_more b k c.args.j)

pub returns-in-Some : goal.returns-in-Some
returns-in-Some c = record { within = c.loop-k-test.true; same = c.loop-k.invariant; differs = c.in-Some.ensures }

pub returns : goal.returns
returns c = subst (λ n. samples_from (frame_of c.args.first.now).channels n c.args.i ≡ samples_from (frame_of c.args.second.now).channels n c.args.j) (ended c.loop-k.k c.args.n c.loop-k-test.false c.loop-k.auto.k-end) c.loop-k.invariant
