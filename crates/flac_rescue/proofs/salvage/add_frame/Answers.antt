use Rattle.std.proofs.Common.{◌≡◌, ◌∙◌, ℕ, ℤ, List, Vec, Global, None, Some, map, sym, ap}
use Rattle.std.proofs.lemmas.Result.{on_ok_weaker}
use Rattle.flac_frame.specs.Frame.{Frame}
use Rattle.flac_rescue.specs.Channels.{extended}
use Rattle.flac_rescue.proofs.salvage.add_frame.Goals as goal

none_is_some : {X : Type 0} (n : ℕ) → None ≡ Some n → X
none_is_some n e = absurd cc

pub returns-in-Some-clause-added : goal.returns-in-Some-clause-added
returns-in-Some-clause-added c =
    let old : List (List ℤ) = map (λ (v : Vec ℤ Global). v.items) c.args.channels.now in
    on_ok_weaker c.extend_channels.result (λ e. λ f n there. e ∙ ap (λ (g : Frame). extended old g.channels) (c.view.ensures ∙ (c.whole_at.ensures.only f n there).0)) c.extend_channels.ensures

pub returns-in-None-clause-added : goal.returns-in-None-clause-added
returns-in-None-clause-added c = λ f n there. none_is_some n (sym c.in-None.is ∙ (c.whole_at.ensures.only f n there).1)
