use Rattle.std.proofs.Common.{◌++◌, map, inr, refl, sym, ap, subst, ◌∙◌}
use Rattle.std.proofs.lemmas.Result.{err_from_is_err_and}
use Rattle.flac_frame.specs.Audio.{samples_each}
use Rattle.flac_encoder.specs.Pushing.{Pushed, with_target, after_block, spent_with, IsFirst}
use Rattle.flac_encoder.proofs.Pushing.{fault_seen, pushes, begins_push}
use Rattle.flac_encoder.proofs.stream_encoder.StreamEncoder.push.Goals as goal

pub returns-in_err-frame : goal.returns-in_err-frame
returns-in_err-frame g c =
    let p = err_from_is_err_and c.from_residual.result c.from_residual.ensures.1 in
    let b = c.self.inside.blocks in
    let s = c.self.inside.target in
    let seen = fault_seen b s _ (map (λ b. b.now) c.args.block.now) c.self.view_is in
    let e = c.in_err-frame.ensures in
    rw (p.1, p.2) (record {
      next = tt;
      written = tt;
      known = tt;
      counted = tt;
      accepted = tt;
      refused = subst (λ o. IsFirst o c.in_err-frame.field-0.0) seen e.refused;
      kept = λ other. ap (λ x. with_target x s) e.kept ∙ c.self.view_is;
      begun = λ is. absurd (e.unsent is);
      spent = λ is. absurd (e.unsent is);
      failed = λ is. absurd (e.unsent is);
      risen = λ is. absurd (e.unsent is);
      names = ap (λ (x : Pushed g.row.W.Denot). g.W.Target.names x.target) c.self.view_is;
    })

pub returns-in-Ok : goal.returns-in-Ok
returns-in-Ok g c =
    let b = c.self.inside.blocks in
    let s = c.self.inside.target in
    let t = c.send_all.new.target in
    let block = map (λ x. x.now) c.args.block.now in
    let ok = c.in_ok-frame.ensures in
    let sends = c.in-Ok.ensures.sends in
    let same = ap (λ x. with_target x t) (c.sent.ensures ∙ ap (λ x. after_block x (samples_each block) tt) ok.kept) in
    rw (← c.self.view_is) (record {
      next = same;
      written = λ known.
          pushes g.W.Target b tt s t block c.in_ok-frame.frame.items ok.next (with_target c.sent.new.self t) same (sends.sent known ∙ ap (λ l. g.W.Target.sent s ++ l) c.as_slice.ensures.value);
      known = sends.known;
      counted = sends.counted;
      accepted = sym (fault_seen b s (with_target b s) block refl) ∙ ok.accepted;
      refused = tt;
      kept = tt;
      begun = tt;
      spent = tt;
      failed = tt;
      risen = tt;
      names = sends.names;
    })

pub returns : goal.returns
returns g c =
    let b = c.self.inside.blocks in
    let s = c.self.inside.target in
    let t = c.send_all.new.target in
    let block = map (λ x. x.now) c.args.block.now in
    let ok = c.in_ok-frame.ensures in
    let sends = c.in-Err.ensures.sends in
    rw (← c.self.view_is) (record {
      next = tt;
      written = tt;
      known = tt;
      counted = tt;
      accepted = tt;
      refused = inr (sym (fault_seen b s (with_target b s) block refl) ∙ ok.accepted, inr refl);
      kept = λ other. absurd (other refl);
      begun = λ w known.
          let p = sends.begun known in
          begins_push g.W.Target b tt s t block c.in_ok-frame.frame.items ok.next (with_target c.failed.new.self t) p.0 p.1 refl (sym c.as_slice.ensures.value ∙ p.2) p.3;
      spent = λ w. ap (λ x. with_target x t) (c.failed.ensures ∙ ap (λ x. spent_with x tt) ok.kept);
      failed = λ w. sends.rises;
      risen = λ w. sends.risen;
      names = sends.names;
    })
