use Rattle.std.proofs.Common.{◌≡◌, ◌∙◌, ℕ, ◌+◌, ◌≤◌, ◌^◌, length, [], ◌∷◌, vec_len, ap, sym, subst, arith}
use Rattle.std.proofs.lemmas.List.{length_push}
use Rattle.std.proofs.lemmas.List.Elements.{All-append, All-cons, All-nil}
use Rattle.flac_subframe.specs.declared.search.wide_choice.WideChoice.{WideChoice}
use Rattle.flac_frame.specs.Chosen.{AllHaveCodings}
use Rattle.flac_frame.proofs.frame_choice.FrameChoice.new.Goals as goal

as_many_codings : (n m : ℕ) → n ≡ m → m ≤ n
as_many_codings n m is = omega arith

pub loop-channel-preserved : goal.loop-channel-preserved
loop-channel-preserved c =
    let most : ℕ = c.limits_at-limits.result.partition in
    let before = c.loop-channel.subframes.items in
    let one = c.in_ok-new.field-0 in
    let is = c.in_ok-push.ensures.items in
    record {
      many = ap length is ∙ length_push before one ∙ ap (λ n. n + 1) c.loop-channel.invariant.many;
      codings = subst (AllHaveCodings most) (sym is) (All-append (λ (v : WideChoice). 2 ^ most ≤ vec_len v.codings) before (one ∷ []) c.loop-channel.invariant.codings
          (All-cons (λ (v : WideChoice). 2 ^ most ≤ vec_len v.codings) one [] (as_many_codings _ _ c.in_ok-new.ensures.ok) (All-nil (λ (v : WideChoice). 2 ^ most ≤ vec_len v.codings))));
    }
