use Rattle.std.proofs.Common.{length, refl, subst, sym, ◌∙◌}
use Rattle.std.proofs.lemmas.Result.{on_ok_weaker}
use Rattle.flac_edit.specs.Device.{IsWord}
use Rattle.flac_edit.proofs.ThreeWrites.{first, second, third, last}
use Rattle.flac_edit.proofs.flipping.flip.Goals as goal

pub returns-in_err-store-clause-any_moment : goal.returns-in_err-store-clause-any_moment
returns-in_err-store-clause-any_moment g c =
    λ k olds news frames flips. first olds news frames c.args.plan.now _ flips _ _ _ c.deref.ensures.value refl refl _ _ (c.store.ensures.any_moment k)

pub returns-in_err-store-2-clause-any_moment : goal.returns-in_err-store-2-clause-any_moment
returns-in_err-store-2-clause-any_moment g c =
    let word = subst (λ l. IsWord c.args.plan.now.header_at (length l)) (sym c.deref-2.ensures.value) c.requires.word in
    λ k olds news frames flips.
    let j = c.store.ensures.known ∙ k in
    second olds news frames c.args.plan.now _ flips _ _ _ c.deref.ensures.value c.deref-2.ensures.value refl _ _ _ _ (c.requires.inside k).comments (c.in_ok-store.ensures.stored k) (c.store.ensures.any_moment k) (c.store-2.ensures.whole j word)

pub returns-clause-any_moment : goal.returns-clause-any_moment
returns-clause-any_moment g c =
    let word = subst (λ l. IsWord c.args.plan.now.header_at (length l)) (sym c.deref-2.ensures.value) c.requires.word in
    λ k olds news frames flips.
    let j = c.store.ensures.known ∙ k in
    let i = c.store-2.ensures.known ∙ j in
    third olds news frames c.args.plan.now _ flips _ _ _ c.deref.ensures.value c.deref-2.ensures.value c.deref-3.ensures.value _ _ _ _ _ _ (c.requires.inside k).comments (c.in_ok-store.ensures.stored k) (c.in_ok-store-2.ensures.stored j) (c.store.ensures.any_moment k) (c.store-2.ensures.whole j word) (c.store-3.ensures.any_moment i)

pub returns-clause-edited : goal.returns-clause-edited
returns-clause-edited g c =
    on_ok_weaker
    c.store-3.result
    (λ holds k olds news frames flips.
    let j = c.store.ensures.known ∙ k in
    let i = c.store-2.ensures.known ∙ j in
    last olds news frames c.args.plan.now _ flips _ _ _ c.deref.ensures.value c.deref-2.ensures.value c.deref-3.ensures.value _ _ _ (c.in_ok-store.ensures.stored k) (c.in_ok-store-2.ensures.stored j) (c.requires.inside k).zeros (c.in_ok-store.ensures.long k) (c.in_ok-store-2.ensures.long j) (holds i))
    c.store-3.ensures.stored
