use Rattle.std.proofs.Common.{◌≡◌, ℕ, List, [], ◌∷◌, ◌++◌, Result, ap, ◌∙◌, append_assoc}
use Rattle.std.specs.Prelude.{OnOk}
use Rattle.flac_meta.proofs.comments.Comments.push.Goals as goal

-- a text that is made piece by piece
made : (name value front begun text : List ℕ) → front ≡ name → begun ≡ front ++ 61 ∷ [] → text ≡ begun ++ value → text ≡ name ++ 61 ∷ value
made name value front begun text is more last = last ∙ ap (λ t. t ++ value) (more ∙ ap (λ t. t ++ 61 ∷ []) is) ∙ append_assoc name (61 ∷ []) value

pushed_as : {T E : Type 0} (result : Result T E) (new old : List (List ℕ)) (text same : List ℕ) → text ≡ same → OnOk result (new ≡ old ++ text ∷ []) → OnOk result (new ≡ old ++ same ∷ [])
pushed_as result new old text same is h = rw (← is) h

pub returns-clause-pushed : goal.returns-clause-pushed
returns-clause-pushed c =
    pushed_as c.push-2.result _ _ c.from_vec.result _
    (made c.args.name.now c.args.value.now c.in_ok-text.text.items c.push.new.self.items c.from_vec.result c.in_ok-text.ensures.items c.in_ok-push.ensures.items (c.from_vec.ensures ∙ c.in_ok-extend_from_slice.ensures.items))
    c.push-2.ensures.pushed

pub returns-clause-kept : goal.returns-clause-kept
returns-clause-kept c = c.push-2.ensures.kept
