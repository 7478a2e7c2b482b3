use Rattle.std.proofs.Common.{◌≡◌, ◌∷◌, ◌++◌, [], ℕ, List, ap, sym, ◌∙◌, append_assoc}
use Rattle.flac_json.specs.Texts.{all_digits}
use Rattle.flac_json.proofs.Digits.{escaped_digits}
use Rattle.flac_json.proofs.texts.push_quoted_digits.Goals as goal

-- a mark, a text, a mark
between : (old one two new digits : List ℕ) → one ≡ old ++ 34 ∷ [] → two ≡ one ++ digits → new ≡ two ++ 34 ∷ [] → new ≡ old ++ 34 ∷ (digits ++ 34 ∷ [])
between old one two new digits first then_text last =
    last ∙ ap (λ l. l ++ 34 ∷ []) (then_text ∙ ap (λ l. l ++ digits) first) ∙ append_assoc (old ++ 34 ∷ []) digits (34 ∷ []) ∙ append_assoc old (34 ∷ []) (digits ++ 34 ∷ [])

pub returns : goal.returns
returns c =
    between c.args.text.now.items _ _ c.push-2.new.self.items (all_digits c.args.bytes.now) c.in_ok-push.ensures.items c.in_ok-push_all_digits.ensures c.in_ok-push-2.ensures.items
    ∙ ap (λ l. c.args.text.now.items ++ 34 ∷ (l ++ 34 ∷ [])) (sym (escaped_digits c.args.bytes.now))
