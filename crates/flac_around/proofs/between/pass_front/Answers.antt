use Rattle.std.proofs.Common.{◌≡◌, ◌≤◌, ◌∙◌, ◌++◌, ◌∷◌, ℕ, List, [], refl, ap, sym, length, take, arith}
use Rattle.std.proofs.lemmas.List.{length-take}
use Rattle.flac_around.proofs.Fronts.{tag_past}
use Rattle.flac_around.proofs.between.pass_front.Goals as goal

none_taken : (bytes : List ℕ) → take 0 bytes ≡ []
none_taken [] = refl
none_taken (x ∷ xs) = refl

from_start : (places coming taken : List ℕ) → take 0 places ++ coming ≡ taken → coming ≡ taken
from_start places coming taken is = ap (λ l. l ++ coming) (sym (none_taken places)) ∙ is

at_most : (n : ℕ) (xs : List ℕ) → n ≤ 10 → length (take n xs) ≤ 10
at_most n xs few = omega (arith, few, length-take n xs)

pub returns-in-Ok-skip-clause-bytes : goal.returns-in-Ok-skip-clause-bytes
returns-in-Ok-skip-clause-bytes g c = λ known.
    let e = c.in-Ok.ensures in
    let xs = take c.in-Ok.count c.fill.new.places in
    let size = c.front_length-size.result in
    tag_past xs (g.S.Source.coming c.args.source.now) (g.S.Source.coming c.fill.new.source) size c.front_length-size.ensures.value c.if-size-lt10.false (at_most _ _ e.few) (from_start c.args.held.now _ _ (e.bytes known))
    ∙ sym (c.in-Ok-skip.ensures.bytes (e.goes.known known))
