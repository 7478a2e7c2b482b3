use Rattle.std.proofs.Common.{◌≡◌, ◌-◌, ℕ, List, [], ◌∷◌, length, take, drop, refl, ap, arith, eq-eqb}
use Rattle.std.proofs.lemmas.Bool.{eqb-true}
use Rattle.std.proofs.lemmas.List.{length-drop, length-take}
use Rattle.flac_bits.specs.Store.{Store}
use Rattle.flac_bits.proofs.held.Held.is_drained.Goals as goal

empty : (xs : List ℕ) → length xs ≡ 0 → xs ≡ []
empty [] e = refl
empty (x ∷ xs) e = absurd (omega (arith, e))

pub returns : goal.returns
returns c =
    let inv = c.self.invariant in
    let is : drop c.self.inside.place (take c.self.inside.end c.self.inside.bytes) ≡ c.args.self.now.bytes = ap (λ (s : Store). s.bytes) c.self.view_is in
    let long : length c.args.self.now.bytes ≡ c.self.inside.end - c.self.inside.place =
    omega (arith, ap (λ (xs : List ℕ). length xs) is, length-drop c.self.inside.place (take c.self.inside.end c.self.inside.bytes), length-take c.self.inside.end c.self.inside.bytes, inv.2, inv.4) in (
      λ yes. empty _ (let e = eqb-true c.self.inside.place c.self.inside.end yes in omega (arith, e, long)),
      λ none. eq-eqb c.self.inside.place c.self.inside.end (omega (arith, ap (λ (xs : List ℕ). length xs) none, long, inv.1)),
    )
