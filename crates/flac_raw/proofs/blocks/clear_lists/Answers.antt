use Rattle.std.proofs.Common.{◌≡◌, ◌<◌, ◌+◌, ◌∙◌, ℕ, List, [], length, map, set, get_or, subst, sym, arith, below_more, ℤ, Vec, Global}
use Rattle.std.proofs.lemmas.List.{map-set, length-map, get_or-set_same, get_or-set_other}
use Rattle.flac_raw.proofs.blocks.clear_lists.Goals as goal

cleared : (ls : List (List ℤ)) (i : ℕ) (new : List ℤ) → new ≡ [] → i < length ls → ((c : ℕ) → c < i → get_or ls c [] ≡ []) → (c : ℕ) → c < i + 1 → get_or (set ls i new) c [] ≡ []
cleared ls i new none lt so =
    below_more (λ c. get_or (set ls i new) c [] ≡ []) i (λ c low. get_or-set_other ls i c new [] (λ e. absurd (omega (arith, e, low))) ∙ so c low)
    (get_or-set_same ls i new [] lt ∙ none)

pub loop-i-preserved : goal.loop-i-preserved
loop-i-preserved c =
    let items : Vec ℤ Global → List ℤ = λ v. v.items in
    let lists = c.loop-i.lists in
    let i = c.loop-i.i in
    let lt : i < length (map items lists) = omega (arith, length-map lists items, c.loop-i-test.true, c.loop-i.auto.lists) in
    subst (λ ls. (k : ℕ) → k < i + 1 → get_or ls k [] ≡ []) (sym (map-set items lists i c.clear.new.self))
    (cleared (map items lists) i (items c.clear.new.self) c.clear.ensures.items lt c.loop-i.invariant)
