-- How many lacing values are kept, counted from the first on.
use Rattle.std.proofs.Common.{◌≡◌, ◌<◌, ◌≤◌, ◌+◌, ℕ, zero, suc, Bool, true, false, nat_eq, List, length, drop, get_or, refl, sym, ap, ◌∙◌, arith}
use Rattle.std.specs.Prelude.{◌&&◌, not}
use Rattle.std.proofs.Math.Seq.{drop-cons}
use Rattle.std.proofs.lemmas.List.{drop_all}
use Rattle.flac_around.specs.EmptyPackets.{kept, kept_with}

-- of the first i values the last that is kept is known, and n of those after them are kept
abbrev pub from_here : (i last n : ℕ) → ℕ
from_here i last zero = last
from_here i last (suc n) = i + suc n

one_more : (empty : Bool) (i last new n : ℕ) → (empty ≡ true → new ≡ last) → (empty ≡ false → new ≡ i + 1) → from_here i last (kept_with empty n) ≡ from_here (i + 1) new n
one_more true i last new zero same more = sym (same refl)
one_more true i last new (suc n) same more = omega arith
one_more false i last new zero same more = sym (more refl)
one_more false i last new (suc n) same more = omega arith

pub kept_more : (goes_on : Bool) (lacing : List ℕ) (i last new all : ℕ) → i < length lacing → (nat_eq (get_or lacing i 0) 0 && not goes_on ≡ true → new ≡ last) → (nat_eq (get_or lacing i 0) 0 && not goes_on ≡ false → new ≡ i + 1)
    → all ≡ from_here i last (kept goes_on (drop i lacing)) → all ≡ from_here (i + 1) new (kept (nat_eq (get_or lacing i 0) 255) (drop (i + 1) lacing))
kept_more goes_on lacing i last new all lt same more is =
    let v = get_or lacing i 0 in
    is ∙ ap (λ l. from_here i last (kept goes_on l)) (drop-cons lacing i 0 lt) ∙ one_more (nat_eq v 0 && not goes_on) i last new (kept (nat_eq v 255) (drop (suc i) lacing)) same more
    ∙ ap (λ n. from_here (i + 1) new (kept (nat_eq v 255) (drop n lacing))) (let e : suc i ≡ i + 1 = omega arith in e)

pub kept_all : (goes_on : Bool) (lacing : List ℕ) (i last all : ℕ) → length lacing ≤ i → all ≡ from_here i last (kept goes_on (drop i lacing)) → last ≡ all
kept_all goes_on lacing i last all le is = sym (is ∙ ap (λ l. from_here i last (kept goes_on l)) (drop_all i lacing le))
