-- Tags by how an input begins and ends.
use Rattle.std.proofs.Common.{◌≡◌, ◌≤◌, ◌<◌, ◌-◌, ◌&&◌, ◌||◌, ℕ, Bool, true, false, List, length, take, drop, nat_lt, nat_le, nat_eq, refl, sym, ap, ◌∙◌, arith, inl, inr, ◌⊎◌}
use Rattle.std.proofs.lemmas.Bool.{cases_lt}
use Rattle.std.proofs.lemmas.Bool.Decides.{nat_tests}
use Rattle.std.proofs.lemmas.List.{length-take-le, take-append-drop}
use Rattle.flac_shelf.specs.Listed.{IsEdges}
use Rattle.flac_shelf.specs.declared.edges.Edges.{Edges}
use Rattle.flac_around.specs.Around.{front_length, past_front, last_128, is_back, has_tags}
use Rattle.flac_around.proofs.Backs.{none_dropped, not_back}
use Rattle.flac_around.proofs.Fronts.{front_same, front_none, front_whole}

-- fewer than ten bytes begin with no tag
few_front : (bytes : List ℕ) → length bytes < 10 → front_length bytes ≡ 0
few_front bytes few = elim (cases_lt (front_length bytes) 10) [
  | inl small ↦ front_none bytes small
  | inr large ↦ let long = front_whole bytes large in absurd (omega (arith, few, long))
]

pub few_tagged : (bytes : List ℕ) (e : Edges) → e.size < 10 → IsEdges bytes e → false ≡ nat_lt 0 (front_length bytes)
few_tagged bytes e few is = ap (nat_lt 0) (sym (few_front bytes (omega (arith, few, is.size))))

-- the first ten bytes show a tag
pub front_seen : (bytes : List ℕ) (e : Edges) → 10 ≤ e.size → IsEdges bytes e → front_length e.first ≡ front_length bytes
front_seen bytes e many is =
    let long : 10 ≤ length bytes = omega (arith, many, is.size) in
    ap front_length (is.first long) ∙ sym (front_same (take 10 bytes) (drop 10 bytes) (λ few. absurd (omega (arith, few, length-take-le 10 bytes long))))
    ∙ ap front_length (take-append-drop 10 bytes)

pub few_untagged : (bytes : List ℕ) (e : Edges) → e.size < 128 → IsEdges bytes e → false ≡ is_back (last_128 bytes)
few_untagged bytes e few is = sym (not_back bytes (omega (arith, few, is.size)))

pub back_seen : (bytes : List ℕ) (e : Edges) → 128 ≤ e.size → IsEdges bytes e → is_back e.last ≡ is_back (last_128 bytes)
back_seen bytes e many is = ap is_back (is.last (omega (arith, many, is.size)))

-- without a tag at the start, all of the input comes after it
pub front_decides : (bytes : List ℕ) → true ≡ nat_lt 0 (front_length bytes) → true ≡ has_tags bytes
front_decides bytes is = ap (λ b. b || is_back (last_128 (past_front bytes))) is

no_front : (n : ℕ) → false ≡ nat_lt 0 n → n ≡ 0
no_front n is = grind (arith, nat_tests)

pub back_decides : (bytes : List ℕ) (back : Bool) → false ≡ nat_lt 0 (front_length bytes) → back ≡ is_back (last_128 bytes) → back ≡ has_tags bytes
back_decides bytes back none is =
    let all : past_front bytes ≡ bytes = ap (λ n. drop n bytes) (no_front (front_length bytes) none) ∙ none_dropped bytes in
    is ∙ ap (λ l. is_back (last_128 l)) (sym all) ∙ ap (λ b. b || is_back (last_128 (past_front bytes))) none
