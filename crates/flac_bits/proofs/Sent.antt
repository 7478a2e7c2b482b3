-- What was sent of some bytes, and what is left of them, after one more piece.
use Rattle.std.proofs.Common.{◌≡◌, ℕ, ◌-◌, List, ◌++◌, length, take, drop, sym, ap, refl, ◌∙◌, arith, append_assoc}
use Rattle.std.proofs.lemmas.List.{take-append-drop, length-drop, take_all}

pub sent_more : {now next : List ℕ} (bytes old front left : List ℕ) (n : ℕ) → bytes ≡ front ++ left → now ≡ old ++ front
    → next ≡ now ++ take n left → (x : List ℕ) × (bytes ≡ x ++ take (length left - n) (drop n left)) × (next ≡ old ++ x)
sent_more bytes old front left n is so more =
    let rest : take (length left - n) (drop n left) ≡ drop n left = take_all (length left - n) (drop n left) (omega (arith, length-drop n left)) in
    let whole : (front ++ take n left) ++ drop n left ≡ front ++ left = rw append_assoc (ap (λ xs. front ++ xs) (take-append-drop n left)) in
    let after : (old ++ front) ++ take n left ≡ old ++ (front ++ take n left) = rw append_assoc refl in
    (front ++ take n left, is ∙ sym whole ∙ ap (λ xs. (front ++ take n left) ++ xs) (sym rest), more ∙ ap (λ xs. xs ++ take n left) so ∙ after)
