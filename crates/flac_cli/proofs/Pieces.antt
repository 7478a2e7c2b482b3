-- Pieces that come first of the bytes of a source.
use Rattle.std.proofs.Common.{◌≡◌, ◌≢◌, ◌≤◌, ◌<◌, ◌+◌, ◌++◌, ◌∷◌, [], ℕ, zero, suc, Bool, true, false, List, Vec, Global, length, take, drop, map, get_or, refl, sym, ap, ◌∙◌, append_assoc, length-append, arith, inl, inr}
use Rattle.std.specs.Prelude.{not, nat_eq}
use Rattle.std.specs.Cmp.Lexicographic.{pointwise, bytes_decides}
use Rattle.std.proofs.Math.Seq.{take-append_seam}
use Rattle.std.proofs.lemmas.Bool.{cases_lt}
use Rattle.std.proofs.lemmas.List.{append-nil, append_cancel_left, length-take-le, take-append-drop}
use Rattle.flac_wave.specs.Wave.{all_of}
use Rattle.flac_cli.specs.Waves.{contents}
use Rattle.flac_cli.proofs.Waved.{items}

-- of these bytes, which are to come first, some came, and the rest is to be compared
pub record CameSo (bytes all coming rest : List ℕ) : Type 0 where
  pub done : List ℕ
  pub parts : bytes ≡ done ++ rest
  pub read : all ≡ done ++ coming

pub came_none : (bytes all : List ℕ) → CameSo bytes all all bytes
came_none bytes all = record { done = []; parts = refl; read = refl }

pub came_more : (bytes all coming later rest part more : List ℕ) → CameSo bytes all coming rest → coming ≡ part ++ later → rest ≡ part ++ more → CameSo bytes all later more
came_more bytes all coming later rest part more so is split = record {
  done = so.done ++ part;
  parts = so.parts ∙ (ap (λ l. so.done ++ l) split ∙ sym (append_assoc so.done part more));
  read = so.read ∙ (ap (λ l. so.done ++ l) is ∙ sym (append_assoc so.done part later));
}

-- all came
pub came_all : (bytes all coming rest : List ℕ) → CameSo bytes all coming rest → rest ≡ [] → all ≡ bytes ++ coming
came_all bytes all coming rest so none = so.read ∙ ap (λ l. l ++ coming) (sym (so.parts ∙ (ap (λ l. so.done ++ l) none ∙ append-nil so.done)))

front_same : (xs ys zs ws : List ℕ) → length xs ≡ length ys → xs ++ zs ≡ ys ++ ws → xs ≡ ys
front_same xs ys zs ws long same = sym (take-append_seam xs zs) ∙ (ap (take (length xs)) same ∙ (ap (λ n. take n (ys ++ ws)) long ∙ take-append_seam ys ws))

-- others came
pub came_other : (bytes all coming later rest part more front : List ℕ) → CameSo bytes all coming rest → rest ≡ part ++ more → coming ≡ front ++ later → length front ≤ length part → (length front < length part → later ≡ []) → front ≢ part
    → (others : List ℕ) → all ≢ bytes ++ others
came_other bytes all coming later rest part more front so split is few ends unlike others same = elim (cases_lt (length front) (length part)) [
  | inl fewer ↦
      let none = ends fewer in
      let short : length coming ≡ length front = ap length (is ∙ ap (λ l. front ++ l) none ∙ append-nil front) in
      let long = ap length here ∙ length-append part (more ++ others) in
      omega (arith, short, long, fewer)
  | inr over ↦ unlike (front_same front part later (more ++ others) (omega (arith, few, over)) (sym is ∙ here))
]
  where
    here : coming ≡ part ++ (more ++ others)
    here = append_cancel_left so.done coming (part ++ (more ++ others)) (sym so.read ∙ (same ∙ (ap (λ l. l ++ others) (so.parts ∙ ap (λ l. so.done ++ l) split)
        ∙ (append_assoc so.done (part ++ more) others ∙ ap (λ l. so.done ++ l) (append_assoc part more others)))))

-- ---- all pieces

pieces_split : (ps : List (Vec ℕ Global)) (i : ℕ) (p : Vec ℕ Global) → i < length ps → p ≡ get_or ps i p → all_of (contents ps) ≡ all_of (contents (take i ps)) ++ (items p ++ all_of (contents (drop (suc i) ps)))
pieces_split [] i p within is = absurd (omega (arith, within))
pieces_split (q ∷ ps) zero p within is = ap (λ (v : Vec ℕ Global). items v ++ all_of (contents ps)) (sym is)
pieces_split (q ∷ ps) (suc i) p within is =
    ap (λ l. items q ++ l) (pieces_split ps i p (omega (arith, within)) is) ∙ sym (append_assoc (items q) (all_of (contents (take i ps))) (items p ++ all_of (contents (drop (suc i) ps))))

-- a piece did not come
pub piece_other : (ps : List (Vec ℕ Global)) (i : ℕ) (p : Vec ℕ Global) (all coming : List ℕ) → i < length ps → p ≡ get_or ps i p → all ≡ all_of (contents (take i ps)) ++ coming → ((rest : List ℕ) → coming ≢ items p ++ rest)
    → (others : List ℕ) → all ≢ all_of (contents ps) ++ others
piece_other ps i p all coming within is read unlike others same =
    let first = all_of (contents (take i ps)) in
    let later = all_of (contents (drop (suc i) ps)) in
    unlike (later ++ others) (append_cancel_left first coming (items p ++ (later ++ others)) (sym read ∙ (same ∙ (ap (λ l. l ++ others) (pieces_split ps i p within is)
    ∙ (append_assoc first (items p ++ later) others ∙ ap (λ l. first ++ l) (append_assoc (items p) later others))))))

-- ---- tests

pub is_false : (b : Bool) → not b ≡ true → b ≡ false
is_false true h = absurd cc
is_false false h = refl

pub is_true : (b : Bool) → not b ≡ false → b ≡ true
is_true true h = refl
is_true false h = absurd cc

pub are_equal : (xs ys : List ℕ) (r : Bool) → r ≡ not (pointwise nat_eq xs ys) → r ≡ false → xs ≡ ys
are_equal xs ys r is none = (bytes_decides xs ys).0 (is_true (pointwise nat_eq xs ys) (sym is ∙ none))

pub no_equal : (xs ys : List ℕ) (r : Bool) → r ≡ not (pointwise nat_eq xs ys) → r ≡ true → xs ≢ ys
no_equal xs ys r is some = λ same. let one : pointwise nat_eq xs ys ≡ true = (bytes_decides xs ys).1 same in let other : pointwise nat_eq xs ys ≡ false = is_false (pointwise nat_eq xs ys) (sym is ∙ some) in absurd cc
