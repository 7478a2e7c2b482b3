-- The parts of an input.
use Rattle.std.proofs.Common.{◌≡◌, ◌-◌, ◌++◌, [], ℕ, Bool, true, false, List, length, take, drop, ap, ◌∙◌, arith}
use Rattle.std.specs.Prelude.{cond, nat_eq, eqb, codes}
use Rattle.std.specs.List.{starts_with}
use Rattle.std.proofs.lemmas.Bool.{and_parts}
use Rattle.std.proofs.lemmas.List.{length-append, append-nil, take-append-drop}
use Rattle.std.proofs.Math.Seq.{drop-append_seam, take-append_seam, drop-length}
use Rattle.flac_around.specs.Around.{around, Parts, front_length, past_front, IsFront, is_back, last_128, all_but_128, without_back}
use Rattle.flac_around.proofs.Fronts.{front_same, front_whole}
use Rattle.flac_around.proofs.Backs.{none_taken, none_dropped}

abbrev made : List ℕ → List ℕ → List ℕ → Parts
made a b c = record { before = a; middle = b; after = c }

same_parts : {a b c d e f : List ℕ} → a ≡ d → b ≡ e → c ≡ f → made a b c ≡ made d e f
same_parts {b = b} {c = c} {d = d} {e = e} x y z = ap (λ l. made l b c) x ∙ ap (λ l. made d l c) y ∙ ap (made d e) z

-- what is at the end, by whether it is a tag
abbrev tail_of : Bool → List ℕ → List ℕ
tail_of b rest = drop (length rest - cond b 128 0) rest

all_dropped : (rest : List ℕ) → drop (length rest - 0) rest ≡ []
all_dropped rest = ap (λ n. drop n rest) (let e : length rest - 0 ≡ length rest = omega arith in e) ∙ drop-length rest

rest_joined : (b : Bool) (rest : List ℕ) → cond b (all_but_128 rest) rest ++ tail_of b rest ≡ rest
rest_joined true rest = take-append-drop (length rest - 128) rest
rest_joined false rest = ap (λ l. rest ++ l) (all_dropped rest) ∙ append-nil rest

pub joined : (bytes : List ℕ) → (around bytes).before ++ ((around bytes).middle ++ (around bytes).after) ≡ bytes
joined bytes =
    let rest = past_front bytes in
    ap (λ l. take (front_length bytes) bytes ++ l) (rest_joined (is_back (last_128 rest)) rest) ∙ take-append-drop (front_length bytes) bytes

-- no tag is at the end
no_back : (rest : List ℕ) → is_back (last_128 rest) ≡ false → tail_of (is_back (last_128 rest)) rest ≡ []
no_back rest none = ap (λ b. tail_of b rest) none ∙ all_dropped rest

no_back_between : (rest : List ℕ) → is_back (last_128 rest) ≡ false → without_back rest ≡ rest
no_back_between rest none = ap (λ b. cond b (all_but_128 rest) rest) none

-- one is
tag_long : (back : List ℕ) → is_back back ≡ true → length back ≡ 128
tag_long back is = let t = (and_parts (nat_eq (length back) 128) (starts_with eqb back (codes "TAG")) is).0 in grind (arith, t)

cut_at : (middle back : List ℕ) → length back ≡ 128 → length (middle ++ back) - 128 ≡ length middle
cut_at middle back long = omega (arith, long, length-append middle back)

back_last : (middle back : List ℕ) → is_back back ≡ true → last_128 (middle ++ back) ≡ back
back_last middle back is = ap (λ n. drop n (middle ++ back)) (cut_at middle back (tag_long back is)) ∙ drop-append_seam middle back

back_there : (middle back : List ℕ) → is_back back ≡ true → is_back (last_128 (middle ++ back)) ≡ true
back_there middle back is = ap is_back (back_last middle back is) ∙ is

back_between : (middle back : List ℕ) → is_back back ≡ true → without_back (middle ++ back) ≡ middle
back_between middle back is =
    ap (λ b. cond b (all_but_128 (middle ++ back)) (middle ++ back)) (back_there middle back is) ∙ ap (λ n. take n (middle ++ back)) (cut_at middle back (tag_long back is)) ∙ take-append_seam middle back

back_off : (middle back : List ℕ) → is_back back ≡ true → tail_of (is_back (last_128 (middle ++ back))) (middle ++ back) ≡ back
back_off middle back is = ap (λ b. tail_of b (middle ++ back)) (back_there middle back is) ∙ back_last middle back is

-- one is at the start
front_there : (front rest : List ℕ) → IsFront front → front_length (front ++ rest) ≡ length front
front_there front rest is =
    front_same front rest (λ few. absurd (omega (arith, few, front_whole front is.tag))) ∙ is.whole

front_off : (front rest : List ℕ) → IsFront front → past_front (front ++ rest) ≡ rest
front_off front rest is = ap (λ n. drop n (front ++ rest)) (front_there front rest is) ∙ drop-append_seam front rest

front_taken : (front rest : List ℕ) → IsFront front → take (front_length (front ++ rest)) (front ++ rest) ≡ front
front_taken front rest is = ap (λ n. take n (front ++ rest)) (front_there front rest is) ∙ take-append_seam front rest

no_front : (bytes : List ℕ) → front_length bytes ≡ 0 → past_front bytes ≡ bytes
no_front bytes none = ap (λ n. drop n bytes) none ∙ none_dropped bytes

no_front_taken : (bytes : List ℕ) → front_length bytes ≡ 0 → take (front_length bytes) bytes ≡ []
no_front_taken bytes none = ap (λ n. take n bytes) none ∙ none_taken bytes

abbrev tail : List ℕ → List ℕ
tail rest = tail_of (is_back (last_128 rest)) rest

pub alone : (bytes : List ℕ) → front_length bytes ≡ 0 → is_back (last_128 bytes) ≡ false → around bytes ≡ made [] bytes []
alone bytes none plain = same_parts (no_front_taken bytes none) (ap without_back (no_front bytes none) ∙ no_back_between bytes plain) (ap tail (no_front bytes none) ∙ no_back bytes plain)

pub both : (front middle back : List ℕ) → IsFront front → is_back back ≡ true → around (front ++ (middle ++ back)) ≡ made front middle back
both front middle back is ends =
    let off = front_off front (middle ++ back) is in
    same_parts (front_taken front (middle ++ back) is) (ap without_back off ∙ back_between middle back ends) (ap tail off ∙ back_off middle back ends)

pub before_alone : (front middle : List ℕ) → IsFront front → is_back (last_128 middle) ≡ false → around (front ++ middle) ≡ made front middle []
before_alone front middle is plain =
    let off = front_off front middle is in
    same_parts (front_taken front middle is) (ap without_back off ∙ no_back_between middle plain) (ap tail off ∙ no_back middle plain)

pub after_alone : (middle back : List ℕ) → front_length (middle ++ back) ≡ 0 → is_back back ≡ true → around (middle ++ back) ≡ made [] middle back
after_alone middle back none ends =
    let off = no_front (middle ++ back) none in
    same_parts (no_front_taken (middle ++ back) none) (ap without_back off ∙ back_between middle back ends) (ap tail off ∙ back_off middle back ends)
