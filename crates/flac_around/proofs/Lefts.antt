-- What is still to come of the bytes between.
use Rattle.std.proofs.Common.{◌≡◌, ◌≢◌, ◌≤◌, ◌+◌, ◌-◌, ◌++◌, [], ℕ, Bool, true, false, List, length, take, drop, refl, sym, ap, ◌∙◌, arith, append_assoc}
use Rattle.std.proofs.lemmas.List.{take_at, length-append, append-nil, drop-drop}
use Rattle.std.proofs.Math.Seq.{take-add, take-length}
use Rattle.flac_around.specs.Around.{without_back, is_back, all_but_128}
use Rattle.flac_around.specs.Coming.{given, left_of}
use Rattle.flac_around.specs.declared.between.Stage.{Stage}
use Rattle.flac_around.specs.declared.between.Stage.TheVariants.{Unread, Going, Ended}
use Rattle.std.specs.Prelude.{cond}
use Rattle.flac_around.proofs.Backs.{given_past, few_last, few_before, none_taken, none_dropped}

-- ---- at the end

pub tag_taken : (held : List ℕ) → length held ≡ 128 → is_back held ≡ true → [] ≡ without_back held
tag_taken held long is =
    let le : length held ≤ 128 = omega (arith, long) in
    sym (ap (λ l. cond (is_back l) (all_but_128 held) held) (few_last held le) ∙ ap (λ b. cond b (all_but_128 held) held) is ∙ few_before held le)

pub all_given : (held : List ℕ) → length held ≡ 128 → take 128 (drop 0 held) ≡ held
all_given held long = ap (take 128) (none_dropped held) ∙ ap (λ n. take n held) (sym long) ∙ take-length held

pub no_tag_taken : (held : List ℕ) → length held ≡ 128 → is_back held ≡ false → take 128 (drop 0 held) ≡ without_back held
no_tag_taken held long is =
    let le : length held ≤ 128 = omega (arith, long) in
    all_given held long ∙ sym (ap (λ l. cond (is_back l) (all_but_128 held) held) (few_last held le) ∙ ap (λ b. cond b (all_but_128 held) held) is)

-- n bytes of the last ones are given
pub given_last : (from to n : ℕ) (held new buf coming : List ℕ) → n ≤ to - from → length new ≡ n → new ≡ take (from + n - from) (drop from held)
    → take (to - from) (drop from held) ++ coming ≡ take n (new ++ drop n buf) ++ (take (to - (from + n)) (drop (from + n) held) ++ coming)
given_last from to n held new buf coming few long is =
    let xs = drop from held in
    let rest = to - (from + n) in
    let all : to - from ≡ n + rest = omega (arith, few) in
    let part : from + n - from ≡ n = omega arith in
    let front : take n (new ++ drop n buf) ≡ take n xs = take_at new (drop n buf) n long ∙ is ∙ ap (λ m. take m xs) part in
    let back : take rest (drop n xs) ≡ take rest (drop (from + n) held) = ap (take rest) (drop-drop n from held) in
    ap (λ m. take m xs ++ coming) all ∙ ap (λ l. l ++ coming) (take-add n rest xs) ∙ append_assoc (take n xs) (take rest (drop n xs)) coming
    ∙ ap (λ l. take n xs ++ (l ++ coming)) back ∙ ap (λ l. l ++ (take rest (drop (from + n) held) ++ coming)) (sym front)

-- ---- in each stage

pub ended_left : (s : Stage) (f g : Bool) (held now last left coming later front : List ℕ) → s ≡ Ended → last ++ coming ≡ front ++ (left ++ later) → left_of s f held last coming ≡ front ++ left_of s g now left later
ended_left s f g held now last left coming later front is e = ap (λ t. left_of t f held last coming) is ∙ e ∙ ap (λ t. front ++ left_of t g now left later) (sym is)

pub going_left : (s : Stage) (f g : Bool) (held now last left coming later front : List ℕ) → s ≡ Going → g ≡ f → length now ≡ 128 → held ++ coming ≡ front ++ (now ++ later)
    → left_of s f held last coming ≡ front ++ left_of s g now left later
going_left s f g held now last left coming later front is same long e =
    let le : 128 ≤ length (now ++ later) = omega (arith, long, length-append now later) in
    ap (λ t. left_of t f held last coming) is ∙ ap (given f) e ∙ given_past f front (now ++ later) le ∙ ap (λ h. front ++ given h (now ++ later)) (sym same)
    ∙ ap (λ t. front ++ left_of t g now left later) (sym is)

-- the other source ends
pub now_ended : (s t : Stage) (f g : Bool) (held now kept last left coming later front : List ℕ) (n : ℕ) → s ≡ Going → t ≡ Ended → f ≡ false → n ≡ 0 → later ≡ [] → left ≡ without_back now
    → held ++ coming ≡ take n front ++ (now ++ later) → left_of s f held last coming ≡ take 0 front ++ left_of t g kept left later
now_ended s t f g held now kept last left coming later front n is ends none zero over tag e =
    ap (λ u. left_of u f held last coming) is ∙ ap (λ b. given b (held ++ coming)) none
    ∙ ap (given false) (e ∙ ap (λ m. take m front ++ (now ++ later)) zero ∙ ap (λ l. l ++ (now ++ later)) (none_taken front) ∙ ap (λ l. now ++ l) over ∙ append-nil now)
    ∙ sym (ap (λ l. l ++ left_of t g kept left later) (none_taken front) ∙ ap (λ u. left_of u g kept left later) ends ∙ ap (λ l. left ++ l) over ∙ append-nil left ∙ tag)

pub third : (s : Stage) → s ≢ Unread → s ≢ Going → s ≡ Ended
third Unread a b = absurd (a refl)
third Going a b = absurd (b refl)
third Ended a b = refl
