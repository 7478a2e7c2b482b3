-- What a source gave, and what of it is held.
use Rattle.std.proofs.Common.{◌≡◌, ◌≤◌, ◌+◌, ◌-◌, ℕ, [], ◌++◌, append_assoc, Bool, true, false, List, length, take, drop, sym, ap, ◌∙◌, arith}
use Rattle.std.specs.Prelude.{cond, is_some, None}
use Rattle.std.proofs.lemmas.List.{length-append, length-take, append-nil, take-take}
use Rattle.flac_bits.specs.State.{After}
use Rattle.flac_around.specs.EmptyPackets.{trimmed_from}
use Rattle.flac_around.specs.Holding.{part}
use Rattle.flac_around.specs.Trimming.{after_held}
use Rattle.flac_around.proofs.Backs.{none_taken, none_dropped}
use Rattle.flac_around.proofs.Lefts.{given_last}

pub from_start : (places coming taken : List ℕ) → take 0 places ++ coming ≡ taken → coming ≡ taken
from_start places coming taken is = ap (λ l. l ++ coming) (sym (none_taken places)) ∙ is

-- the source is over
pub few_came : (n : ℕ) (places coming later : List ℕ) → coming ≡ take n places ++ later → later ≡ [] → length coming ≤ n
few_came n places coming later is none = omega (arith, ap length is, length-append (take n places) later, length-take n places, ap length none)

pub ends_so : (old new : After) → new ≡ old → new.fails ≡ None → is_some old.fails ≡ false
ends_so old new same none = ap (λ (a : After). is_some a.fails) (sym same) ∙ ap is_some none

-- ---- what is held

none_part : (at end : ℕ) (held : List ℕ) → at ≡ end → part at end held ≡ []
none_part at end held same = let zero : end - at ≡ 0 = omega (arith, same) in ap (λ n. take n (drop at held)) zero ∙ none_taken (drop at held)

front_part : (end : ℕ) (held : List ℕ) → part 0 end held ≡ take end held
front_part end held = let all : end - 0 ≡ end = omega arith in ap (λ n. take n (drop 0 held)) all ∙ ap (take end) (none_dropped held)

pub nothing_held : (la le ba be : ℕ) (lead body : List ℕ) (plain fails left_out : Bool) (coming : List ℕ) → la ≡ le → ba ≡ be → plain ≡ false
    → part la le lead ++ (part ba be body ++ after_held plain fails left_out coming) ≡ trimmed_from fails left_out coming
nothing_held la le ba be lead body plain fails left_out coming a b going =
    ap (λ l. l ++ (part ba be body ++ after_held plain fails left_out coming)) (none_part la le lead a) ∙ ap (λ l. l ++ after_held plain fails left_out coming) (none_part ba be body b) ∙ ap (λ p. cond p coming (trimmed_from fails left_out coming)) going

-- no page came
pub plain_held : (le be : ℕ) (lead body : List ℕ) (fails left_out : Bool) (coming : List ℕ) → part 0 le lead ++ (part 0 be body ++ after_held true fails left_out coming) ≡ take le lead ++ (take be body ++ coming)
plain_held le be lead body fails left_out coming = ap (λ l. l ++ (part 0 be body ++ coming)) (front_part le lead) ∙ ap (λ l. take le lead ++ (l ++ coming)) (front_part be body)

-- a page came, and this is given in its place
pub page_held : (le be n : ℕ) (lead body given : List ℕ) (fails left_out : Bool) (coming : List ℕ) → be ≤ n → take le lead ++ take be (take n body) ≡ given
    → part 0 le lead ++ (part 0 be body ++ after_held false fails left_out coming) ≡ given ++ trimmed_from fails left_out coming
page_held le be n lead body given fails left_out coming less is =
    let more = trimmed_from fails left_out coming in
    ap (λ l. l ++ (part 0 be body ++ more)) (front_part le lead)
    ∙ ap (λ l. take le lead ++ (l ++ more)) (front_part be body ∙ sym (take-take be n body less))
    ∙ sym (append_assoc (take le lead) (take be (take n body)) more) ∙ ap (λ l. l ++ more) is

-- a part of it is given
pub part_given : (at end n : ℕ) (held new buf : List ℕ) → n ≤ end - at → length new ≡ n → new ≡ take (at + n - at) (drop at held) → part at end held ≡ take n (new ++ drop n buf) ++ part (at + n) end held
part_given at end n held new buf few long is =
    sym (append-nil (part at end held)) ∙ given_last at end n held new buf [] few long is ∙ ap (λ l. take n (new ++ drop n buf) ++ l) (append-nil (part (at + n) end held))
