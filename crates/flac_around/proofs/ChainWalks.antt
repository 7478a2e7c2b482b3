-- Bytes of a stream that pass, and where it ends before and after them.
use Rattle.std.proofs.Common.{◌≡◌, ◌≤◌, ◌+◌, ◌-◌, ℕ, [], ◌++◌, append_assoc, Bool, List, length, take, drop, Option, Some, None, refl, sym, ap, subst, ◌∙◌, arith}
use Rattle.std.specs.Prelude.{cond, nat_le, option_map}
use Rattle.std.proofs.lemmas.List.{length-append, take-append-drop}
use Rattle.std.proofs.Math.Seq.{drop-append-add, take-append-add, take-length, drop-length}
use Rattle.flac_around.specs.Chains.{end_of, place_in, up_to, past}
use Rattle.flac_around.specs.Stands.{end_past, end_ahead}
use Rattle.flac_around.specs.declared.walk.Stand.{Stand}
use Rattle.flac_around.specs.declared.walk.Stand.TheVariants.{Lead, Body}
use Rattle.flac_around.specs.inner.Standing.{IsFurther, StandsAfter, Fits, lead_size}
use Rattle.flac_around.proofs.Backs.{none_taken}
use Rattle.flac_around.proofs.ChainEnds.{further, same_test, split_turn, end_least, lead_within}

-- ---- before the segments of a page

less_more : (s n : ℕ) (place : Option ℕ) → option_map (λ k. k - s) (further (s + n) place) ≡ further n place
less_more s n None = refl
less_more s n (Some k) = let e : s + n + k - s ≡ n + k = omega arith in ap Some e

-- n bytes may pass there
pub fits_lead : (stand : Stand) (seen : List ℕ) (n : ℕ) → stand ≡ Lead → Fits stand seen n → length seen + n ≤ lead_size seen
fits_lead stand seen n e h = subst (λ s. Fits s seen n) e h

pub fits_body : (stand : Stand) (seen : List ℕ) (n left : ℕ) (last : Bool) → stand ≡ Body left last → Fits stand seen n → n ≤ left
fits_body stand seen n left last e h = subst (λ s. Fits s seen n) e h

pub lead_passed : (seen bytes coming none : List ℕ) (stand : Stand) → StandsAfter (seen ++ bytes) stand
    → option_map (λ k. k - length seen) (end_of (seen ++ (bytes ++ coming))) ≡ further (length bytes) (end_ahead stand (take 0 none) coming)
lead_passed seen bytes coming none stand is =
    ap (λ l. option_map (λ k. k - length seen) (end_of l)) (sym (append_assoc seen bytes coming))
    ∙ ap (option_map (λ k. k - length seen)) (is coming ∙ ap (λ n. further n (end_ahead stand [] coming)) (length-append seen bytes))
    ∙ less_more (length seen) (length bytes) (end_ahead stand [] coming)
    ∙ ap (λ l. further (length bytes) (end_ahead stand l coming)) (sym (none_taken none))

less_twice : (s n : ℕ) (place : Option ℕ) → ((k : ℕ) → place ≡ Some k → s + n ≤ k) → option_map (λ k. k - s) place ≡ further n (option_map (λ k. k - (s + n)) place)
less_twice s n None least = refl
less_twice s n (Some k) least = let e : k - s ≡ n + (k - (s + n)) = omega (arith, least k refl) in ap Some e

-- more of them are to come
pub lead_goes_on : (seen bytes coming : List ℕ) → length (seen ++ bytes) ≤ lead_size (seen ++ bytes)
    → option_map (λ k. k - length seen) (end_of (seen ++ (bytes ++ coming))) ≡ further (length bytes) (option_map (λ k. k - length (seen ++ bytes)) (end_of ((seen ++ bytes) ++ coming)))
lead_goes_on seen bytes coming few =
    let all = (seen ++ bytes) ++ coming in
    let long = length-append seen bytes in
    let least : (k : ℕ) → end_of all ≡ Some k → length seen + length bytes ≤ k = λ k e. omega (arith, long, lead_within (seen ++ bytes) coming few, end_least all k e) in
    ap (λ l. option_map (λ k. k - length seen) (end_of l)) (sym (append_assoc seen bytes coming))
    ∙ less_twice (length seen) (length bytes) (end_of all) least
    ∙ ap (λ n. further (length bytes) (option_map (λ k. k - n) (end_of all))) (sym long)

-- ---- in the segments

pub body_passed : (left : ℕ) (last : Bool) (bytes coming none : List ℕ) (stand : Stand) → length bytes ≤ left → end_past (left - length bytes) last coming ≡ end_ahead stand [] coming
    → end_past left last (bytes ++ coming) ≡ further (length bytes) (end_ahead stand (take 0 none) coming)
body_passed left last bytes coming none stand few is =
    let n = length bytes in
    let rest = left - n in
    let split : left ≡ n + rest = omega (arith, few) in
    ap (λ m. end_past m last (bytes ++ coming)) split
    ∙ ap (λ m. cond (nat_le (n + rest) m) (cond last (Some (n + rest)) (further (n + rest) (end_of (drop (n + rest) (bytes ++ coming))))) None) (length-append bytes coming)
    ∙ ap (λ b. cond b (cond last (Some (n + rest)) (further (n + rest) (end_of (drop (n + rest) (bytes ++ coming))))) None) (same_test n rest (length coming))
    ∙ ap (λ l. cond (nat_le rest (length coming)) (cond last (Some (n + rest)) (further (n + rest) (end_of l))) None) (drop-append-add bytes coming rest)
    ∙ split_turn (nat_le rest (length coming)) last n rest (end_of (drop rest coming))
    ∙ ap (further n) (is ∙ ap (λ l. end_ahead stand l coming) (sym (none_taken none)))

-- ---- the walk

pub was_lead : (stand : Stand) (seen bytes coming : List ℕ) (there : Option ℕ) → stand ≡ Lead → option_map (λ k. k - length seen) (end_of (seen ++ (bytes ++ coming))) ≡ further (length bytes) there
    → IsFurther (length bytes) (end_ahead stand seen (bytes ++ coming)) there
was_lead stand seen bytes coming there is e = ap (λ s. end_ahead s seen (bytes ++ coming)) is ∙ e

pub was_body : (stand : Stand) (left : ℕ) (last : Bool) (seen bytes coming : List ℕ) (there : Option ℕ) → stand ≡ Body left last → end_past left last (bytes ++ coming) ≡ further (length bytes) there
    → IsFurther (length bytes) (end_ahead stand seen (bytes ++ coming)) there
was_body stand left last seen bytes coming there is e = ap (λ s. end_ahead s seen (bytes ++ coming)) is ∙ e

-- ---- the bytes of the stream, and those after it

pub passed_past : (here there : Option ℕ) (bytes later : List ℕ) → IsFurther (length bytes) here there → past here (bytes ++ later) ≡ past there later
passed_past here None bytes later is = ap (λ p. past p (bytes ++ later)) is ∙ drop-length (bytes ++ later) ∙ sym (drop-length later)
passed_past here (Some k) bytes later is = ap (λ p. past p (bytes ++ later)) is ∙ drop-append-add bytes later k

pub passed_up_to : (here there : Option ℕ) (bytes later : List ℕ) → IsFurther (length bytes) here there → up_to here (bytes ++ later) ≡ bytes ++ up_to there later
passed_up_to here None bytes later is = ap (λ p. up_to p (bytes ++ later)) is ∙ take-length (bytes ++ later) ∙ ap (λ l. bytes ++ l) (sym (take-length later))
passed_up_to here (Some k) bytes later is = ap (λ p. up_to p (bytes ++ later)) is ∙ take-append-add bytes later k

-- all of them
pub both_parts : (place : Option ℕ) (bytes : List ℕ) → up_to place bytes ++ past place bytes ≡ bytes
both_parts place bytes = take-append-drop (place_in place bytes) bytes

pub none_before : (place : Option ℕ) (bytes : List ℕ) → up_to place bytes ≡ [] → past place bytes ≡ bytes
none_before place bytes none = sym (ap (λ l. l ++ past place bytes) none) ∙ both_parts place bytes
