-- The bytes of a text, one after another.
use Rattle.std.proofs.Common.{length-drop, subst, cond, Bool, true, false, ◌≡◌, ◌<◌, ◌≤◌, ◌+◌, ◌-◌, ℕ, zero, suc, List, [], ◌∷◌, ◌++◌, length, drop, Option, Some, None, refl, sym, ap, ◌∙◌, arith}
use Rattle.std.proofs.lemmas.List.{at_drop_all, drop-drop}
use Rattle.std.proofs.lemmas.Str.{IsUtf8-from_is_utf8, is_utf8-from_IsUtf8}
use Rattle.std.specs.Prelude.{IsUtf8}
use Rattle.std.specs.Str.{is_utf8}
use Rattle.flac_report.specs.inner.Reading.{letter_in, unescaped, if_utf8}

-- bytes that are passed over
passes : (k : ℕ) (done text : List ℕ) → unescaped k done text ≡ unescaped 0 done (drop k text)
unfolding unescaped
passes zero done text = refl
passes (suc k) done [] = refl
passes (suc k) done (x ∷ xs) = passes k done xs

pub step : (t done : List ℕ) (b n : ℕ) → 0 < length t → 0 < n → letter_in t ≡ Some (b, n) → unescaped 0 done t ≡ unescaped 0 (done ++ b ∷ []) (drop n t)
unfolding unescaped
step [] done b n some more is = absurd (omega arith)
step (x ∷ xs) done b zero some more is = absurd (omega arith)
step (x ∷ xs) done b (suc k) some more is =
    let one : suc k - 1 ≡ k = omega arith in
    rw (is, unescaped, one) (passes k (done ++ b ∷ []) xs)

none : (t done : List ℕ) → 0 < length t → letter_in t ≡ None → unescaped 0 done t ≡ None
unfolding unescaped
none [] done some is = absurd (omega arith)
none (x ∷ xs) done some is = rw (is, unescaped) refl

some_left : (text : List ℕ) (place : ℕ) → place < length text → 0 < length (drop place text)
some_left text place lt = omega (arith, lt, length-drop place text)

drop_twice : (text : List ℕ) (place n : ℕ) → drop n (drop place text) ≡ drop (place + n) text
drop_twice text place n = drop-drop n place text

pub letter_more : (text done new t : List ℕ) (after : Option (List ℕ)) (place b n : ℕ) → place < length text → t ≡ drop place text → 0 < n → Some (b, n) ≡ letter_in t → new ≡ done ++ b ∷ []
    → unescaped 0 done (drop place text) ≡ after → unescaped 0 new (drop (place + n) text) ≡ after
letter_more text done new t after place b n lt is more letter pushed so_far =
    ap (λ l. unescaped 0 l (drop (place + n) text)) pushed ∙ ap (unescaped 0 (done ++ b ∷ [])) (sym (drop_twice text place n))
    ∙ sym (step (drop place text) done b n (some_left text place lt) more (ap letter_in (sym is) ∙ sym letter)) ∙ so_far

pub letter_none : (text done t : List ℕ) (after : Option (List ℕ)) (place : ℕ) → place < length text → t ≡ drop place text → None ≡ letter_in t
    → unescaped 0 done (drop place text) ≡ after → None ≡ after
letter_none text done t after place lt is letter so_far = sym (none (drop place text) done (some_left text place lt) (ap letter_in (sym is) ∙ sym letter)) ∙ so_far

pub letters_end : (text done : List ℕ) (after : Option (List ℕ)) (place : ℕ) → length text ≤ place → unescaped 0 done (drop place text) ≡ after → Some done ≡ after
unfolding unescaped
letters_end text done after place end so_far = sym (at_drop_all (unescaped 0 done) text place end) ∙ so_far

pub utf8_text : (bytes t : List ℕ) → IsUtf8 t → t ≡ bytes → Some t ≡ if_utf8 (Some bytes)
utf8_text bytes t text is = ap Some is ∙ sym (ap (λ b. cond b (Some bytes) None) (is_utf8-from_IsUtf8 bytes (subst IsUtf8 is text)))

utf8_not : (bytes : List ℕ) (b : Bool) → is_utf8 bytes ≡ b → (IsUtf8 bytes → ⊥) → b ≡ false
utf8_not bytes true is never = absurd (never (IsUtf8-from_is_utf8 bytes is))
utf8_not bytes false is never = refl

pub no_text : (bytes : List ℕ) → (IsUtf8 bytes → ⊥) → None ≡ if_utf8 (Some bytes)
no_text bytes never = sym (ap (λ b. cond b (Some bytes) None) (utf8_not bytes (is_utf8 bytes) refl never))
