-- The test of UTF-8 by a call that reads a text.
use Rattle.std.proofs.Common.{◌≡◌, Bool, true, false, List, ℕ, Result, Ok, Err, is_ok, refl, sym, ◌∙◌}
use Rattle.std.specs.Prelude.{MatchResult, IsUtf8}
use Rattle.std.specs.Str.{is_utf8}
use Rattle.std.proofs.lemmas.Str.{IsUtf8-from_is_utf8, is_utf8-from_IsUtf8}

not_utf8 : (bytes : List ℕ) (b : Bool) → is_utf8 bytes ≡ b → (IsUtf8 bytes → ⊥) → b ≡ false
not_utf8 bytes true is never = absurd (never (IsUtf8-from_is_utf8 bytes is))
not_utf8 bytes false is never = refl

pub tested : {S E : Type 0} (P : S → Type 0) (Q : E → Type 0) (bytes : List ℕ) (r : Result S E) (b : Bool) → MatchResult r (λ s. P s × IsUtf8 bytes) (λ e. (IsUtf8 bytes → ⊥) × Q e) → b ≡ is_ok r → b ≡ is_utf8 bytes
tested P Q bytes (Ok s) b m is = is ∙ sym (is_utf8-from_IsUtf8 bytes m.1)
tested P Q bytes (Err e) b m is = is ∙ sym (not_utf8 bytes (is_utf8 bytes) refl m.0)
