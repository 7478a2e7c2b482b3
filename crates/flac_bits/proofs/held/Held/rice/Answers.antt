use Rattle.std.proofs.Common.{◌≡◌, ◌<◌, ◌≤◌, ◌+◌, ◌*◌, ◌^◌, ◌++◌, ℕ, List, Bool, Option, Some, None, IfSome, sym, ap, ◌∙◌, refl}
use Rattle.flac_bits.specs.Bits.{unsigned, bits_of}
use Rattle.flac_bits.specs.Meaning.{unary_bits}
use Rattle.flac_bits.specs.Store.{Store, Fence, passed}
use Rattle.flac_bits.specs.inner.Store.{Takes}
use Rattle.flac_bits.specs.State.{Mark, past}
use Rattle.flac_bits.proofs.Holding.{took_tie, took_mark}
use Rattle.flac_bits.proofs.held.Held.rice.Goals as goal

tied : (xs : List ℕ) (k limit : ℕ) (o : Option ℕ) (old new : List Bool) → IfSome o (λ v. (q : ℕ) × (low : ℕ) × (q ≤ limit) × (low < 2 ^ k) × (v ≡ q * 2 ^ k + low) × (old ≡ (unary_bits q ++ unsigned k low) ++ new)) → (o ≡ None → new ≡ old) → passed xs old ++ old ≡ bits_of xs
    → passed xs new ++ new ≡ bits_of xs
tied xs k limit None old new some none tie = rw (none refl) tie
tied xs k limit (Some v) old new some none tie = took_tie xs (unary_bits some.0 ++ unsigned k some.1) old new some.5 tie

taken_off : (xs bytes : List ℕ) (k limit : ℕ) (start : Mark) (fence : Fence) (o : Option ℕ) (s : Store) (old new : List Bool) → IfSome o (λ v. (q : ℕ) × (low : ℕ) × (q ≤ limit) × (low < 2 ^ k) × (v ≡ q * 2 ^ k + low) × (old ≡ (unary_bits q ++ unsigned k low) ++ new)) → passed xs old ++ old ≡ bits_of xs
    → record { word = old; bytes = bytes; mark = past (passed xs old) start; fence = fence } ≡ s
    → IfSome o (λ v. (q : ℕ) × (low : ℕ) × (q ≤ limit) × (low < 2 ^ k) × (v ≡ q * 2 ^ k + low) × Takes (unary_bits q ++ unsigned k low) s (record { word = new; bytes = bytes; mark = past (passed xs new) start; fence = fence }))
taken_off xs bytes k limit start fence None s old new some tie is = tt
taken_off xs bytes k limit start fence (Some v) s old new some tie is =
    (some.0, some.1, some.2, some.3, some.4, (sym (ap (λ (t : Store). t.word) is) ∙ some.5, ap (λ (t : Store). t.bytes) is, took_mark xs (unary_bits some.0 ++ unsigned k some.1) old new start some.5 tie ∙ ap (λ (t : Store). past (unary_bits some.0 ++ unsigned k some.1) t.mark) is, ap (λ (t : Store). t.fence) is))

pub invariant_of-self : goal.invariant_of-self
invariant_of-self c =
    let inv = c.self.invariant in
    (inv.0, inv.1, inv.2, tied _ _ _ _ _ _ c.rice.ensures.some c.rice.ensures.none inv.3, inv.4, inv.5, inv.6, inv.7)

pub returns-clause-some : goal.returns-clause-some
returns-clause-some c = taken_off _ _ _ _ _ _ _ _ _ _ c.rice.ensures.some c.self.invariant.3 c.self.view_is
