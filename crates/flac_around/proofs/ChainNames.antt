-- What the names of a source of one stream of a chain keep.
use Rattle.std.proofs.Common.{◌≡◌, ◌<◌, ℕ, ◌∷◌, [], ◌++◌, Bool, true, false, List, length, refl, ap, ◌∙◌, arith}
use Rattle.std.specs.Prelude.{◌&&◌, not}
use Rattle.flac_bits.specs.Bits.{bit_value}
use Rattle.flac_bits.specs.declared.source.Source as source
use Rattle.flac_around.specs.Chains.{later_links}
use Rattle.flac_around.specs.Linking.{named, ghosts_of}
use Rattle.flac_around.specs.declared.chain_link.ChainLink.{ChainLink}

same_parts : (a b xs ys : List ℕ) → length a ≡ length b → a ++ xs ≡ b ++ ys → (a ≡ b) × (xs ≡ ys)
same_parts [] [] xs ys long e = (refl, e)
same_parts [] (y ∷ b) xs ys long e = absurd (omega (arith, long))
same_parts (x ∷ a) [] xs ys long e = absurd (omega (arith, long))
same_parts (x ∷ a) (y ∷ b) xs ys long e =
    let first : x ≡ y = cc in
    let h = same_parts a b xs ys (omega (arith, long)) cc in (ap (λ z. z ∷ a) first ∙ ap (λ l. y ∷ l) h.0, h.1)

-- what the source below was at the start, and its own names
pub record SameStart {S : Type 0} {g : source.Ghosts S} (old new : ChainLink S g) : Type 0 where
  pub known : bit_value (g.known old.began.value) ≡ bit_value (g.known new.began.value)
  pub errors : g.errors old.began.value ≡ g.errors new.began.value
  pub raised : g.raised old.began.value ≡ g.raised new.began.value
  pub later : later_links (g.coming old.began.value) ≡ later_links (g.coming new.began.value)
  pub names : g.names old.source ≡ g.names new.source

same_lists : (b c d e f h : ℕ) (xs ys more others : List ℕ) → b ∷ c ∷ d ∷ named xs more ≡ e ∷ f ∷ h ∷ named ys others → (b ≡ e) × (c ≡ f) × (d ≡ h) × (xs ≡ ys) × (more ≡ others)
same_lists b c d e f h xs ys more others is =
    let long : length xs ≡ length ys = cc in
    let rest : xs ++ more ≡ ys ++ others = cc in
    let parts = same_parts xs ys more others long rest in
    (cc, cc, cc, parts.0, parts.1)

pub same_start : {S : Type 0} {g : source.Ghosts S} (old new : ChainLink S g) → ghosts_of.names old ≡ ghosts_of.names new → SameStart old new
same_start {g = g} old new is =
    let h = same_lists _ _ _ _ _ _ (later_links (g.coming old.began.value)) (later_links (g.coming new.began.value)) (g.names old.source) (g.names new.source) is in
    record { known = h.0; errors = h.1; raised = h.2; later = h.3; names = h.4 }

pub bit_true : (a b : Bool) → bit_value a ≡ bit_value b → b ≡ true → a ≡ true
bit_true true b is e = refl
bit_true false true is e = absurd (omega (arith, is))
bit_true false false is e = absurd cc

-- no error of the source below, which would have raised its count
pub none_failed : (failed known : Bool) (before now : ℕ) → (failed ≡ true → known ≡ true → before < now) → known ≡ true → now ≡ before → failed ≡ false
none_failed true known before now rises is same = absurd (omega (arith, rises refl is, same))
none_failed false known before now rises is same = refl

pub not_true : (b : Bool) → not b ≡ true → b ≡ false
not_true true e = absurd cc
not_true false e = refl

pub both_true : (a b : Bool) → a ≡ true → b ≡ false → a && not b ≡ true
both_true true false e f = refl
both_true true true e f = absurd cc
both_true false b e f = absurd cc
