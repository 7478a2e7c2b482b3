-- Codings as bytes.
use Rattle.std.proofs.Common.{◌≡◌, ◌∙◌, refl, ap, ℕ, ◌+◌, ◌-◌, ◌<◌, ◌≤◌, arith, List, [], ◌∷◌, ◌++◌, length, map, take, drop, set, get_or}
use Rattle.std.proofs.lemmas.Bool.{lt-ltb, le-ltb}
use Rattle.std.proofs.lemmas.List.{take_more_set, map-append, drop_more, get_or-map, length-map}
use Rattle.flac_subframe.specs.declared.format.coding.Coding.{Coding}
use Rattle.flac_subframe.specs.declared.format.coding.Coding.TheVariants.{Rice, Escape}
use Rattle.flac_subframe.specs.format.Cost.{coding_of}

-- one more is put into its place
pub one_coding_more : (i : ℕ) (bytes : List ℕ) (b : ℕ) (c : Coding) → i < length bytes → coding_of b ≡ c → map coding_of (take (i + 1) (set bytes i b)) ≡ map coding_of (take i bytes) ++ c ∷ []
one_coding_more i bytes b c within is =
    ap (map coding_of) (take_more_set bytes i b within)
    ∙ map-append coding_of (take i bytes) (b ∷ [])
    ∙ ap (λ (x : Coding). map coding_of (take i bytes) ++ x ∷ []) is

pub rice_byte : (n : ℕ) → n < 32 → coding_of n ≡ Rice n
unfolding coding_of
rice_byte n small = rw (lt-ltb n 32 small) refl

pub escape_byte : (n : ℕ) → 32 ≤ n → coding_of n ≡ Escape (n - 32)
unfolding coding_of
escape_byte n large = rw (le-ltb n 32 large) refl

-- the next one
pub next_coding : (bytes : List ℕ) (i d : ℕ) → i < length bytes → drop i (map coding_of bytes) ≡ coding_of (get_or bytes i d) ∷ drop (i + 1) (map coding_of bytes)
next_coding bytes i d within =
    drop_more (map coding_of bytes) i (Rice 0) (omega (arith, length-map bytes coding_of, within))
    ∙ ap (λ (x : Coding). x ∷ drop (i + 1) (map coding_of bytes)) (get_or-map coding_of bytes i d (Rice 0) within)
