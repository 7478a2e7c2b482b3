-- A checksum part by part.
use Rattle.std.proofs.Common.{◌≡◌, ℕ, ◌++◌, List, sym, ap, ◌∙◌}
use Rattle.flac_bits.specs.Bits.{bits_of}
use Rattle.flac_bits.specs.Check.{fed, remainder}
use Rattle.flac_bits.proofs.Check.{fed-append, fed_from_zero}
use Rattle.flac_bits.proofs.Holding.{bits_of-append}

pub chained : (a b c : List ℕ) (c1 c2 c3 : ℕ) → c1 ≡ fed 32 79764919 0 (bits_of a) → c2 ≡ fed 32 79764919 c1 (bits_of b) → c3 ≡ fed 32 79764919 c2 (bits_of c) → c3 ≡ remainder 32 79764919 (bits_of (a ++ (b ++ c)))
chained a b c c1 c2 c3 e1 e2 e3 =
    let step = λ (n : ℕ) (l : List ℕ). fed 32 79764919 n (bits_of l) in
    e3 ∙ ap (λ n. step n c) (e2 ∙ ap (λ n. step n b) e1)
    ∙ sym (ap (fed 32 79764919 0) (bits_of-append a (b ++ c)) ∙ fed-append 32 79764919 0 (bits_of a) (bits_of (b ++ c)) ∙ ap (fed 32 79764919 (step 0 a)) (bits_of-append b c) ∙ fed-append 32 79764919 (step 0 a) (bits_of b) (bits_of c))
    ∙ fed_from_zero 32 79764919 (bits_of (a ++ (b ++ c)))
