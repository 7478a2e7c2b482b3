use Rattle.std.proofs.Common.{◌≡◌, ◌++◌, length, take, drop, sym, ap, ◌∙◌, arith}
use Rattle.std.proofs.lemmas.List.{length-take}
use Rattle.flac_bits.specs.Bits.{bits_of}
use Rattle.flac_bits.specs.Check.{fed}
use Rattle.flac_bits.specs.Unsent.{Unsent}
use Rattle.flac_bits.proofs.Check.{past-check8}
use Rattle.flac_bits.proofs.Putting.{checked_is}
use Rattle.flac_bits.proofs.unsent.Unsent.check8.Goals as goal

pub returns : goal.returns
returns c = let i = c.self.inside in let inv = c.self.invariant in let long : length (take i.end i.bytes) ≡ i.end = omega (arith, length-take i.end i.bytes, inv) in
    c.checked8.ensures ∙ ap (λ k. fed 8 7 k i.rest) c.checked8-check.ensures ∙ checked_is 8 7 i.check8 i.bytes i.from i.end i.rest inv.0 (omega (arith, inv))
    ∙ sym (past-check8 (bits_of (drop i.from (take i.end i.bytes)) ++ i.rest) _) ∙ ap (λ (u : Unsent). u.mark.check8) c.self.view_is
