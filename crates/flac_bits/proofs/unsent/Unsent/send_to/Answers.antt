use Rattle.std.proofs.Common.{◌≡◌, length, take, ap, arith}
use Rattle.std.proofs.lemmas.List.{length-take}
use Rattle.flac_bits.specs.Unsent.{Unsent}
use Rattle.flac_bits.proofs.Putting.{sent_mark}
use Rattle.flac_bits.proofs.unsent.Unsent.send_to.Goals as goal

pub returns-clause-kept : goal.returns-clause-kept
returns-clause-kept g c = let i = c.self.inside in let inv = c.self.invariant in let long : length (take i.end i.bytes) ≡ i.end = omega (arith, length-take i.end i.bytes, inv) in (
  ap (λ (u : Unsent). u.rest) c.self.view_is,
  sent_mark i.bytes i.from i.end i.before i.check8 i.check16 _ _ _ i.rest _ (inv.0) (omega (arith, inv)) c.both_checked-check8.ensures.eight c.both_checked-check8.ensures.sixteen c.saturating_add-self-inside.ensures (ap (λ (u : Unsent). u.mark) c.self.view_is),
)
