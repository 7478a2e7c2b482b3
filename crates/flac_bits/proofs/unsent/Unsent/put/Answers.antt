use Rattle.std.proofs.Common.{◌≡◌, length, take, arith}
use Rattle.std.proofs.lemmas.List.{length-take}
use Rattle.flac_bits.specs.Bits.{unsigned}
use Rattle.flac_bits.proofs.Putting.{putting_rest}
use Rattle.flac_bits.proofs.unsent.Unsent.put.Goals as goal

pub returns-clause-put : goal.returns-clause-put
returns-clause-put c = let i = c.self.inside in let inv = c.self.invariant in let long : length (take i.end i.bytes) ≡ i.end = omega (arith, length-take i.end i.bytes, inv) in λ _. putting_rest (take i.end i.bytes) i.from i.rest c.put.new.self (unsigned c.args.n c.args.value) _ c.args.self.now c.self.view_is (omega (arith, long, inv)) c.put.ensures
