use Rattle.std.proofs.Common.{◌≡◌, ◌++◌, length, take, ap, ◌∙◌, arith}
use Rattle.std.proofs.lemmas.List.{length-take}
use Rattle.flac_bits.proofs.Putting.{putting}
use Rattle.flac_bits.proofs.unsent.Unsent.put_codes.Goals as goal

pub returns-clause-put : goal.returns-clause-put
returns-clause-put c =
    let i = c.self.inside in
    let inv = c.self.invariant in
    let got = c.put_codes-end in
    let put = got.ensures.put in
    let long : length (take i.end i.bytes) ≡ i.end = omega (arith, length-take i.end i.bytes, inv) in (
      put.0,
      put.1,
      putting (take i.end i.bytes) (take got.result.0 got.new.bytes) put.2.0 i.from i.rest got.new.rest put.0 _ c.args.self.now c.self.view_is put.2.1 (omega (arith, long, inv))
          (put.2.2 ∙ ap (λ bs. bs ++ put.0) c.copied-rest.ensures),
    )
