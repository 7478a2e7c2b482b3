use Rattle.std.proofs.Common.{◌++◌, ap, ◌∙◌}
use Rattle.flac_bits.specs.Bits.{bits_of}
use Rattle.flac_bits.proofs.held.Held.fence.Goals as goal

pub returns-clause-held : goal.returns-clause-held
returns-clause-held c =
    let up = c.lift.ensures.held in
    let back = c.put_back.ensures.same in
    let shut = c.close.ensures in (
      c.put_back.new.self.bytes,
      ap (λ w. w ++ bits_of c.put_back.new.self.bytes) (shut.0) ∙ back.0 ∙ ap (λ w. w ++ bits_of c.lift.new.self.bytes) (up.0) ∙ ap (λ bs. c.args.self.now.word ++ bits_of bs) (up.1),
      shut.2,
    )
