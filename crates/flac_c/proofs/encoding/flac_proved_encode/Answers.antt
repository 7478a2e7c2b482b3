use Rattle.std.proofs.Common.{ℕ, List, length, refl, subst, arith}
use Rattle.flac_header.specs.declared.subset.Profile.TheVariants.{Subset}
use Rattle.flac_c.specs.Answers.{IsCopied}
use Rattle.flac_c.proofs.Enough.{enough}
use Rattle.flac_c.proofs.encoding.flac_proved_encode.Goals as goal

pub returns-in-Ok-clause-encoded : goal.returns-in-Ok-clause-encoded
returns-in-Ok-clause-encoded c = λ zero.
    (c.in-Ok.stream.items, c.in-Ok.ensures.encoded, subst (λ (l : List ℕ). IsCopied l c.args.out.now c.copy.new.out c.copy.result) c.as_slice.ensures.value c.copy.ensures)

pub returns-in-Ok-clause-fits : goal.returns-in-Ok-clause-fits
returns-in-Ok-clause-fits c = λ zero room.
    let told = (subst (λ (l : List ℕ). IsCopied l c.args.out.now c.copy.new.out c.copy.result) c.as_slice.ensures.value c.copy.ensures).1 in
    let few = enough c.args.settings.now (length c.args.samples.now) c.args.tags.now Subset 0 c.args.samples.now c.in-Ok.stream.items refl c.in-Ok.ensures.encoded in
    omega (arith, told, few, room)
