use Rattle.std.proofs.Common.{ℕ, List, length, refl, subst, arith}
use Rattle.flac_header.specs.declared.subset.Profile.{Profile}
use Rattle.flac_c.specs.Answers.{IsCopied}
use Rattle.flac_c.specs.Encoded.{IsEncoded}
use Rattle.flac_c.proofs.Enough.{enough}
use Rattle.flac_c.proofs.encoding.flac_proved_encode_in.Goals as goal

pub returns-in-Ok-clause-encoded : goal.returns-in-Ok-clause-encoded
returns-in-Ok-clause-encoded c = λ zero.
    let is = subst (λ (k : Profile). IsEncoded k c.args.options.now.effort c.args.settings.now c.args.samples.now c.args.tags.now c.in-Ok.stream.items) c.profile_of.ensures c.in-Ok.ensures.encoded in
    (c.in-Ok.stream.items, is, subst (λ (l : List ℕ). IsCopied l c.args.out.now c.copy.new.out c.copy.result) c.as_slice.ensures.value c.copy.ensures)

pub returns-in-Ok-clause-fits : goal.returns-in-Ok-clause-fits
returns-in-Ok-clause-fits c = λ zero room.
    let told = (subst (λ (l : List ℕ). IsCopied l c.args.out.now c.copy.new.out c.copy.result) c.as_slice.ensures.value c.copy.ensures).1 in
    let few = enough c.args.settings.now (length c.args.samples.now) c.args.tags.now c.profile_of.result c.args.options.now.effort c.args.samples.now c.in-Ok.stream.items refl c.in-Ok.ensures.encoded in
    omega (arith, told, few, room)
