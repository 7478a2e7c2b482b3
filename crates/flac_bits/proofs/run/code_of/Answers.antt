use Rattle.std.proofs.Common.{◌/◌, ◌^◌, ap, ◌∙◌, arith}
use Rattle.flac_bits.specs.Rice.{folded}
use Rattle.flac_bits.proofs.Codes.{rice_fits}
use Rattle.flac_bits.proofs.Runs.{code_is}
use Rattle.flac_bits.proofs.Signs.{residual_kept}
use Rattle.flac_bits.proofs.run.code_of.Goals as goal

pub returns : goal.returns
returns c =
    let k = c.args.k in
    let v = c.folded-number.result in
    let is = c.folded-number.ensures ∙ ap folded (residual_kept c.args.value c.requires.value) in
    (omega arith, rice_fits k v (v / 2 ^ k) c.requires.k, code_is k v c.args.value c.requires.k is)
