use Rattle.std.proofs.Common.{◌++◌, List, Bool, length, sym, ap, ◌∙◌}
use Rattle.flac_bits.proofs.Words.{length-unsigned}
use Rattle.flac_bits.proofs.word.Word.keep.Goals as goal

pub returns : goal.returns
returns c = (
  c.take-value.new.self,
  c.take-value.ensures.0 ∙ ap (λ bs. bs ++ c.take-value.new.self) (sym c.of_bits.ensures),
  ap (λ (bs : List Bool). length bs) c.of_bits.ensures ∙ length-unsigned c.args.n c.take-value.result,
)
