use Rattle.std.proofs.Common.{List, Bool, length, sym, ap, ◌∙◌}
use Rattle.flac_bits.proofs.Words.{length-unsigned}
use Rattle.flac_bits.proofs.word.Word.count.Goals as goal

pub returns : goal.returns
returns c = (sym (length-unsigned c.self.inside.count _) ∙ ap (λ (bs : List Bool). length bs) c.self.view_is, c.self.invariant.0)
