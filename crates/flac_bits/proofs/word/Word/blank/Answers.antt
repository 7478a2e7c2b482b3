use Rattle.std.proofs.Common.{◌≡◌, ◌++◌, ◌/◌, ◌-◌, ◌^◌, sym, ap, ◌∙◌, false, replicate, arith}
use Rattle.std.proofs.Math.Nat.{zero-div}
use Rattle.std.proofs.lemmas.List.{append-nil}
use Rattle.flac_bits.specs.Bits.{unsigned}
use Rattle.flac_bits.proofs.Words.{zero_bits}
use Rattle.flac_bits.proofs.word.Word.blank.Goals as goal

pub returns-clause-taken : goal.returns-clause-taken
returns-clause-taken c =
    let n = c.self.inside.count in
    let none : c.self.inside.word ≡ 0 = omega (arith, c.if-self-ne0.false) in
    let count : c.from-count.result ≡ n = c.from-count.ensures in
    sym c.self.view_is ∙ ap (λ w. unsigned n (w / 2 ^ (64 - n))) none ∙ ap (unsigned n) (zero-div (2 ^ (64 - n))) ∙ zero_bits n
    ∙ ap (λ k. replicate k false) (sym count) ∙ sym (append-nil (replicate c.from-count.result false)) ∙ ap (λ bs. replicate c.from-count.result false ++ bs) (sym (c.self-2.view_is ∙ c.empty.ensures))
