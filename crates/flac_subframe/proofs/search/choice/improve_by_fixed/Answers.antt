use Rattle.std.proofs.Common.{◌≡◌, ◌∙◌, ◌-◌, sym, ap, ℤ, List, length, take, drop}
use Rattle.std.proofs.lemmas.List.{length-drop, take_rest}
use Rattle.flac_subframe.specs.search.inner.Leaves.{left_by_fixed}
use Rattle.flac_subframe.proofs.lemmas.search.Pieces.{halves_as_long, length-left}
use Rattle.flac_subframe.proofs.search.choice.improve_by_fixed.Goals as goal

pub improve_by_sixteens-requires-clause-greatest : goal.improve_by_sixteens-requires-clause-greatest
improve_by_sixteens-requires-clause-greatest c = λ p le h.
    let view = c.args.subject.now in let o = c.args.order in let s = view.samples.now in
    let rest = view.narrowed.now in
    let part : List ℤ = take (length rest - o) (drop o rest) in
    let same : length part ≡ length s - o = ap (λ (l : List ℤ). length l) (take_rest rest o) ∙ length-drop o rest ∙ ap (λ (l : List ℤ). length l - o) (view.same c.if-not-subject.false) in
    c.greatest_partition_order-partition_order.ensures.greatest p le (halves_as_long o p (left_by_fixed o s) part (length-left o s c.requires.order ∙ sym same) h)
