use Rattle.std.proofs.Common.{◌≡◌, ◌∙◌, ℕ, List, ap, drop, length}
use Rattle.std.proofs.lemmas.List.{take_at, length-take-le}
use Rattle.flac_subframe.proofs.search.wide_choice.copy_first.Goals as goal

pub returns : goal.returns
returns c =
    let long : length c.copy_from_slice.new.self ≡ c.args.count = ap (λ (l : List ℕ). length l) c.copy_from_slice.ensures.after ∙ length-take-le c.args.count c.args.bytes.now c.requires.some in
    take_at c.copy_from_slice.new.self (drop c.args.count c.args.places.now) c.args.count long ∙ c.copy_from_slice.ensures.after
