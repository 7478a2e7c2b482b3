use Rattle.std.proofs.Common.{◌∙◌, sym, List, ℤ, Vec, Global}
use Rattle.std.specs.List.{list_all}
use Rattle.std.proofs.lemmas.List.Folds.{list_all-map}
use Rattle.flac_subframe.specs.format.Numbers.{fits}
use Rattle.flac_raw.proofs.blocks.are_small.Goals as goal

pub returns : goal.returns
returns c = c.all_small.ensures ∙ sym (list_all-map (λ (l : List ℤ). list_all (fits c.args.bits) l) (λ (v : Vec ℤ Global). v.items) c.args.lists.now)
