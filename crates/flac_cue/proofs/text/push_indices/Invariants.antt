use Rattle.std.proofs.Common.{◌≡◌, ◌++◌, drop, flat_map}
use Rattle.flac_cue.specs.Text.{index_line}
use Rattle.flac_cue.proofs.text.push_indices.Given as goal

abbrev pub invariant-loop-index : goal.invariant-loop-index
invariant-loop-index l = l.text.items ++ flat_map (index_line l.cd l.start) (drop l.index-index l.indices) ≡ l.fn.text.items ++ flat_map (index_line l.cd l.start) l.indices
