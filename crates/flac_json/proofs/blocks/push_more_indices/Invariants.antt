use Rattle.std.proofs.Common.{◌≡◌, ◌++◌, drop, map}
use Rattle.flac_json.specs.Json.{more_items, items_of}
use Rattle.flac_json.specs.Blocks.{index_json}
use Rattle.flac_json.proofs.blocks.push_more_indices.Given as goal

abbrev pub invariant-loop-index : goal.invariant-loop-index
invariant-loop-index l = l.text.items ++ more_items (items_of (map index_json (drop l.index-index l.indices))) ≡ l.fn.text.items ++ more_items (items_of (map index_json l.indices))
