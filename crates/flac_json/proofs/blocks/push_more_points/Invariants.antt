use Rattle.std.proofs.Common.{◌≡◌, ◌++◌, drop, map}
use Rattle.flac_json.specs.Json.{more_items, items_of}
use Rattle.flac_json.specs.Blocks.{point_json}
use Rattle.flac_json.proofs.blocks.push_more_points.Given as goal

abbrev pub invariant-loop-point : goal.invariant-loop-point
invariant-loop-point l = l.text.items ++ more_items (items_of (map point_json (drop l.point-index l.points))) ≡ l.fn.text.items ++ more_items (items_of (map point_json l.points))
