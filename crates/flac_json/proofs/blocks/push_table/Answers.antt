use Rattle.std.proofs.Common.{codes, map}
use Rattle.flac_json.specs.Json.{items_of, items_text}
use Rattle.flac_json.specs.Blocks.{point_json}
use Rattle.flac_json.proofs.Pushed.{list_pushed}
use Rattle.flac_json.proofs.blocks.push_table.Goals as goal

pub returns : goal.returns
returns c =
    list_pushed c.args.text.now.items c.extend_from_slice.new.self.items c.push_points.new.text.items c.push.new.self.items (codes ",\"points\":[") (items_text (items_of (map point_json c.args.points.now)))
    c.in_ok-extend_from_slice.ensures.items c.in_ok-push_points.ensures c.in_ok-push.ensures.items
