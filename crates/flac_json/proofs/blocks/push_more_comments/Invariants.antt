use Rattle.std.proofs.Common.{◌≡◌, ◌++◌, drop, map}
use Rattle.flac_json.specs.Json.{more_items, items_of}
use Rattle.flac_json.specs.Blocks.{comment_json}
use Rattle.flac_json.proofs.blocks.push_more_comments.Given as goal

abbrev pub invariant-loop-comment : goal.invariant-loop-comment
invariant-loop-comment l = l.text.items ++ more_items (items_of (map comment_json (drop l.comment-index l.comments))) ≡ l.fn.text.items ++ more_items (items_of (map comment_json l.comments))
