use Rattle.std.proofs.Common.{◌≡◌, ◌++◌, drop, map}
use Rattle.flac_json.specs.Json.{more_items, items_of}
use Rattle.flac_json.specs.Blocks.{track_json}
use Rattle.flac_json.proofs.blocks.push_more_tracks.Given as goal

abbrev pub invariant-loop-track : goal.invariant-loop-track
invariant-loop-track l = l.text.items ++ more_items (items_of (map track_json (drop l.track-index l.tracks))) ≡ l.fn.text.items ++ more_items (items_of (map track_json l.tracks))
