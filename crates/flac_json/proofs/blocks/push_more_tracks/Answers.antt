use Rattle.std.proofs.Common.{◌++◌, ◌∙◌, ap, map}
use Rattle.flac_json.specs.Json.{json_text, more_items, items_of}
use Rattle.flac_json.specs.Blocks.{track_json}
use Rattle.flac_json.proofs.Pushed.{item_pushed}
use Rattle.flac_json.proofs.blocks.push_more_tracks.Goals as goal

pub loop-track-preserved : goal.loop-track-preserved
loop-track-preserved c =
    item_pushed track_json c.args.tracks.now c.loop-track.track-index c.track-item.result c.loop-track.text.items c.push.new.self.items c.push_track.new.text.items
    (c.args.text.now.items ++ more_items (items_of (map track_json c.args.tracks.now))) c.loop-track-test.true c.loop-track.invariant c.in_ok-push.ensures.items
    (c.in_ok-push_track.ensures ∙ ap (λ t. c.push.new.self.items ++ json_text (track_json t)) c.track-item.is)
