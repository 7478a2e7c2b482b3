use Rattle.flac_native.specs.Given.{plane_lists}
use Rattle.flac_encoder.proofs.Searching.{within_at, found_made}
use Rattle.flac_encoder.proofs.block_search.BlockSearch.frame.Goals as goal

pub frame_bytes-requires-clause-orders : goal.frame_bytes-requires-clause-orders
frame_bytes-requires-clause-orders c =
    let a = c.args.audio.now in
    rw c.as_slice.ensures.value (within_at c.args.given.now (plane_lists c.in_ok-lists.lists.items) c.in_ok-lists.ensures.after a.profile a.rate c.requires.orders)

pub returns-clause-least : goal.returns-clause-least
returns-clause-least c =
    let made = rw c.as_slice.ensures.value at c.frame_bytes.ensures.least in
    found_made c.args.given.now (plane_lists c.in_ok-lists.lists.items) c.in_ok-lists.ensures.after c.args.self.now.effort c.args.audio.now c.args.number c.frame_bytes.result made
