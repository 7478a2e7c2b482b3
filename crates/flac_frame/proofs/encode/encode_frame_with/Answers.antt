use Rattle.std.proofs.Common.{◌-◌, sym, subst}
use Rattle.flac_frame.specs.Encoding.{block_of, WritesFrameByPlane}
use Rattle.flac_frame.specs.Frame.{limits_at}
use Rattle.flac_frame.specs.PlaneLists.{Lists, AreAllWithin}
use Rattle.flac_frame.proofs.encode.encode_frame_with.Goals as goal

pub encode_frame_by_plane-requires-clause-orders : goal.encode_frame_by_plane-requires-clause-orders
encode_frame_by_plane-requires-clause-orders g c =
    let a = c.args.audio.now in
    subst (AreAllWithin (limits_at a.profile a.rate).linear) (sym c.same-planes.ensures) (λ plane. c.requires.orders)

pub returns-clause-wrote : goal.returns-clause-wrote
returns-clause-wrote g c =
    let a = c.args.audio.now in
    let r = c.args.range in
    let n = r.end - r.start in
    let w = c.encode_frame_by_plane in
    subst (λ (ls : Lists). WritesFrameByPlane ls a n c.args.number (block_of r.start n a.channels) c.args.writer.now w.new.writer w.result) c.same-planes.ensures w.ensures.wrote
