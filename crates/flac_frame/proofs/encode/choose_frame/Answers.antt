use Rattle.std.proofs.Common.{◌-◌, sym, subst}
use Rattle.flac_frame.specs.Chosen.{IsChoiceByPlane}
use Rattle.flac_frame.specs.Encoding.{block_of}
use Rattle.flac_frame.specs.Frame.{limits_at}
use Rattle.flac_frame.specs.PlaneLists.{Lists, AreAllWithin}
use Rattle.flac_frame.proofs.encode.choose_frame.Goals as goal

pub choose_frame_by_plane-requires-clause-orders : goal.choose_frame_by_plane-requires-clause-orders
choose_frame_by_plane-requires-clause-orders c =
    let a = c.args.audio.now in
    subst (AreAllWithin (limits_at a.profile a.rate).linear) (sym c.same-planes.ensures) (λ plane. c.requires.orders)

pub returns-clause-chosen : goal.returns-clause-chosen
returns-clause-chosen c =
    let a = c.args.audio.now in
    let r = c.args.range in
    let n = r.end - r.start in
    subst (λ (ls : Lists). IsChoiceByPlane ls a n c.args.number (block_of r.start n a.channels) c.choose_frame_by_plane.new.choice) c.same-planes.ensures c.choose_frame_by_plane.ensures.chosen
