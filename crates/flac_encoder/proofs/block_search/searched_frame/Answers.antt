use Rattle.std.proofs.Common.{sym, subst}
use Rattle.flac_frame.specs.Frame.{limits_at}
use Rattle.flac_frame.specs.PlaneLists.{Lists, AreAllWithin}
use Rattle.flac_encoder.proofs.block_search.searched_frame.Goals as goal

pub frame_bytes-requires-clause-orders : goal.frame_bytes-requires-clause-orders
frame_bytes-requires-clause-orders c =
    let limit = (limits_at c.args.audio.now.profile c.args.audio.now.rate).linear in
    subst (λ (lists : Lists). AreAllWithin limit lists) (sym c.same-planes.ensures) (λ plane. c.requires.orders)
