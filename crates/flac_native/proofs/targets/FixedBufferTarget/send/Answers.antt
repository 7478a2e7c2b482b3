use Rattle.std.proofs.Common.{◌≡◌, ◌++◌, ◌∙◌, ap, arith, take}
use Rattle.std.proofs.lemmas.Grind.{common_steps}
use Rattle.flac_native.specs.FixedBuffer.{placed}
use Rattle.flac_native.proofs.FixedBuffers.{placed_more}
use Rattle.flac_native.proofs.targets.FixedBufferTarget.send.Goals as goal

pub returns-in-Ok-clause-bytes : goal.returns-in-Ok-clause-bytes
returns-in-Ok-clause-bytes c = λ known.
    let room = c.args.self.now in
    let sent = take c.min-more.result c.args.bytes.now in
    let e : c.extend_from_slice.new.self.items ≡ room.bytes.items ++ sent = grind (arith, common_steps, c.in-Ok.ensures.items) in
    ap (placed room.places) e ∙ placed_more room.places room.bytes.items sent
