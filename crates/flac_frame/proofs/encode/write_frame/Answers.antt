use Rattle.std.proofs.Common.{◌-◌, sym, subst}
use Rattle.flac_frame.specs.Chosen.{IsChoiceByPlane}
use Rattle.flac_frame.specs.Encoding.{block_of, WritesFrameByPlane}
use Rattle.flac_frame.specs.PlaneLists.{Lists}
use Rattle.flac_frame.proofs.encode.write_frame.Goals as goal

pub write_frame_by_plane-requires-clause-chosen : goal.write_frame_by_plane-requires-clause-chosen
write_frame_by_plane-requires-clause-chosen g c =
    let a = c.args.audio.now in
    let r = c.args.range in
    let n = r.end - r.start in
    subst (λ (ls : Lists). IsChoiceByPlane ls a n c.args.number (block_of r.start n a.channels) c.args.choice.now) (sym c.same-planes.ensures) c.requires.chosen

pub returns-clause-wrote : goal.returns-clause-wrote
returns-clause-wrote g c =
    let a = c.args.audio.now in
    let r = c.args.range in
    let n = r.end - r.start in
    let w = c.write_frame_by_plane in
    subst (λ (ls : Lists). WritesFrameByPlane ls a n c.args.number (block_of r.start n a.channels) c.args.writer.now w.new.writer w.result) c.same-planes.ensures w.ensures.wrote
