use Rattle.std.proofs.Common.{◌≡◌, ◌≤◌, ◌<◌, ℕ, ◌+◌, ◌-◌, List, ◌++◌, sym, ap, subst, ◌∙◌, arith}
use Rattle.flac_header.specs.declared.subset.Profile.TheVariants.{Lax}
use Rattle.flac_frame.specs.Frame.{Frame, first_sample}
use Rattle.flac_frame.specs.Kept.{Kept}
use Rattle.flac_salvage.proofs.Finding.{has_bytes}
use Rattle.flac_rescue.specs.Points.{point_of}
use Rattle.flac_rescue.proofs.Pointing.{PointsTo, and_point}
use Rattle.flac_rescue.proofs.points.points_from.Goals as goal

pub frames-smaller : goal.frames-smaller
frames-smaller c =
    let has = has_bytes Lax c.args.info.now c.args.bytes.now c.frames.at c.whole_at.new.buffers.held c.in-Some.count c.in-Some.ensures.found in
    let some = has.0 in
    let inside = has.1 in
    omega (arith, some, inside)

pub frames-preserved : goal.frames-preserved
frames-preserved c =
    let i = c.args.info.now in
    let held = c.whole_at.new.buffers.held in
    let has = has_bytes Lax i c.args.bytes.now c.frames.at held c.in-Some.count c.in-Some.ensures.found in
    let so_far = c.frames.invariant in
    let channels = ap (λ (b : Kept). b.channels) c.anew.ensures ∙ c.in-Some.ensures.room.0 in
    let block = ap (λ (b : Kept). b.max_block) c.anew.ensures ∙ c.in-Some.ensures.room.1 in
    let size : c.in-Ok.length ≡ held.size = c.in-Ok.ensures.1 ∙ c.len.ensures ∙ ap (λ (f : Frame). f.size) c.view-in-frames.ensures in
    let first : first_sample i.greatest_block held ≡ c.frames.sample =
    ap (λ k. first_sample k held) (sym c.greatest_block.ensures.value) ∙ ap (λ f. first_sample c.greatest_block.result f) (sym c.view.ensures) ∙ sym c.first_sample-first.ensures.first ∙ c.if-first-sample.false in
    let more = c.in_ok-add_point.ensures ∙ ap (λ k. c.frames.points.items ++ point_of c.args.every c.frames.sample (c.frames.at - c.args.front) k) size in
    let next = and_point i c.args.bytes.now c.args.front c.args.every c.frames.at c.frames.sample c.frames.points.items c.add_point.new.points.items held c.in-Some.count so_far.so_far c.in-Some.ensures.found first more in
    record {
      within = has.1;
      channels = subst (λ k. i.channels ≤ k) (sym channels) so_far.channels;
      block = subst (λ k. i.greatest_block ≤ k) (sym block) so_far.block;
      before = ap (λ (b : Kept). b.before) c.anew.ensures;
      so_far = subst (λ k. PointsTo i c.args.bytes.now c.args.front c.args.every (c.frames.at + c.in-Some.count) (c.frames.sample + k) c.add_point.new.points.items) (sym (c.from-sample.ensures ∙ size)) next;
    }
