use Rattle.std.proofs.Common.{◌∷◌, false}
use Rattle.flac_whole_pages.specs.Left.{first_part, parts_after}
use Rattle.flac_whole_pages.proofs.Natives.{standing_at, page_more, page_ends}
use Rattle.flac_whole_pages.proofs.native.parts_from.Goals as goal

pub loop-page-preserved : goal.loop-page-preserved
loop-page-preserved c =
    let bytes = c.args.bytes.now in
    let first = c.args.first.now in
    let rest = c.args.rest.now in
    let l = c.loop-page in
    record {
      so_far = page_more bytes first.serial l.frames l.from rest l.page-index c.has_frames-frames.result l.parts.items c.add_gap.new.parts.items c.add_body.new.parts.items
          (first_part first ∷ parts_after bytes first.serial false first.end rest)
          c.loop-page-test.true c.in_ok-add_gap.ensures c.in_ok-add_body.ensures c.has_frames-frames.ensures l.invariant.so_far;
      stand = (standing_at bytes l.page-index rest c.loop-page-test.true l.invariant.stand).1;
    }

pub returns : goal.returns
returns c =
    let bytes = c.args.bytes.now in
    let first = c.args.first.now in
    let rest = c.args.rest.now in
    let l = c.loop-page in
    page_ends bytes first.serial l.frames l.from rest l.page-index l.parts.items c.add_gap-2.new.parts.items
    (first_part first ∷ parts_after bytes first.serial false first.end rest)
    c.loop-page-test.false c.in_ok-add_gap-2.ensures l.invariant.so_far
