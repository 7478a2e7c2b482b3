use Rattle.std.proofs.Common.{◌≡◌, ◌≤◌, None, length, true, refl, sym, subst, arith}
use Rattle.std.proofs.lemmas.List.{length_push}
use Rattle.flac_meta.specs.SeekTable.{in_order}
use Rattle.flac_meta.specs.declared.seek_table.SeekPoint.{SeekPoint}
use Rattle.flac_draft.specs.Table.{Table}
use Rattle.flac_draft.specs.inner.Gathering.{AreBefore}
use Rattle.flac_draft.proofs.Points.{in_order_more}
use Rattle.flac_draft.proofs.point_table.PointTable.note.Goals as goal

pub invariant_of-self-2 : goal.invariant_of-self-2
invariant_of-self-2 c =
    let i = c.self.inside in
    let points = i.points.items in
    let x : SeekPoint = record { sample = c.args.start; offset = i.bytes; length = c.min-length.result } in
    let pushed = c.in_ok-push.ensures.items in
    record {
      total = c.self.invariant.total;
      few = subst (λ l. length l ≤ 932067) (sym pushed) (omega (arith, length_push points x, c.if-len-ge-MOST_POINTS.false, c.len.ensures, i.points.ok.0));
      order = subst (λ l. in_order None l ≡ true) (sym pushed) (in_order_more None points x c.self.invariant.order (subst (λ (t : Table). AreBefore c.args.start t.points) (sym c.self.view_is) c.requires.before) refl);
    }
