use Rattle.std.proofs.Common.{◌+◌, ◌≤◌, ◌∙◌, ap, sym, arith}
use Rattle.flac_meta.specs.Spelling.{comments_length}
use Rattle.flac_edit.specs.Device.{LeavesOnly}
use Rattle.flac_edit.specs.inner.Reads.{Reads, IsOldOrNew}
use Rattle.flac_edit.proofs.Choices.{CutBefore, sum_before, chosen_before, or_changed, in_range}
use Rattle.flac_edit.proofs.choosing.try_before.Goals as goal

pub total-at-requires : goal.total-at-requires
total-at-requires g c =
    let cut : CutBefore c.args.slots.now c.split_at.result.0.now c.split_at.result.1.now c.in-Some.others.now c.split_at-2.result.0.now c.split_at-2.result.1.now c.args.i c.args.count c.in-Some.padding = record { front_is = c.split_at.ensures.front; back_is = c.split_at.ensures.back; padded = c.in-Some.ensures; more_is = c.split_at-2.ensures.front; rest_is = c.split_at-2.ensures.back } in
    let sum = sum_before c.args.slots.now c.split_at.result.0.now c.split_at.result.1.now c.in-Some.others.now c.split_at-2.result.0.now c.split_at-2.result.1.now c.args.i c.args.count c.in-Some.padding cut in
    (in_range _ _ _ _ _ sum c.requires.counted).0

pub overflow_add-at : goal.overflow_add-at
overflow_add-at g c =
    let cut : CutBefore c.args.slots.now c.split_at.result.0.now c.split_at.result.1.now c.in-Some.others.now c.split_at-2.result.0.now c.split_at-2.result.1.now c.args.i c.args.count c.in-Some.padding = record { front_is = c.split_at.ensures.front; back_is = c.split_at.ensures.back; padded = c.in-Some.ensures; more_is = c.split_at-2.ensures.front; rest_is = c.split_at-2.ensures.back } in
    let sum = sum_before c.args.slots.now c.split_at.result.0.now c.split_at.result.1.now c.in-Some.others.now c.split_at-2.result.0.now c.split_at-2.result.1.now c.args.i c.args.count c.in-Some.padding cut in
    let fits = (in_range _ _ _ _ _ sum c.requires.counted).1 in
    omega (arith, fits, c.total-at.ensures)

pub total-following-requires : goal.total-following-requires
total-following-requires g c =
    let cut : CutBefore c.args.slots.now c.split_at.result.0.now c.split_at.result.1.now c.in-Some.others.now c.split_at-2.result.0.now c.split_at-2.result.1.now c.args.i c.args.count c.in-Some.padding = record { front_is = c.split_at.ensures.front; back_is = c.split_at.ensures.back; padded = c.in-Some.ensures; more_is = c.split_at-2.ensures.front; rest_is = c.split_at-2.ensures.back } in
    let sum = sum_before c.args.slots.now c.split_at.result.0.now c.split_at.result.1.now c.in-Some.others.now c.split_at-2.result.0.now c.split_at-2.result.1.now c.args.i c.args.count c.in-Some.padding cut in
    (in_range _ _ _ _ _ sum c.requires.counted).2

pub edit_before-requires-clause-counted : goal.edit_before-requires-clause-counted
edit_before-requires-clause-counted g c =
    let cut : CutBefore c.args.slots.now c.split_at.result.0.now c.split_at.result.1.now c.in-Some.others.now c.split_at-2.result.0.now c.split_at-2.result.1.now c.args.i c.args.count c.in-Some.padding = record { front_is = c.split_at.ensures.front; back_is = c.split_at.ensures.back; padded = c.in-Some.ensures; more_is = c.split_at-2.ensures.front; rest_is = c.split_at-2.ensures.back } in
    let sum = sum_before c.args.slots.now c.split_at.result.0.now c.split_at.result.1.now c.in-Some.others.now c.split_at-2.result.0.now c.split_at-2.result.1.now c.args.i c.args.count c.in-Some.padding cut in
    let fits = (in_range _ _ _ _ _ sum c.requires.counted).3 in
    omega (arith, fits, c.requires.counted, c.total-at.ensures, c.total-following.ensures)

pub edit_before-requires-clause-inside : goal.edit_before-requires-clause-inside
edit_before-requires-clause-inside g c =
    let cut : CutBefore c.args.slots.now c.split_at.result.0.now c.split_at.result.1.now c.in-Some.others.now c.split_at-2.result.0.now c.split_at-2.result.1.now c.args.i c.args.count c.in-Some.padding = record { front_is = c.split_at.ensures.front; back_is = c.split_at.ensures.back; padded = c.in-Some.ensures; more_is = c.split_at-2.ensures.front; rest_is = c.split_at-2.ensures.back } in
    let sum = sum_before c.args.slots.now c.split_at.result.0.now c.split_at.result.1.now c.in-Some.others.now c.split_at-2.result.0.now c.split_at-2.result.1.now c.args.i c.args.count c.in-Some.padding cut in
    let fits = (in_range _ _ _ _ _ sum c.requires.counted).3 in
    λ k. omega (arith, fits, c.requires.inside k, c.total-at.ensures, c.total-following.ensures)

pub returns-in_err-edit_before-clause-any_moment : goal.returns-in_err-edit_before-clause-any_moment
returns-in_err-edit_before-clause-any_moment g c =
    let cut : CutBefore c.args.slots.now c.split_at.result.0.now c.split_at.result.1.now c.in-Some.others.now c.split_at-2.result.0.now c.split_at-2.result.1.now c.args.i c.args.count c.in-Some.padding = record { front_is = c.split_at.ensures.front; back_is = c.split_at.ensures.back; padded = c.in-Some.ensures; more_is = c.split_at-2.ensures.front; rest_is = c.split_at-2.ensures.back } in
    let room : comments_length c.args.comments.now + 4 ≤ c.in-Some.padding = omega (arith, c.length-size.ensures, c.if-size-padding.false, c.if-padding-gt-MOST_BYTES.false) in
    λ k blocks frames has.
    let chosen = chosen_before c.args.slots.now c.split_at.result.0.now c.split_at.result.1.now c.in-Some.others.now c.split_at-2.result.0.now c.split_at-2.result.1.now c.args.i c.args.count c.in-Some.padding (4 + c.total-at.result) c.total-following.result c.is_empty.result c.args.comments.now cut (ap (λ n. 4 + n) c.total-at.ensures) c.total-following.ensures c.is_empty.ensures (sym c.is_run.ensures ∙ c.if-not-is_run.false) room blocks frames _ has.slots_are has.marked has.reads (λ olds news. LeavesOnly (g.D.Device.time c.args.device.now) (g.D.Device.time c.edit_before.new.device) (IsOldOrNew olds news frames)) (λ front more rest mark s. c.edit_before.ensures.any_moment k front more rest frames mark s) in
    or_changed _ _ c.args.comments.now blocks chosen.0 frames chosen.1 chosen.2

pub returns-clause-any_moment : goal.returns-clause-any_moment
returns-clause-any_moment g c =
    let cut : CutBefore c.args.slots.now c.split_at.result.0.now c.split_at.result.1.now c.in-Some.others.now c.split_at-2.result.0.now c.split_at-2.result.1.now c.args.i c.args.count c.in-Some.padding = record { front_is = c.split_at.ensures.front; back_is = c.split_at.ensures.back; padded = c.in-Some.ensures; more_is = c.split_at-2.ensures.front; rest_is = c.split_at-2.ensures.back } in
    let room : comments_length c.args.comments.now + 4 ≤ c.in-Some.padding = omega (arith, c.length-size.ensures, c.if-size-padding.false, c.if-padding-gt-MOST_BYTES.false) in
    λ k blocks frames has.
    let chosen = chosen_before c.args.slots.now c.split_at.result.0.now c.split_at.result.1.now c.in-Some.others.now c.split_at-2.result.0.now c.split_at-2.result.1.now c.args.i c.args.count c.in-Some.padding (4 + c.total-at.result) c.total-following.result c.is_empty.result c.args.comments.now cut (ap (λ n. 4 + n) c.total-at.ensures) c.total-following.ensures c.is_empty.ensures (sym c.is_run.ensures ∙ c.if-not-is_run.false) room blocks frames _ has.slots_are has.marked has.reads (λ olds news. LeavesOnly (g.D.Device.time c.args.device.now) (g.D.Device.time c.edit_before.new.device) (IsOldOrNew olds news frames)) (λ front more rest mark s. c.edit_before.ensures.any_moment k front more rest frames mark s) in
    or_changed _ _ c.args.comments.now blocks chosen.0 frames chosen.1 chosen.2

pub returns-clause-edited : goal.returns-clause-edited
returns-clause-edited g c =
    let cut : CutBefore c.args.slots.now c.split_at.result.0.now c.split_at.result.1.now c.in-Some.others.now c.split_at-2.result.0.now c.split_at-2.result.1.now c.args.i c.args.count c.in-Some.padding = record { front_is = c.split_at.ensures.front; back_is = c.split_at.ensures.back; padded = c.in-Some.ensures; more_is = c.split_at-2.ensures.front; rest_is = c.split_at-2.ensures.back } in
    let room : comments_length c.args.comments.now + 4 ≤ c.in-Some.padding = omega (arith, c.length-size.ensures, c.if-size-padding.false, c.if-padding-gt-MOST_BYTES.false) in
    λ done k blocks frames has.
    let chosen = chosen_before c.args.slots.now c.split_at.result.0.now c.split_at.result.1.now c.in-Some.others.now c.split_at-2.result.0.now c.split_at-2.result.1.now c.args.i c.args.count c.in-Some.padding (4 + c.total-at.result) c.total-following.result c.is_empty.result c.args.comments.now cut (ap (λ n. 4 + n) c.total-at.ensures) c.total-following.ensures c.is_empty.ensures (sym c.is_run.ensures ∙ c.if-not-is_run.false) room blocks frames _ has.slots_are has.marked has.reads (λ olds news. Reads news frames (g.D.Device.seen c.edit_before.new.device)) (λ front more rest mark s. c.in_ok-edit_before.ensures.edited k front more rest frames mark s) in
    record { news = chosen.0; changed = chosen.1; reads = chosen.2 }
