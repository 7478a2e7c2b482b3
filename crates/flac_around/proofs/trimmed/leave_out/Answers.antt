use Rattle.std.proofs.Common.{◌≤◌, ◌<◌, ◌+◌, ◌-◌, length, take, drop, sym, ◌∙◌, arith}
use Rattle.std.proofs.lemmas.List.{length-drop, length-take}
use Rattle.flac_around.proofs.LeftOut.{kept_is, some_kept, one_given, all_given, none_left_out, some_given, some_left_out}
use Rattle.flac_around.proofs.trimmed.leave_out.Goals as goal

pub put_one_empty-requires : goal.put_one_empty-requires
put_one_empty-requires c =
    let lead = c.args.lead.now in
    omega (arith, some_kept c.args.left_out c.kept-kept.result (sym c.is_after_empty.ensures ∙ c.if-is_after_empty.true), c.kept-kept.ensures.most, length-take (length lead - 27) (drop 27 lead), length-drop 27 lead)

pub returns-then-is_after_empty-clause-bytes : goal.returns-then-is_after_empty-clause-bytes
returns-then-is_after_empty-clause-bytes c =
    let lead = c.args.lead.now in
    let k = c.kept-kept.result in
    let after = sym c.is_after_empty.ensures ∙ c.if-is_after_empty.true in
    let long : 28 ≤ length lead = omega (arith, some_kept c.args.left_out k after, c.kept-kept.ensures.most, length-take (length lead - 27) (drop 27 lead), length-drop 27 lead) in
    one_given c.args.left_out lead c.args.body.now (take 28 c.put_one_empty.new.lead) k long (kept_is lead c.args.body.now k c.kept-kept.ensures.value) after c.put_one_empty.ensures

pub returns-then-kept-count-clause-bytes : goal.returns-then-kept-count-clause-bytes
returns-then-kept-count-clause-bytes c =
    let lead = c.args.lead.now in
    let k = c.kept-kept.result in
    all_given c.args.left_out lead c.args.body.now k c.requires.whole (kept_is lead c.args.body.now k c.kept-kept.ensures.value) (sym c.is_after_empty.ensures ∙ c.if-is_after_empty.false) c.if-kept-count.true

pub returns-then-kept-count-clause-left_out : goal.returns-then-kept-count-clause-left_out
returns-then-kept-count-clause-left_out c =
    let lead = c.args.lead.now in
    let k = c.kept-kept.result in
    none_left_out c.args.left_out lead c.args.body.now k (kept_is lead c.args.body.now k c.kept-kept.ensures.value) c.if-kept-count.true

pub returns-clause-bytes : goal.returns-clause-bytes
returns-clause-bytes c =
    let lead = c.args.lead.now in
    let k = c.kept-kept.result in
    let few : k < length lead - 27 = omega (arith, c.if-kept-count.false, c.kept-kept.ensures.most, length-take (length lead - 27) (drop 27 lead), length-drop 27 lead) in
    some_given c.args.left_out lead c.args.body.now (take (27 + k) c.put_kept.new.lead) k (kept_is lead c.args.body.now k c.kept-kept.ensures.value) (sym c.is_after_empty.ensures ∙ c.if-is_after_empty.false) few c.put_kept.ensures

pub returns-clause-left_out : goal.returns-clause-left_out
returns-clause-left_out c =
    let lead = c.args.lead.now in
    let k = c.kept-kept.result in
    let few : k < length lead - 27 = omega (arith, c.if-kept-count.false, c.kept-kept.ensures.most, length-take (length lead - 27) (drop 27 lead), length-drop 27 lead) in
    some_left_out c.args.left_out lead c.args.body.now k (kept_is lead c.args.body.now k c.kept-kept.ensures.value) few
