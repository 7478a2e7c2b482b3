use Rattle.std.proofs.Common.{◌≡◌, ℕ, ◌+◌, ◌≤◌, ◌++◌, All, Fits, w32, [], ◌∷◌, ◌∙◌, refl, ap, sym, subst, arith}
use Rattle.std.proofs.lemmas.Result.{err_from_is_err_and}
use Rattle.flac_bits.specs.Signed.{FitsBits}
use Rattle.flac_bits.specs.Written.{Adds, Fails, Writes}
use Rattle.flac_subframe.specs.search.Capacity.{Capacity}
use Rattle.flac_bits.proofs.Writing.{fails_first, writes_then}
use Rattle.flac_frame.specs.Chosen.{AreMadeByPlane}
use Rattle.flac_frame.specs.PlaneLists.{plane_of, lists_of, lists_kept}
use Rattle.flac_subframe.specs.search.Choices.{IsMadeIn, form_in}
use Rattle.flac_subframe.specs.format.Spelling.{subframe_spelling}
use Rattle.flac_frame.specs.Frame.{side_bit}
use Rattle.flac_frame.proofs.Chosen.{first_made, second_made, pair_texts}
use Rattle.flac_frame.proofs.Encoded.{failed}
use Rattle.flac_frame.proofs.Capacities.{some_of, room_for}
use Rattle.flac_frame.proofs.Sounds.{depth_small}
use Rattle.flac_frame.proofs.pair.write_two.Goals as goal

-- the depth of what a channel assignment keeps
same_depth : (bits side depth own : ℕ) → depth ≡ bits → own ≡ side → bits + side ≡ depth + own
same_depth bits side depth own is same = rw (is, same) refl

pub write_subframe_in-requires-clause-some : goal.write_subframe_in-requires-clause-some
write_subframe_in-requires-clause-some g c = c.requires.some

pub write_subframe_in-requires-clause-block : goal.write_subframe_in-requires-clause-block
write_subframe_in-requires-clause-block g c = c.requires.block

pub write_subframe_in-requires-clause-fits : goal.write_subframe_in-requires-clause-fits
write_subframe_in-requires-clause-fits g c =
    let side = c.side_bit.ensures.bit ∙ ap (λ k. side_bit k 0) c.assignment-assignment.ensures.code in
    subst (λ d. All (FitsBits d) c.args.first.now) (same_depth _ _ _ _ c.bits-depth.ensures side) c.requires.first_fits

pub write_subframe_in-requires-2-clause-some : goal.write_subframe_in-requires-2-clause-some
write_subframe_in-requires-2-clause-some g c = some_of _ _ c.requires.second c.requires.some

pub write_subframe_in-requires-2-clause-block : goal.write_subframe_in-requires-2-clause-block
write_subframe_in-requires-2-clause-block g c = room_for _ _ _ _ c.requires.second (ap (λ (r : Capacity). r.block) c.in_ok-write_subframe_in.ensures.room) c.requires.block

pub write_subframe_in-requires-2-clause-fits : goal.write_subframe_in-requires-2-clause-fits
write_subframe_in-requires-2-clause-fits g c =
    let side = c.side_bit-2.ensures.bit ∙ ap (λ k. side_bit k 1) c.assignment-assignment.ensures.code in
    subst (λ d. All (FitsBits d) c.args.second.now) (same_depth _ _ _ _ c.bits-depth.ensures side) c.requires.second_fits

deep_fits : (own depth bit : ℕ) → depth ≡ own → own ≤ 32 → bit ≤ 1 → Fits w32 (depth + bit)
deep_fits own depth bit is few one = omega arith

deep_33 : (own depth bit : ℕ) → depth ≡ own → (1 ≤ own) × (own ≤ 32) → bit ≤ 1 → (1 ≤ depth + bit) × (depth + bit ≤ 33)
deep_33 own depth bit is few one = (omega arith, omega arith)

pub overflow_add-left_depth : goal.overflow_add-left_depth
overflow_add-left_depth g c = let a = c.args.subject.now.audio.now in deep_fits _ _ _ c.bits-depth.ensures (depth_small a.profile a.bits c.channels-channels.ensures.sound.bits).1 c.side_bit.ensures.small

pub overflow_add-right_depth : goal.overflow_add-right_depth
overflow_add-right_depth g c = let a = c.args.subject.now.audio.now in deep_fits _ _ _ c.bits-depth.ensures (depth_small a.profile a.bits c.channels-channels.ensures.sound.bits).1 c.side_bit-2.ensures.small

pub write_subframe_in-requires-clause-depth : goal.write_subframe_in-requires-clause-depth
write_subframe_in-requires-clause-depth g c =
    let a = c.args.subject.now.audio.now in
    deep_33 _ _ _ c.bits-depth.ensures (depth_small a.profile a.bits c.channels-channels.ensures.sound.bits) c.side_bit.ensures.small

pub write_subframe_in-requires-2-clause-depth : goal.write_subframe_in-requires-2-clause-depth
write_subframe_in-requires-2-clause-depth g c =
    let a = c.args.subject.now.audio.now in
    deep_33 _ _ _ c.bits-depth.ensures (depth_small a.profile a.bits c.channels-channels.ensures.sound.bits) c.side_bit-2.ensures.small

pub write_subframe_in-requires-clause-made : goal.write_subframe_in-requires-clause-made
write_subframe_in-requires-clause-made g c =
    let code = c.args.choice.now.code in
    let own = lists_kept code (lists_of c.args.subject.now.predictors.now) in
    let is = c.list-left_list.ensures ∙ ap (lists_of c.args.subject.now.predictors.now) (c.plane_of.ensures ∙ ap (λ k. plane_of k 0) c.assignment-assignment.ensures.code) in
    subst (λ ps. IsMadeIn ps c.index-subframes-0.result c.args.first.now) (sym is)
    (first_made own c.as_slice-subframes.result.now c.index-subframes-0.result c.args.first.now c.args.second.now c.index-subframes-0.is
    (subst (λ l. AreMadeByPlane own l (c.args.first.now ∷ c.args.second.now ∷ [])) (sym c.as_slice-subframes.ensures.value) c.requires.made))

pub write_subframe_in-requires-2-clause-made : goal.write_subframe_in-requires-2-clause-made
write_subframe_in-requires-2-clause-made g c =
    let code = c.args.choice.now.code in
    let own = lists_kept code (lists_of c.args.subject.now.predictors.now) in
    let is = c.list-right_list.ensures ∙ ap (lists_of c.args.subject.now.predictors.now) (c.plane_of-2.ensures ∙ ap (λ k. plane_of k 1) c.assignment-assignment.ensures.code) in
    subst (λ ps. IsMadeIn ps c.index-subframes-1.result c.args.second.now) (sym is)
    (second_made own c.as_slice-subframes.result.now c.index-subframes-1.result c.args.first.now c.args.second.now c.index-subframes-1.is
    (subst (λ l. AreMadeByPlane own l (c.args.first.now ∷ c.args.second.now ∷ [])) (sym c.as_slice-subframes.ensures.value) c.requires.made))

pub returns-in_err-write_subframe_in-clause-text : goal.returns-in_err-write_subframe_in-clause-text
returns-in_err-write_subframe_in-clause-text g c =
    let p = err_from_is_err_and c.from_residual.result c.from_residual.ensures.1 in
    let is = c.assignment-assignment.ensures.code in
    let lists = lists_of c.args.subject.now.predictors.now in
    let own = lists_kept c.args.choice.now.code lists in
    let left = c.list-left_list.ensures ∙ ap lists (c.plane_of.ensures ∙ ap (λ k. plane_of k 0) is) in
    let texts = pair_texts own c.args.subject.now.audio.now.bits c.bits-depth.result c.args.choice.now.code c.side_bit.result c.side_bit-2.result c.args.choice.now.subframes.items c.as_slice-subframes.result.now
    c.index-subframes-0.result c.index-subframes-1.result c.args.first.now c.args.second.now c.bits-depth.ensures c.as_slice-subframes.ensures.value c.requires.choices c.index-subframes-0.is c.index-subframes-1.is (c.side_bit.ensures.bit ∙ ap (λ k. side_bit k 0) is) (c.side_bit-2.ensures.bit ∙ ap (λ k. side_bit k 1) is) in
    let text = subst (λ ps. Fails (c.args.writer.now.bits ++ subframe_spelling (c.bits-depth.result + c.side_bit.result) (form_in ps c.index-subframes-0.result c.args.first.now)) c.args.writer.now c.write_subframe_in.new.writer c.in_err-write_subframe_in.field-0.0) left c.in_err-write_subframe_in.ensures.text in
    rw (p.1, p.2) (subst (λ t. Writes t c.args.writer.now c.write_subframe_in.new.writer (failed c.in_err-write_subframe_in.field-0.0)) texts (fails_first _ _ text))

pub returns-clause-text : goal.returns-clause-text
returns-clause-text g c =
    let is = c.assignment-assignment.ensures.code in
    let lists = lists_of c.args.subject.now.predictors.now in
    let own = lists_kept c.args.choice.now.code lists in
    let left = c.list-left_list.ensures ∙ ap lists (c.plane_of.ensures ∙ ap (λ k. plane_of k 0) is) in
    let right = c.list-right_list.ensures ∙ ap lists (c.plane_of-2.ensures ∙ ap (λ k. plane_of k 1) is) in
    let texts = pair_texts own c.args.subject.now.audio.now.bits c.bits-depth.result c.args.choice.now.code c.side_bit.result c.side_bit-2.result c.args.choice.now.subframes.items c.as_slice-subframes.result.now
    c.index-subframes-0.result c.index-subframes-1.result c.args.first.now c.args.second.now c.bits-depth.ensures c.as_slice-subframes.ensures.value c.requires.choices c.index-subframes-0.is c.index-subframes-1.is (c.side_bit.ensures.bit ∙ ap (λ k. side_bit k 0) is) (c.side_bit-2.ensures.bit ∙ ap (λ k. side_bit k 1) is) in
    let first = subst (λ ps. Adds (subframe_spelling (c.bits-depth.result + c.side_bit.result) (form_in ps c.index-subframes-0.result c.args.first.now)) c.args.writer.now c.write_subframe_in.new.writer) left c.in_ok-write_subframe_in.ensures.text in
    let second = subst (λ ps. Writes (subframe_spelling (c.bits-depth.result + c.side_bit-2.result) (form_in ps c.index-subframes-1.result c.args.second.now)) c.write_subframe_in.new.writer c.write_subframe_in-2.new.writer c.write_subframe_in-2.result) right c.write_subframe_in-2.ensures.text in
    subst (λ t. Writes t c.args.writer.now c.write_subframe_in-2.new.writer c.write_subframe_in-2.result) texts
    (writes_then _ c.write_subframe_in-2.new.writer c.write_subframe_in-2.result first second)
