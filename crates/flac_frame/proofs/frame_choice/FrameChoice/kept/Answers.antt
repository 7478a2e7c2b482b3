use Rattle.std.proofs.Common.{◌∙◌, ◌+◌, ap, refl, sym, subst, length, take, List, arith}
use Rattle.flac_subframe.specs.declared.search.wide_choice.WideChoice.{WideChoice}
use Rattle.flac_frame.specs.declared.frame_choice.FrameChoice.{FrameChoice}
use Rattle.flac_frame.specs.PlaneLists.{same_list}
use Rattle.flac_frame.proofs.Copies.{AreCopies, IsCopy, one_copy, all_copies, copied}
use Rattle.flac_frame.proofs.frame_choice.FrameChoice.kept.Goals as goal

pub loop-channel-preserved : goal.loop-channel-preserved
loop-channel-preserved c =
    let own = c.as_slice-own.result.now in
    let i = c.loop-channel.channel in
    let copy : IsCopy c.in_ok-kept.field-0 c.index-own-channel.result = record { form = c.in_ok-kept.ensures.same; made = c.in_ok-kept.ensures.made } in
    subst (λ (l : List WideChoice). AreCopies l (take (i + 1) own)) (sym c.in_ok-push.ensures.items) (one_copy c.loop-channel.subframes.items own i c.in_ok-kept.field-0 c.index-own-channel.result c.loop-channel-test.true c.index-own-channel.is c.loop-channel.invariant copy)

pub returns-clause-same_by_plane : goal.returns-clause-same_by_plane
returns-clause-same_by_plane c = λ lists sound size number block is.
    let own = c.as_slice-own.result.now in
    let all = all_copies c.loop-channel.subframes.items own c.loop-channel.channel (omega (arith, c.loop-channel-test.false, c.loop-channel.auto.channel-end)) c.loop-channel.invariant in
    let new : FrameChoice = record { code = c.args.self.now.code; bits = c.args.self.now.bits; subframes = c.loop-channel.subframes } in
    copied lists sound size number block c.args.self.now new refl refl (subst (λ (l : List WideChoice). AreCopies c.loop-channel.subframes.items l) c.as_slice-own.ensures.value all.0) is

pub returns-clause-same : goal.returns-clause-same
returns-clause-same c = λ ps. returns-clause-same_by_plane c (same_list ps)

pub returns-clause-many : goal.returns-clause-many
returns-clause-many c =
    let own = c.as_slice-own.result.now in
    let all = all_copies c.loop-channel.subframes.items own c.loop-channel.channel (omega (arith, c.loop-channel-test.false, c.loop-channel.auto.channel-end)) c.loop-channel.invariant in
    all.1 ∙ ap length c.as_slice-own.ensures.value
