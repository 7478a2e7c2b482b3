use Rattle.std.proofs.Common.{arith, ◌∙◌, sym, ap, subst, Ok}
use Rattle.flac_frame.specs.Kept.{Kept}
use Rattle.flac_frame.specs.Viewed.{frame_of}
use Rattle.flac_salvage.specs.Kept.{AreFound, kept_of}
use Rattle.flac_salvage.proofs.Finding.{and_kept, and_none, and_end, and_cut, has_bytes, next_is}
use Rattle.flac_salvage.proofs.find.whole_frames.Goals as goal
use Rattle.flac_salvage.proofs.find.whole_frames.Goals.{else-looking-test, then-looking-test+in-Ok+in-None, then-looking-test+in-Err}

pub looking-smaller : goal.looking-smaller
looking-smaller c =
    let next = next_is c.args.profile c.args.info.now c.args.bytes.now c.looking.at c.next_whole.new.buffers.held c.in-Ok.next c.in-Some.whole c.in-Some.is c.in-Ok.ensures.found in
    let has = has_bytes c.args.profile c.args.info.now c.args.bytes.now c.in-Some.whole.0 c.next_whole.new.buffers.held c.in-Some.whole.1 next.stands in
    let some = has.0 in
    let after = next.after in
    let inside = has.1 in
    omega (arith, some, after, inside)

pub looking-preserved : goal.looking-preserved
looking-preserved c =
    let next = next_is c.args.profile c.args.info.now c.args.bytes.now c.looking.at c.next_whole.new.buffers.held c.in-Ok.next c.in-Some.whole c.in-Some.is c.in-Ok.ensures.found in
    let has = has_bytes c.args.profile c.args.info.now c.args.bytes.now c.in-Some.whole.0 c.next_whole.new.buffers.held c.in-Some.whole.1 next.stands in
    record {
      within = has.1;
      channels = ap (λ (b : Kept). b.channels) c.anew.ensures ∙ c.in-Ok.ensures.room.0 ∙ c.looking.invariant.channels;
      max_block = ap (λ (b : Kept). b.max_block) c.anew.ensures ∙ c.in-Ok.ensures.room.1 ∙ c.looking.invariant.max_block;
      before = ap (λ (b : Kept). b.before) c.anew.ensures;
      none = c.looking.invariant.none;
      found = and_kept c.args.profile c.args.info.now c.args.bytes.now c.args.from c.looking.at c.next_whole.new.buffers.held (frame_of c.view.result) c.in-Some.whole c.whole_frame.result c.looking.frames.items c.push.new.self.items c.looking.invariant.found next c.view.ensures (c.whole_frame.ensures ∙ ap (λ k. kept_of k (record { at = c.in-Some.whole.0; len = c.in-Some.whole.1; frame = frame_of c.view.result })) c.greatest_block-in-Some.ensures.value) c.in_ok-push-in-Some.ensures.items;
    }

pub returns-clause-found : goal.returns-clause-found
returns-clause-found c = elim c.looking-test.branch [
  | else-looking-test w ↦
      subst (λ o. AreFound c.args.profile c.args.info.now c.args.bytes.now c.args.from o c.looking.frames.items) (sym (w.cut-is ∙ c.looking.invariant.none))
      (and_end c.args.profile c.args.info.now c.args.bytes.now c.args.from c.looking.at c.looking.frames.items c.looking.invariant.found w.looking-test.false)
  | then-looking-test+in-Ok+in-None w ↦
      let none = w.next_whole.ensures.none (w.in-Ok.is ∙ ap (λ o. Ok o) w.in-None.is) in
      subst (λ o. AreFound c.args.profile c.args.info.now c.args.bytes.now c.args.from o c.looking.frames.items) (sym (w.cut-is ∙ c.looking.invariant.none))
      (and_none c.args.profile c.args.info.now c.args.bytes.now c.args.from c.looking.at c.looking.frames.items c.looking.invariant.found none.1)
  | then-looking-test+in-Err w ↦
      let spent = w.in-Err.ensures.spent in
      subst (λ o. AreFound c.args.profile c.args.info.now c.args.bytes.now c.args.from o c.looking.frames.items) (sym w.cut-is)
      (and_cut c.args.profile c.args.info.now c.args.bytes.now c.args.from c.looking.at w.in-Err.end c.looking.frames.items c.looking.invariant.found spent.2 spent.3)
]
