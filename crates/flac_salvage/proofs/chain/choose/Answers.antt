use Rattle.std.proofs.Common.{arith, sym, ap, get_or, drop, ◌+◌, ◌∙◌}
use Rattle.flac_salvage.specs.Chain.{chain, samples_of}
use Rattle.flac_salvage.proofs.Chains.{is_next, is_not_next, one_more, no_more_kept, all_kept, zero_frame, zero_most}
use Rattle.flac_salvage.proofs.chain.choose.Goals as goal
use Rattle.flac_salvage.proofs.chain.choose.Goals.{then-is_next+in_ok-push, else-is_next}

pub overflow_sub-left : goal.overflow_sub-left
overflow_sub-left c =
    let next = is_next c.args.limit c.loop-index.from c.loop-index.index c.loop-index.left c.args.frames.now (get_or c.args.most.now c.loop-index.index zero_most) (omega arith)
    (c.requires.known c.loop-index.index (omega arith) (omega arith)) c.loop-index.invariant.left (sym c.is_next.ensures ∙ c.if-is_next.true) in
    let left = next.1 in
    omega (arith, left)

pub loop-index-preserved : goal.loop-index-preserved
loop-index-preserved c = elim c.if-is_next.branch [
  | then-is_next+in_ok-push w ↦
      let next = is_next c.args.limit c.loop-index.from c.loop-index.index c.loop-index.left c.args.frames.now (get_or c.args.most.now c.loop-index.index zero_most) (omega arith)
      (c.requires.known c.loop-index.index (omega arith) (omega arith)) c.loop-index.invariant.left (sym c.is_next.ensures ∙ w.if-is_next.true) in
      let left = next.1 in
      record {
        kept = one_more c.args.limit c.loop-index.from c.if-is_next.from c.loop-index.index c.args.frames.now c.loop-index.kept.items c.if-is_next.kept.items (chain c.args.limit 0 c.args.frames.now) (get_or c.args.frames.now c.loop-index.index zero_frame)
            c.loop-index.invariant.kept (ap (λ v. v.items) w.kept-is ∙ w.in_ok-push.ensures.items) w.from-is next.0;
        left = let to = ap (λ k. samples_of (chain c.args.limit k (drop (c.loop-index.index + 1) c.args.frames.now))) w.from-is in omega (arith, left, to, w.left-is);
      }
  | else-is_next w ↦
      let same = is_not_next c.args.limit c.loop-index.from c.loop-index.index c.loop-index.left c.args.frames.now (get_or c.args.most.now c.loop-index.index zero_most) (omega arith)
      (c.requires.known c.loop-index.index (omega arith) (omega arith)) c.loop-index.invariant.left (sym c.is_next.ensures ∙ w.if-is_next.false) in
      record {
        kept = no_more_kept c.args.limit c.loop-index.from c.if-is_next.from c.loop-index.index c.args.frames.now c.loop-index.kept.items c.if-is_next.kept.items (chain c.args.limit 0 c.args.frames.now)
            c.loop-index.invariant.kept (ap (λ v. v.items) w.kept-is) w.from-is same;
        left = w.left-is ∙ c.loop-index.invariant.left ∙ ap samples_of same ∙ ap (λ k. samples_of (chain c.args.limit k (drop (c.loop-index.index + 1) c.args.frames.now))) (sym w.from-is);
      }
]

pub returns : goal.returns
returns c = all_kept c.args.limit c.loop-index.from c.loop-index.index c.args.frames.now c.loop-index.kept.items (chain c.args.limit 0 c.args.frames.now) (omega arith) c.loop-index.invariant.kept
