use Rattle.std.proofs.Common.{arith, ap, drop, length, get_or, ◌+◌, ◌∙◌, inl, inr}
use Rattle.std.proofs.lemmas.Bool.{cases_lt}
use Rattle.flac_rescue.specs.Gaps.{others}
use Rattle.flac_rescue.proofs.Lists.{skip_one, other_differs, other_last, others_end, kept_moves, zero_frame}
use Rattle.flac_rescue.proofs.missing.others.Goals as goal
use Rattle.flac_rescue.proofs.missing.others.Goals.{then-is_kept, else-is_kept+in_ok-push}

pub loop-frame-preserved : goal.loop-frame-preserved
loop-frame-preserved c = elim c.if-is_kept.branch [
  | then-is_kept w ↦
      let yes_kept = c.is_kept.ensures.yes w.if-is_kept.true in
      let inside = yes_kept.0 in
      record {
        so_far = kept_moves (c.loop-frame.frame-index + 1) (c.loop-frame.index + 1) c.if-is_kept.index c.args.found.now c.args.kept.now c.loop-frame.left.items c.if-is_kept.left.items (others c.args.found.now c.args.kept.now)
            (skip_one c.loop-frame.frame-index c.loop-frame.index c.args.found.now c.args.kept.now c.loop-frame.left.items (others c.args.found.now c.args.kept.now) c.loop-frame-test.true inside yes_kept.1 c.loop-frame.invariant.so_far)
            (ap (λ v. v.items) w.left-is) w.index-is;
        within = omega (arith, inside, w.index-is);
      }
  | else-is_kept+in_ok-push w ↦
      let items = w.in_ok-push.ensures.items in
      record {
        so_far = kept_moves (c.loop-frame.frame-index + 1) c.loop-frame.index c.if-is_kept.index c.args.found.now c.args.kept.now w.push.new.self.items c.if-is_kept.left.items (others c.args.found.now c.args.kept.now)
            (elim (cases_lt c.loop-frame.index (length c.args.kept.now)) [
              | inl inside ↦ other_differs c.loop-frame.frame-index c.loop-frame.index c.args.found.now c.args.kept.now c.loop-frame.left.items w.push.new.self.items (others c.args.found.now c.args.kept.now) c.loop-frame-test.true inside (c.is_kept.ensures.not w.if-is_kept.false inside) c.loop-frame.invariant.so_far items
              | inr past ↦ other_last c.loop-frame.frame-index c.loop-frame.index c.args.found.now c.args.kept.now c.loop-frame.left.items w.push.new.self.items (others c.args.found.now c.args.kept.now) c.loop-frame-test.true past c.loop-frame.invariant.so_far items
            ])
            (ap (λ v. v.items) w.left-is) w.index-is;
        within = omega (arith, w.index-is, c.loop-frame.invariant.within);
      }
]

pub returns : goal.returns
returns c = others_end c.loop-frame.frame-index c.loop-frame.index c.args.found.now c.args.kept.now c.loop-frame.left.items (others c.args.found.now c.args.kept.now) c.loop-frame-test.false c.loop-frame.invariant.so_far
