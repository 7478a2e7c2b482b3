use Rattle.std.proofs.Common.{◌≤◌, ◌+◌, ◌-◌, ◌∙◌, drop, get_or, ap, sym, subst, arith}
use Rattle.flac_whole_pages.specs.Parts.{AreReached, size_of, place_of}
use Rattle.flac_whole_pages.specs.declared.part.Reached.{Reached}
use Rattle.flac_whole_pages.proofs.Parts.{no_part, none_reached, place_from, inside_from, inside_at, sizes_more, place_here, place_later, place_none}
use Rattle.flac_whole_pages.proofs.part.place.Goals as goal
use Rattle.flac_whole_pages.proofs.part.place.Goals.{then-at-reached, else-at-reached}

pub loop-reached-init : goal.loop-reached-init
loop-reached-init c =
    let parts = c.args.parts.now in
    let r = c.if-at-reached.reached in
    let Begun : Reached → Type 0 = λ r. AreReached parts r × (r.before ≤ c.args.at) in
    let begun : Begun r = elim c.if-at-reached.branch [
      | then-at-reached w ↦ subst Begun (sym w.reached-is) (none_reached parts, omega arith)
      | else-at-reached w ↦ subst Begun (sym w.reached-is) (c.requires.reached, w.if-at-reached.false)
    ] in
    let same = begun.0.before in
    record {
      index = begun.0.index;
      before = same;
      least = begun.1;
      place = ap (λ k. place_of c.args.end (drop r.index parts) (c.args.at - k)) same ∙ place_from c.args.end parts r.index c.args.at (subst (λ k. k ≤ c.args.at) same begun.1);
      inside = inside_from c.args.end parts r.index c.requires.inside;
    }

pub returns-then-at-reached-2-clause-place : goal.returns-then-at-reached-2-clause-place
returns-then-at-reached-2-clause-place c =
    place_here c.args.end c.args.at c.args.parts.now c.loop-reached.reached.index c.loop-reached.reached.before c.loop-reached-test.true c.loop-reached.invariant.place c.if-at-reached-2.true

pub loop-reached-preserved : goal.loop-reached-preserved
loop-reached-preserved c =
    let parts = c.args.parts.now in
    let i = c.loop-reached.invariant in
    let index = c.loop-reached.reached.index in
    let later = c.if-at-reached-2.false in
    record {
      index = omega arith;
      before = ap (λ k. k + size_of (get_or parts index no_part)) i.before ∙ sym (sizes_more parts index c.loop-reached-test.true);
      least = let least = i.least in omega (arith, later, least);
      place = place_later c.args.end c.args.at parts index c.loop-reached.reached.before c.loop-reached-test.true i.place later;
      inside = (inside_at c.args.end parts index c.loop-reached-test.true i.inside).2;
    }

pub returns-clause-place : goal.returns-clause-place
returns-clause-place c = place_none c.args.end c.args.at c.args.parts.now c.loop-reached.reached.index (c.args.at - c.loop-reached.reached.before) c.loop-reached-test.false c.loop-reached.invariant.place
