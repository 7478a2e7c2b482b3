use Rattle.std.proofs.Common.{List, refl, sym, subst, length}
use Rattle.flac_salvage.specs.Chain.{IsBest, IsPart}
use Rattle.flac_salvage.specs.declared.find.WholeFrame.{WholeFrame}
use Rattle.flac_rescue.specs.Gaps.{limit_of, AreWithin}
use Rattle.flac_rescue.proofs.Within.{part_within}
use Rattle.flac_rescue.proofs.survey.survey_frames.Goals as goal

pub gaps-requires-clause-within : goal.gaps-requires-clause-within
gaps-requires-clause-within c =
    let kept = c.in_ok-kept.kept.items in
    let found = c.in_ok-found.found.frames.items in
    let part = subst (λ (l : List WholeFrame). IsPart kept l) c.as_slice.ensures.value c.in_ok-kept.ensures.best.part in
    subst (λ (l : List WholeFrame). AreWithin (length c.args.bytes.now) l) (sym c.as_slice-2.ensures.value) (part_within (length c.args.bytes.now) kept found part c.in_ok-found.ensures.within)

pub returns-clause-survey : goal.returns-clause-survey
returns-clause-survey c =
    let value = c.total-stated.ensures.value in
    let kept = c.in_ok-kept.kept.items in
    let found = c.in_ok-found.found.frames.items in
    let best = subst (λ (l : List WholeFrame). IsBest (limit_of c.total-stated.result) 0 l kept) c.as_slice.ensures.value c.in_ok-kept.ensures.best in
    record {
      head = c.requires.head;
      info = c.requires.info;
      frames = record {
        at = refl;
        stream = refl;
        found = c.in_ok-found.ensures.found;
        kept = cc (c.in_ok-kept.ensures.kept, value, c.as_slice.ensures.value);
        best = subst (λ t. IsBest (limit_of t) 0 found kept) value best;
        gaps = cc (c.in_ok-missing.ensures, value, c.as_slice-2.ensures.value);
        others = cc (c.in_ok-left.ensures, c.as_slice-3.ensures.value, c.as_slice-4.ensures.value);
      };
    }
