use Rattle.std.proofs.Common.{◌≡◌, ◌∙◌, ℤ, List, [], Vec, Global, map, sym, ap, subst}
use Rattle.std.specs.Prelude.{replicate}
use Rattle.std.specs.List.{AllZip}
use Rattle.std.proofs.lemmas.List.{with_items_is}
use Rattle.flac_salvage.specs.declared.find.WholeFrame.{WholeFrame}
use Rattle.flac_rescue.specs.Salvaged.{IsKept, salvaged}
use Rattle.flac_rescue.proofs.Salvaging.{survey_kept}
use Rattle.flac_rescue.proofs.salvage.salvage_samples.Goals as goal

abbrev items : List (Vec ℤ Global) → List (List ℤ)
items vs = map (λ (v : Vec ℤ Global). v.items) vs

pub returns-clause-made : goal.returns-clause-made
returns-clause-made c =
    let info = c.args.survey.now.info in
    let s = survey_kept c.args.bytes.now c.args.survey.now c.requires in
    let back = with_items_is c.in_ok-channels.channels c.add_frames.new.channels (c.add_frames.auto.channels ∙ c.deref_mut.ensures.len) in
    let held = subst (λ (l : List WholeFrame). AllZip (IsKept info c.args.bytes.now) l s.0) (sym c.deref.ensures.value) s.1 in
    let start = ap items c.deref_mut.ensures.value ∙ (c.in_ok-channels.ensures ∙ ap (λ n. replicate n []) (c.from.ensures ∙ c.channels.ensures.value)) in
    record {
      frames = s.0;
      kept = s.1;
      are = ap items back ∙ (c.in_ok-add_frames.ensures s.0 held ∙ ap (λ cs. salvaged c.args.silence info.greatest_block info.total 0 cs s.0) start);
    }
