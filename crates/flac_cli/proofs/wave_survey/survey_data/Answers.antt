use Rattle.std.proofs.Common.{rules, ◌≡◌, ◌∙◌, ◌&&◌, true, not, refl, ap, sym, subst}
use Rattle.flac_wave.specs.Parts.{given, beyond, is_cut}
use Rattle.flac_wave.specs.Front.{are_whole}
use Rattle.flac_wave.proofs.Parts.{part_read}
use Rattle.flac_cli.specs.inner.WaveSurvey.{IsSampled, AreFoundOf}
use Rattle.flac_cli.proofs.Surveys.{whole_of, survey_fault, survey_good}
use Rattle.flac_cli.proofs.TakenWaves.{known_part}
use Rattle.flac_cli.proofs.wave_survey.survey_data.Goals as goal

pub returns-in-None : goal.returns-in-None
returns-in-None g c =
    let P = c.new-part.result in
    let Q = c.survey_samples-read.new.source in
    let front = c.args.front.now in
    let size = c.args.size in
    let bytes = g.R.Source.coming c.args.source.now in
    let old = g.R.Source.coming P.source.now in
    let new = g.R.Source.coming Q.source.now in
    let e = c.in-Ok.ensures in
    let read = e.read in
    let here : P.source.now ≡ c.args.source.now = rw c.new-part.ensures.source refl in
    let told = λ (known : g.R.Source.known c.args.source.now ≡ true). known_part (g.R.Source.known P.source.now) P.failed (ap g.R.Source.known here ∙ known) c.new-part.ensures.whole in
    let part = λ (known : g.R.Source.known c.args.source.now ≡ true). part_read P.left Q.left old new (read.end (told known)) (read.after (told known)) in
    let same : given P.left old ≡ given size bytes = ap (λ l. given l old) c.new-part.ensures.size ∙ ap (λ s. given size (g.R.Source.coming s)) here in
    let is = λ (known : g.R.Source.known c.args.source.now ≡ true). subst (λ l. IsSampled front.format l c.in-Ok.found) same (e.found (told known)) in
    let cut = λ (known : g.R.Source.known c.args.source.now ≡ true).
    c.is_cut-cut.ensures ∙ ((part known).cut ∙ (ap (λ l. is_cut l old) c.new-part.ensures.size ∙ ap (λ s. is_cut size (g.R.Source.coming s)) here)) in
    let whole = whole_of c.args.to_end c.is_cut-cut.result c.in-Ok.found.whole (sym c.in-None.ensures) in
    record {
      found = λ known. (is known).are whole;
      whole = whole;
      room = e.room;
      good = λ known. survey_good c.args.to_end front size bytes c.in-Ok.found c.is_cut-cut.result (cut known) (is known).whole c.in-None.ensures;
      left = λ known. ap g.R.Source.coming (search rules) ∙ ((part known).rest ∙ (ap (λ l. beyond l old) c.new-part.ensures.size ∙ ap (λ s. beyond size (g.R.Source.coming s)) here));
      known = search rules;
      counted = search rules;
      fault = tt;
      names = search rules;
    }

pub returns-in-Some-clause-fault : goal.returns-in-Some-clause-fault
returns-in-Some-clause-fault g c = λ known raised.
    let P = c.new-part.result in
    let Q = c.survey_samples-read.new.source in
    let front = c.args.front.now in
    let size = c.args.size in
    let bytes = g.R.Source.coming c.args.source.now in
    let old = g.R.Source.coming P.source.now in
    let e = c.in-Ok.ensures in
    let read = e.read in
    let here : P.source.now ≡ c.args.source.now = rw c.new-part.ensures.source refl in
    let told = known_part (g.R.Source.known P.source.now) P.failed (ap g.R.Source.known here ∙ known) c.new-part.ensures.whole in
    let part = part_read P.left Q.left old (g.R.Source.coming Q.source.now) (read.end told) (read.after told) in
    let same : given P.left old ≡ given size bytes = ap (λ l. given l old) c.new-part.ensures.size ∙ ap (λ s. given size (g.R.Source.coming s)) here in
    let is = subst (λ l. IsSampled front.format l c.in-Ok.found) same (e.found told) in
    let cut = c.is_cut-cut.ensures ∙ (part.cut ∙ (ap (λ l. is_cut l old) c.new-part.ensures.size ∙ ap (λ s. is_cut size (g.R.Source.coming s)) here)) in
    (refl, survey_fault c.args.to_end front size bytes c.in-Ok.found c.is_cut-cut.result c.in-Some.why cut is.whole c.in-Some.ensures)
