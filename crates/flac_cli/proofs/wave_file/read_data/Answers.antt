use Rattle.std.proofs.Common.{rules, ◌≡◌, ◌∙◌, ◌&&◌, true, not, refl, ap}
use Rattle.flac_wave.specs.Parts.{given, beyond, is_cut}
use Rattle.flac_wave.specs.Front.{are_whole}
use Rattle.flac_wave.proofs.Parts.{part_read}
use Rattle.flac_cli.proofs.TakenWaves.{known_part, left_by, whole_by, fault_by}
use Rattle.flac_cli.proofs.wave_file.read_data.Goals as goal

pub returns-in-Ok-clause-left : goal.returns-in-Ok-clause-left
returns-in-Ok-clause-left g c =
    let P = c.new-part.result in
    let Q = c.read_samples-read.new.source in
    let size = c.args.size in
    let old = g.R.Source.coming P.source.now in
    let new = g.R.Source.coming Q.source.now in
    let read = c.in-Ok.ensures.read in
    let here : P.source.now ≡ c.args.source.now = rw c.new-part.ensures.source refl in
    let told = λ (known : g.R.Source.known c.args.source.now ≡ true). known_part (g.R.Source.known P.source.now) P.failed (ap g.R.Source.known here ∙ known) c.new-part.ensures.whole in
    let rest = λ (known : g.R.Source.known c.args.source.now ≡ true).
    let k = part_read P.left Q.left old new (read.end (told known)) (read.after (told known)) in
    k.rest ∙ (ap (λ l. beyond l old) c.new-part.ensures.size ∙ ap (λ s. beyond size (g.R.Source.coming s)) here) in
    left_by c.judged.result (g.R.Source.known c.args.source.now ≡ true) _ new (beyond size (g.R.Source.coming c.args.source.now)) (search rules) rest

pub returns-in-Ok-clause-fault : goal.returns-in-Ok-clause-fault
returns-in-Ok-clause-fault g c =
    let P = c.new-part.result in
    let Q = c.read_samples-read.new.source in
    let front = c.args.front.now in
    let size = c.args.size in
    let bytes = g.R.Source.coming c.args.source.now in
    let old = g.R.Source.coming P.source.now in
    let new = g.R.Source.coming Q.source.now in
    let read = c.in-Ok.ensures.read in
    let here : P.source.now ≡ c.args.source.now = rw c.new-part.ensures.source refl in
    let told = λ (known : g.R.Source.known c.args.source.now ≡ true). known_part (g.R.Source.known P.source.now) P.failed (ap g.R.Source.known here ∙ known) c.new-part.ensures.whole in
    let cut = λ (known : g.R.Source.known c.args.source.now ≡ true).
    let k = part_read P.left Q.left old new (read.end (told known)) (read.after (told known)) in
    c.is_cut-cut.ensures ∙ (k.cut ∙ (ap (λ l. is_cut l old) c.new-part.ensures.size ∙ ap (λ s. is_cut size (g.R.Source.coming s)) here)) in
    let whole = λ (known : g.R.Source.known c.args.source.now ≡ true).
    whole_by c.in-Ok.samples front.format (given P.left old) ((g.R.Source.known P.source.now && not P.failed) ≡ true) c.in-Ok.ensures.taken c.in-Ok.ensures.part (told known)
    ∙ (ap (λ l. are_whole front.format l old) c.new-part.ensures.size ∙ ap (λ s. are_whole front.format size (g.R.Source.coming s)) here) in
    fault_by c.judged.result c.in-Ok.samples front size c.args.to_end c.is_cut-cut.result bytes (g.R.Source.known c.args.source.now ≡ true) _ c.judged.ensures cut whole
