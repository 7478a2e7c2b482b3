use Rattle.std.proofs.Common.{◌≡◌, not, Bool, ◌∙◌, true, false, refl, length, arith, inr}
use Rattle.std.proofs.lemmas.Result.{err_from_is_err_and}
use Rattle.std.proofs.lemmas.Bool.{not-false}
use Rattle.flac_native.specs.Message.{sample_width}
use Rattle.flac_raw.proofs.Refused.{bad_format}
use Rattle.flac_raw.proofs.Judged.{survey_large, survey_long, survey_good, survey_raw}
use Rattle.flac_raw.proofs.Surveying.{survey_at, length_told}
use Rattle.flac_raw.proofs.judging.judge.Goals as goal

not_true : (b : Bool) → not b ≡ true → b ≡ false
not_true true e = absurd cc
not_true false e = refl

pub returns-in-Some-clause-refused : goal.returns-in-Some-clause-refused
returns-in-Some-clause-refused g c = λ known same. inr (bad_format c.args.profile c.args.format (g.R.Source.coming c.args.source.now) c.in-Some.fault c.in-Some.ensures.fault)

pub returns-in_err-found-clause-refused : goal.returns-in_err-found-clause-refused
returns-in_err-found-clause-refused g c =
    let p = err_from_is_err_and c.from_residual-in_err-found.result c.from_residual-in_err-found.ensures.1 in
    let made = c.in_ok-blocks.ensures in
    rw (p.1, p.2) (λ known same. length_told c.args.profile c.args.format (g.R.Source.coming c.args.source.now) (length c.in_ok-blocks.blocks.lists.items) c.in_ok-blocks.blocks.width _ c.in_default.ensures.fault made.channels (made.width ∙ c.sample_width-width.ensures)
    (c.in_err-found.ensures.refused known same))

pub returns-then-not-found-clause-refused : goal.returns-then-not-found-clause-refused
returns-then-not-found-clause-refused g c = λ known same.
    let made = c.in_ok-blocks.ensures in
    let bytes = g.R.Source.coming c.args.source.now in
    let found = c.in_ok-found.found in
    inr (survey_large c.args.profile c.args.format bytes c.in_default.ensures.fault found.total
    (survey_at c.args.format.bits (length c.in_ok-blocks.blocks.lists.items) c.args.format.channels c.in_ok-blocks.blocks.width (sample_width c.args.format.bits) bytes found.total found.small false made.channels (made.width ∙ c.sample_width-width.ensures)
    (not_true found.small c.if-not-found.true) (c.in_ok-found.ensures.all known)))

pub returns-then-found-clause-refused : goal.returns-then-found-clause-refused
returns-then-found-clause-refused g c = λ known same.
    let made = c.in_ok-blocks.ensures in
    let bytes = g.R.Source.coming c.args.source.now in
    let found = c.in_ok-found.found in
    inr (survey_long c.args.profile c.args.format bytes c.in_default.ensures.fault found.total
    (survey_at c.args.format.bits (length c.in_ok-blocks.blocks.lists.items) c.args.format.channels c.in_ok-blocks.blocks.width (sample_width c.args.format.bits) bytes found.total found.small true made.channels (made.width ∙ c.sample_width-width.ensures)
    (not-false found.small c.if-not-found.false) (c.in_ok-found.ensures.all known)) (omega (arith, c.if-found.true)))

pub returns-clause-samples : goal.returns-clause-samples
returns-clause-samples g c = λ known.
    let made = c.in_ok-blocks.ensures in
    let bytes = g.R.Source.coming c.args.source.now in
    let found = c.in_ok-found.found in
    survey_good c.args.profile c.args.format bytes c.in_default.ensures.fault found.total
    (survey_at c.args.format.bits (length c.in_ok-blocks.blocks.lists.items) c.args.format.channels c.in_ok-blocks.blocks.width (sample_width c.args.format.bits) bytes found.total found.small true made.channels (made.width ∙ c.sample_width-width.ensures)
    (not-false found.small c.if-not-found.false) (c.in_ok-found.ensures.all known)) (omega (arith, c.if-found.false))

pub returns-clause-raw : goal.returns-clause-raw
returns-clause-raw g c = λ known.
    let made = c.in_ok-blocks.ensures in
    let bytes = g.R.Source.coming c.args.source.now in
    let found = c.in_ok-found.found in
    survey_raw c.args.profile c.args.format bytes c.in_default.ensures.fault found.total
    (survey_at c.args.format.bits (length c.in_ok-blocks.blocks.lists.items) c.args.format.channels c.in_ok-blocks.blocks.width (sample_width c.args.format.bits) bytes found.total found.small true made.channels (made.width ∙ c.sample_width-width.ensures)
    (not-false found.small c.if-not-found.false) (c.in_ok-found.ensures.all known)) (omega (arith, c.if-found.false))
