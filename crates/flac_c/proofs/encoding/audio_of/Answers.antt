use Rattle.std.proofs.Common.{inr, ◌∙◌, arith}
use Rattle.flac_c.proofs.Encodings.{no_count, high_count, bad_count, bad_length, bad_samples}
use Rattle.flac_c.proofs.encoding.audio_of.Goals as goal
use Rattle.flac_c.proofs.encoding.audio_of.Goals.{then-count-lt1-via-then-count-lt1, then-count-lt1-via-else-count-lt1+then-count-gt8}

pub returns-then-count-lt1-clause-refused : goal.returns-then-count-lt1-clause-refused
returns-then-count-lt1-clause-refused c =
    let count = c.args.settings.now.channels in
    let is = c.from.ensures ∙ c.number.ensures in
    elim c.then-count-lt1.branch [
      | then-count-lt1-via-then-count-lt1 w ↦ inr (bad_count _ _ _ _ (no_count count (omega (arith, w.if-count-lt1.true))) is)
      | then-count-lt1-via-else-count-lt1+then-count-gt8 w ↦ inr (bad_count _ _ _ _ (high_count count (omega (arith, w.if-count-gt8.true))) is)
    ]

pub returns-then-samples-count-ne0-clause-refused : goal.returns-then-samples-count-ne0-clause-refused
returns-then-samples-count-ne0-clause-refused c =
    inr (bad_length _ _ _ _ (omega (arith, c.if-count-lt1.false)) (omega (arith, c.if-count-gt8.false)) c.if-samples-count-ne0.true (c.from-then-samples-count-ne0.ensures ∙ c.number-then-samples-count-ne0.ensures))

pub returns-in-Err-clause-refused : goal.returns-in-Err-clause-refused
returns-in-Err-clause-refused c =
    inr (bad_samples _ _ _ _ (omega (arith, c.if-count-lt1.false)) (omega (arith, c.if-count-gt8.false)) c.in-Err.fault _ c.if-samples-count-ne0.false c.in-Ok.ensures c.in-Err.ensures (c.from-in-Err.ensures ∙ c.number-in-Err.ensures))
