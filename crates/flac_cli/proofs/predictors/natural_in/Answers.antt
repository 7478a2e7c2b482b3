use Rattle.std.proofs.Common.{◌∙◌, refl, sym, inl, inr, arith}
use Rattle.flac_cli.proofs.Listed.{digits-next, digits-none, digits-end, natural-read}
use Rattle.flac_cli.proofs.predictors.natural_in.Goals as goal
use Rattle.flac_cli.proofs.predictors.natural_in.Goals.{then-byte-lt48-via-then-byte-lt48, then-byte-lt48-via-else-byte-lt48+then-byte-gt57, then-byte-lt48-via-else-byte-lt48+else-byte-gt57+then-number-ge10000}

pub returns-then-byte-lt48-clause-value : goal.returns-then-byte-lt48-clause-value
returns-then-byte-lt48-clause-value c =
    let w = c.args.word.now in
    let i = c.loop-byte.byte-index in
    let n = c.loop-byte.number in
    let held = c.loop-byte.invariant in
    sym (natural-read w _ held.some (held.read ∙ digits-none w i n _ (omega arith) refl
    (elim c.then-byte-lt48.branch [ then-byte-lt48-via-then-byte-lt48 w ↦ inl (omega arith) | then-byte-lt48-via-else-byte-lt48+then-byte-gt57 w ↦ inr (inl (omega arith)) | then-byte-lt48-via-else-byte-lt48+else-byte-gt57+then-number-ge10000 w ↦ inr (inr (omega arith)) ])))

pub loop-byte-preserved : goal.loop-byte-preserved
loop-byte-preserved c =
    let w = c.args.word.now in
    let i = c.loop-byte.byte-index in
    let n = c.loop-byte.number in
    let held = c.loop-byte.invariant in
    record {
      some = held.some;
      read = held.read ∙ (digits-next w i n _ (omega arith) refl (omega arith) (omega arith) (omega arith) ∙ (rw c.from.ensures refl));
      small = omega arith;
    }

pub returns-clause-value : goal.returns-clause-value
returns-clause-value c =
    let held = c.loop-byte.invariant in
    sym (natural-read c.args.word.now _ held.some (held.read ∙ digits-end c.args.word.now _ _ (omega arith)))
