use Rattle.std.proofs.Common.{rules, ◌≡◌, ℕ, Err, refl, length, arith}
use Rattle.std.proofs.lemmas.Result.{err_from_is_err_and}
use Rattle.flac_bits.specs.State.{Cursor}
use Rattle.flac_bits.specs.Layout.{run, bind, done, Reason}
use Rattle.flac_bits.specs.Signed.{signed_field}
use Rattle.flac_subframe.specs.format.Subframe.{constant, fitting}
use Rattle.flac_subframe.proofs.lemmas.format.Bounds.{stored}
use Rattle.flac_subframe.proofs.lemmas.format.Samples.{constant_read}
use Rattle.flac_subframe.proofs.format.subframe.read_constant.Goals as goal

pub returns-clause-reading : goal.returns-clause-reading
returns-clause-reading g c = record {
  spends = search rules;
  counts = search rules;
  memory = tt;
  reads = (λ known same.
      let kept = stored c.args.depth c.in_ok-sample.sample (omega (arith, c.requires.depth.1)) c.in_ok-sample.ensures.fits in
      rw (c.fill.ensures.after (λ y is. is), kept) (constant_read c.args.depth (length c.args.samples.now) c.args.bits.now.cursor c.take_signed.new.self.cursor c.in_ok-sample.sample c.in_ok-sample.ensures.fits (c.in_ok-sample.ensures.reading.reads known same)));
}

constant_fails : (depth block : ℕ) (c : Cursor) (w : Reason) → run (signed_field depth) c ≡ Err w → run (bind (constant depth) (λ x. done (fitting depth block x))) c ≡ Err w
unfolding constant
constant_fails depth block c w is = rw is refl

pub returns-in_err-sample : goal.returns-in_err-sample
returns-in_err-sample g c =
    let p = err_from_is_err_and c.from_residual.result c.from_residual.ensures.1 in
    rw (p.1, p.2) (record { fits = tt; reading = record { spends = tt; counts = c.in_err-sample.ensures.reading.counts; memory = c.in_err-sample.ensures.reading.memory; reads = λ known same. constant_fails c.args.depth (length c.args.samples.now) c.args.bits.now.cursor _ (c.in_err-sample.ensures.reading.reads known same) } })
