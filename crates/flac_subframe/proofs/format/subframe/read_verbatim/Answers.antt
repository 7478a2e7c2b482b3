use Rattle.std.proofs.Common.{◌≡◌, ℕ, Err, refl, length}
use Rattle.std.proofs.lemmas.Result.{err_from_is_err_and}
use Rattle.flac_bits.specs.State.{Cursor}
use Rattle.flac_bits.specs.Layout.{run, bind, done, Reason}
use Rattle.flac_bits.specs.Lists.{list_of}
use Rattle.flac_bits.specs.Signed.{signed_field}
use Rattle.flac_subframe.specs.format.Subframe.{verbatim, fitting}
use Rattle.flac_subframe.proofs.format.subframe.read_verbatim.Goals as goal

verbatim_fails : (depth block : ℕ) (c : Cursor) (w : Reason) → run (list_of block (signed_field depth)) c ≡ Err w → run (bind (verbatim depth block) (λ x. done (fitting depth block x))) c ≡ Err w
unfolding verbatim
verbatim_fails depth block c w is = rw is refl

pub returns-in_err-signed_partition : goal.returns-in_err-signed_partition
returns-in_err-signed_partition g c =
    let p = err_from_is_err_and c.from_residual.result c.from_residual.ensures.1 in
    rw (p.1, p.2) (record { fits = tt; reading = record { spends = tt; counts = c.in_err-signed_partition.ensures.reading.counts; memory = c.in_err-signed_partition.ensures.reading.memory; reads = λ known same. verbatim_fails c.args.depth (length c.args.samples.now) c.args.bits.now.cursor _ (c.in_err-signed_partition.ensures.reading.reads known same) } })
