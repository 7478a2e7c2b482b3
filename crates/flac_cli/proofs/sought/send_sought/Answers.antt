use Rattle.std.proofs.Common.{ap, ◌∙◌}
use Rattle.flac_bits.specs.State.{the_end}
use Rattle.flac_reader.specs.Inputs.{any_input}
use Rattle.flac_reader.specs.Opening.{Opens}
use Rattle.flac_reader.specs.declared.keep.Keep.TheVariants.{Tags}
use Rattle.flac_cli.proofs.PartsFound.{sent_sought, of_device, on_ok_both}
use Rattle.flac_jobs.specs.Moments.{sample_at}
use Rattle.flac_cli.proofs.sought.send_sought.Goals as goal

pub returns-in-Some-clause-says : goal.returns-in-Some-clause-says
returns-in-Some-clause-says g c =
    let o = rw c.in-Native.is at c.in-Ok.ensures in
    let counted = c.new.ensures in
    let e = c.args.excerpt.now in
    let reader = c.in-Native.reader in
    let profile = c.profile_of-profile.result in
    let told = c.in-Some.ensures in
    let opens = of_device g.T.Read.remaining c.args.device c.new.result.device c.new.result.errors c.new.result.room (λ bytes. Opens (any_input profile bytes the_end) Tags reader) counted.0 counted.1 counted.2 o.opens in
    let is_sample = c.sample_at-sample.ensures ∙ ap (λ n. sample_at e.from n) (c.rate.ensures.value ∙ ap (λ i. i.rate) c.info.ensures) in
    on_ok_both _ _ c.send_found.result
    (sent_sought g.T.Seek g.T.Read g.W.Target e c.args.device profile c.sample_at-sample.result reader c.in-Some.reader c.args.target.now c.send_found.new.target c.profile_of-profile.ensures is_sample opens told.blocks.0 told.blocks.1 told.first told.found)
    c.send_found.ensures.says
