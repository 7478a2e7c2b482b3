use Rattle.std.proofs.Common.{◌≡◌, subst}
use Rattle.flac_header.specs.declared.subset.Profile.{Profile}
use Rattle.flac_chain.proofs.Links.{if_err}
use Rattle.flac_cli.specs.ChainDecoded.{outcome_by}
use Rattle.flac_cli.specs.Streams.{profile_of}
use Rattle.flac_cli.specs.inner.ChainDecoding.{RefusesAll}
use Rattle.flac_cli.proofs.ChainsRead.{fits_by}
use Rattle.flac_cli.proofs.chain_samples.decode_chain_samples.Goals as goal

pub returns-in-Err-clause-reported : goal.returns-in-Err-clause-reported
returns-in-Err-clause-reported g c = λ tells told.
    let read = c.decode_samples_of-source.result in
    let fault = c.in-Err.fault in
    let refused = subst (λ (p : Profile). RefusesAll g.R.Source p c.args.source read) c.profile_of.ensures c.decode_samples_of-source.ensures.refused in (
      outcome_by read.failing fault,
      c.refuse_samples-status.ensures.line told.0 told.1,
      fits_by g.R.Source (profile_of c.args.lax) c.args.source read.failing fault (λ calm. if_err _ read.outcome fault c.in-Err.is (refused tells calm)),
    )
