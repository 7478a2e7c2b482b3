use Rattle.std.proofs.Common.{◌≡◌, ◌⊎◌, subst}
use Rattle.flac_header.specs.declared.subset.Profile.{Profile}
use Rattle.flac_c.specs.Passing.{OfFrames, GoesFurther}
use Rattle.flac_c.proofs.finding.flac_proved_pass_in.Goals as goal

pub returns-clause-streams : goal.returns-clause-streams
returns-clause-streams c =
    let old = c.args.cursor.now in
    let r = c.pass_by in
    subst (λ (k : Profile). OfFrames k c.args.bytes.now old (λ front frames. (r.result ≡ 2) ⊎ ((r.result ≡ 0) × GoesFurther k c.args.bytes.now c.args.count c.args.sample old r.new.cursor))) c.profile_of.ensures r.ensures.streams
