use Rattle.std.proofs.Common.{rules, ◌≡◌, true, refl, ap, ◌∙◌}
use Rattle.flac_bits.specs.Bits.{bits_of}
use Rattle.flac_native.specs.Decoding.{start_mark}
use Rattle.flac_native.specs.Giving.{stage_of}
use Rattle.flac_native.specs.declared.fault.Fault.{Fault}
use Rattle.flac_header.specs.declared.subset.Profile.TheVariants.{Lax}
use Rattle.flac_ogg.specs.Stream.{start}
use Rattle.flac_ogg.specs.Either.{read_either}
use Rattle.flac_cli.proofs.Heading.{ok_more, err_more, either_end, head_over, refused_over}
use Rattle.flac_cli.proofs.head.pass_ogg.Goals as goal

pub returns-clause-head : goal.returns-clause-head
returns-clause-head g c =
    let R = g.R.Source in
    let source = c.args.source.now in
    let told = c.in-Ok.ensures in
    let r = read_either Lax true (start_mark (R.after source)) (bits_of (R.coming source)) in
    ok_more c.pass_blocks-outcome.result
    (λ ends known counted. head_over r (stage_of c.in-Ok.decoder) c.args.sink.now c.pass_blocks-outcome.new.sink (start Lax) ends told.track refl
    (either_end _ r told.stream told.refused) (told.known ∙ known) counted)
    c.pass_blocks-outcome.ensures.ends

pub returns-clause-refused : goal.returns-clause-refused
returns-clause-refused g c =
    let R = g.R.Source in
    let source = c.args.source.now in
    let told = c.in-Ok.ensures in
    let r = read_either Lax true (start_mark (R.after source)) (bits_of (R.coming source)) in
    err_more c.pass_blocks-outcome.result
    (λ f refuses tells room unsunk.
    let errors : c.pass_blocks-outcome.new.decoder.container.pages.errors ≡ c.in-Ok.decoder.container.pages.errors = search (rules, tells.1) in
    refused_over r (stage_of c.in-Ok.decoder) (stage_of c.pass_blocks-outcome.new.decoder) (start Lax) f refuses told.track refl
    (either_end _ r told.stream told.refused) (told.known ∙ tells.0) errors errors room unsunk)
    c.pass_blocks-outcome.ensures.refused

pub returns-in-Err-clause-refused : goal.returns-in-Err-clause-refused
returns-in-Err-clause-refused g c = λ tells room. absurd (room (ap (λ (f : Fault). f.why) c.in-Err.ensures.memory))
