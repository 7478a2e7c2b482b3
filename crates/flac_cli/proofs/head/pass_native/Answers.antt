use Rattle.std.proofs.Common.{rules, false, refl, sym, subst, ◌∙◌}
use Rattle.flac_bits.specs.Bits.{bits_of}
use Rattle.flac_native.specs.Stream.{opening}
use Rattle.flac_native.specs.Coming.{PartsCome}
use Rattle.flac_native.specs.Decoding.{start_mark}
use Rattle.flac_native.specs.Giving.{stage_of}
use Rattle.flac_header.specs.declared.subset.Profile.TheVariants.{Lax}
use Rattle.flac_ogg.specs.Either.{read_either}
use Rattle.flac_cli.proofs.Heading.{ok_more, err_more, head_over, refused_over}
use Rattle.flac_cli.proofs.head.pass_native.Goals as goal

pub returns-clause-head : goal.returns-clause-head
returns-clause-head g c =
    let R = g.R.Source in
    let source = c.args.source.now in
    ok_more c.pass_blocks-outcome.result
    (λ ends known counted. head_over (read_either Lax false (start_mark (R.after source)) (bits_of (R.coming source))) (stage_of c.new-decoder.result) c.args.sink.now c.pass_blocks-outcome.new.sink (opening Lax) ends c.new-decoder.ensures.track refl
    (λ parts end read. subst (λ k. PartsCome (opening Lax) k parts end) (sym c.new-decoder.ensures.cursor) read) (c.new-decoder.ensures.known ∙ known) counted)
    c.pass_blocks-outcome.ensures.ends

pub returns-clause-refused : goal.returns-clause-refused
returns-clause-refused g c =
    let R = g.R.Source in
    let source = c.args.source.now in
    err_more c.pass_blocks-outcome.result
    (λ f refuses tells room unsunk. refused_over (read_either Lax false (start_mark (R.after source)) (bits_of (R.coming source))) (stage_of c.new-decoder.result) (stage_of c.pass_blocks-outcome.new.decoder) (opening Lax) f refuses c.new-decoder.ensures.track refl
    (λ parts end read. subst (λ k. PartsCome (opening Lax) k parts end) (sym c.new-decoder.ensures.cursor) read) (c.new-decoder.ensures.known ∙ tells.0)
    (search (rules, tells.1)) (search (rules, tells.2)) room unsunk)
    c.pass_blocks-outcome.ensures.refused
