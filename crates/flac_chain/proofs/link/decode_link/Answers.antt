use Rattle.std.proofs.Common.{◌≡◌, ap, ◌∙◌}
use Rattle.flac_around.specs.Linking.{ghosts_of}
use Rattle.flac_chain.proofs.Links.{then_ok, later_kept, names_kept}
use Rattle.flac_chain.proofs.link.decode_link.Goals as goal

pub returns-in-Ok-clause-later : goal.returns-in-Ok-clause-later
returns-in-Ok-clause-later g c = λ tells.
    let link = c.into_source.result in
    let names : ghosts_of.names link ≡ ghosts_of.names c.new.result = ap ghosts_of.names c.into_source.ensures ∙ c.decode_any.ensures.source_names ∙ ap ghosts_of.names c.new-trimmed.ensures.source in
    then_ok c.end_link.result.outcome c.end_link.ensures.over (λ passed. later_kept c.new.result link c.args.source c.end_link.result.source c.new.ensures.began names passed tells.0 tells.2)

pub returns-in-Ok-clause-source_names : goal.returns-in-Ok-clause-source_names
returns-in-Ok-clause-source_names g c =
    let names : ghosts_of.names c.into_source.result ≡ ghosts_of.names c.new.result = ap ghosts_of.names c.into_source.ensures ∙ c.decode_any.ensures.source_names ∙ ap ghosts_of.names c.new-trimmed.ensures.source in
    c.end_link.ensures.names ∙ names_kept c.new.result c.into_source.result c.args.source c.new.ensures.source names

pub returns-in-Err-clause-source_names : goal.returns-in-Err-clause-source_names
returns-in-Err-clause-source_names g c =
    let names : ghosts_of.names c.into_source-link.result ≡ ghosts_of.names c.new.result = ap ghosts_of.names c.into_source-link.ensures ∙ c.decode_any.ensures.source_names ∙ ap ghosts_of.names c.new-trimmed.ensures.source in
    ap g.R.Source.names c.into_source-in-Err.ensures.source ∙ names_kept c.new.result c.into_source-link.result c.args.source c.new.ensures.source names
