use Rattle.std.proofs.Common.{ap, sym, ◌∙◌, arith}
use Rattle.flac_pages.specs.Pages.{end_fault}
use Rattle.flac_pages.specs.Packets.{Place}
use Rattle.flac_pages.specs.inner.Packets.{ended}
use Rattle.flac_pages.proofs.Exits.{closes, met_at}
use Rattle.flac_pages.proofs.pages.Pages.end.Goals as goal

pub returns-clause-begins : goal.returns-clause-begins
returns-clause-begins g c =
    let is = c.self.view_is in
    let fault = c.end_fault-fault.ensures in
    closes c.args.self.now _ c.end_fault-fault.result c.ended.result (c.ended.ensures.value ∙ ap (λ (p : Place). ended p.count c.end_fault-fault.result) is) (omega (arith, ap (λ (p : Place). p.count) is)) c.requires.read c.requires.last (ap (λ (p : Place). p.last) is ∙ c.requires.last)
    (omega (arith, ap (λ (p : Place). p.errors) is, fault.kept)) (fault.names ∙ ap (λ (p : Place). p.names) is)
    (λ none. let calm = fault.calm none in (λ known. calm.0 (ap (λ (p : Place). p.known) is ∙ known), calm.1 ∙ ap (λ (p : Place). p.errors) is, calm.2 ∙ ap (λ (p : Place). p.raised) is))
    (met_at c.end_fault-fault.result _ _ _ (ap (λ (p : Place). p.raised) is) fault.met)
    (λ known same. fault.fault (ap (λ (p : Place). p.known) is ∙ known) (same ∙ ap (λ (p : Place). p.errors) (sym is)) ∙ ap (λ (p : Place). end_fault p.cursor) is)
