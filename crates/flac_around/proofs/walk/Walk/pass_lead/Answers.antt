use Rattle.std.proofs.Common.{◌≡◌, ◌<◌, ◌-◌, ◌++◌, ℕ, List, length, take, sym, ap, subst, ◌∙◌, arith}
use Rattle.std.specs.Prelude.{option_map}
use Rattle.flac_around.specs.Chains.{end_of}
use Rattle.flac_around.specs.Walks.{seen_by}
use Rattle.flac_around.specs.Stands.{end_ahead}
use Rattle.flac_around.specs.declared.walk.Stand.{Stand}
use Rattle.flac_around.specs.declared.walk.Stand.TheVariants.{Lead}
use Rattle.flac_around.specs.inner.Standing.{StandsAfter, lead_size}
use Rattle.flac_around.proofs.ChainEnds.{further}
use Rattle.flac_around.proofs.ChainWalks.{lead_passed, lead_goes_on, was_lead}
use Rattle.flac_around.proofs.walk.Walk.pass_lead.Goals as goal

pub returns-in-Some : goal.returns-in-Some
returns-in-Some c = λ coming.
    let seen = seen_by c.args.self.now in
    let bytes = c.args.bytes.now in
    was_lead c.args.self.now.stand seen bytes coming _ c.requires.stand
    (lead_passed seen bytes coming c.put_lead-end.new.lead c.in-Some.stand (subst (λ (l : List ℕ). StandsAfter l c.in-Some.stand) c.put_lead-end.ensures.held c.in-Some.ensures.stands))

still : (stand : Stand) (seen now bytes coming : List ℕ) → stand ≡ Lead → now ≡ seen ++ bytes → length now < lead_size now
    → option_map (λ k. k - length seen) (end_of (seen ++ (bytes ++ coming))) ≡ further (length bytes) (end_ahead stand now coming)
still stand seen now bytes coming is held few =
    let within : length (seen ++ bytes) < lead_size (seen ++ bytes) = subst (λ (l : List ℕ). length l < lead_size l) held few in
    lead_goes_on seen bytes coming (omega (arith, within))
    ∙ ap (λ l. further (length bytes) (option_map (λ k. k - length l) (end_of (l ++ coming)))) (sym held)
    ∙ ap (λ s. further (length bytes) (end_ahead s now coming)) (sym is)

pub returns-in-None : goal.returns-in-None
returns-in-None c = λ coming.
    let seen = seen_by c.args.self.now in
    let bytes = c.args.bytes.now in
    was_lead c.args.self.now.stand seen bytes coming _ c.requires.stand
    (still c.args.self.now.stand seen (take c.put_lead-end.result c.put_lead-end.new.lead) bytes coming c.requires.stand c.put_lead-end.ensures.held (c.look.ensures.part c.in-None.is))
