use Rattle.std.proofs.Common.{refl, sym, rules, ◌∙◌}
use Rattle.flac_encoder.proofs.stream_encoder.StreamEncoder.finish.Goals as goal

pub returns-then-spent : goal.returns-then-spent
returns-then-spent g c = rw (← c.self.view_is) (record {
  given = tt;
  spent = (λ is. sym c.is_spent-spent.ensures ∙ c.if-spent.true, λ is. refl);
  only = refl;
})

pub returns-clause-given : goal.returns-clause-given
returns-clause-given g c = rw (← c.self.view_is) refl

pub returns-clause-spent : goal.returns-clause-spent
returns-clause-spent g c = search rules
