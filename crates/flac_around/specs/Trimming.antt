-- What a source of an input without the empty packets at its end has to give.
use Rattle.std.specs.Prelude.{◌≡◌, ◌<◌, ◌⊎◌, ℕ, ◌+◌, ◌-◌, Bool, true, cond, List, ◌++◌, is_some}
use Rattle.flac_bits.specs.declared.source.Source as source
use Rattle.flac_around.specs.EmptyPackets.{trimmed, trimmed_from}
use Rattle.flac_around.specs.Holding.{part}
use Rattle.flac_around.specs.declared.trimmed.Trimmed.{Trimmed}

-- of what another source has to give
abbrev pub without_end : {S : Type 0} → source.Ghosts S → S → List ℕ
without_end g s = trimmed (is_some ((g.after s).fails)) (g.coming s)

-- after what is held, of what the other source has to give; `plain` if no page is left in it
abbrev pub after_held : (plain fails left_out : Bool) → List ℕ → List ℕ
after_held plain fails left_out coming = cond plain coming (trimmed_from fails left_out coming)

-- the ghost fields of such a source, by those of the other source
abbrev pub ghosts_of : {S : Type 0} → source.Ghosts S → source.Ghosts (Trimmed S)
ghosts_of g = record {
  known = λ t. g.known t.source;
  coming = λ t. part t.lead_at t.lead_end t.lead ++ (part t.body_at t.body_end t.body ++ after_held t.plain (is_some ((g.after t.source).fails)) t.left_out (g.coming t.source));
  after = λ t. g.after t.source;
  errors = λ t. g.errors t.source;
  raised = λ t. g.raised t.source;
  most = λ t. g.most t.source + (t.lead_end - t.lead_at + (t.body_end - t.body_at));
  names = λ t. g.names t.source;
}

-- something is held, or comes as it is
abbrev pub HasNext : {S : Type 0} → Trimmed S → Type 0
HasNext t = (t.plain ≡ true) ⊎ (t.lead_at < t.lead_end) ⊎ (t.body_at < t.body_end)
