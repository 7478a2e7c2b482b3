use Rattle.std.proofs.Common.{◌++◌, None, sym, ap, ◌∙◌, arith}
use Rattle.flac_bits.specs.Store.{Store, allowed, forbidden}
use Rattle.flac_bits.proofs.Back.{begun_more}
use Rattle.flac_bits.proofs.Coming.{lifted_list, drop_end}
use Rattle.flac_bits.proofs.held.Held.lift.Goals as goal

pub returns-clause-held : goal.returns-clause-held
returns-clause-held c =
    let inv = c.self.invariant in
    let all = begun_more c.self.inside.bytes c.self.inside.place c.self.inside.end c.self.inside.filled inv.1 inv.5 (omega (arith, inv.6, inv.4)) in (
      ap (λ (s : Store). s.word) c.self.view_is,
      all ∙ ap (λ (s : Store). s.bytes ++ s.fence.hidden) c.self.view_is,
      ap (λ (s : Store). s.mark) c.self.view_is,
      ap (λ xs. record { room = None; hidden = xs }) (drop_end c.self.inside.filled c.self.inside.bytes),
    )

pub returns-clause-after : goal.returns-clause-after
returns-clause-after c = λ coming.
    let inv = c.self.invariant in
    ap (λ (s : Store). allowed s.fence.room coming ++ (s.fence.hidden ++ forbidden s.fence.room coming)) (sym c.self.view_is)
    ∙ lifted_list c.self.inside.room c.self.inside.end c.self.inside.filled c.self.inside.bytes coming inv.7 (omega (arith, inv.6, inv.4)) ∙ ap (λ (s : Store). s.fence.hidden ++ coming) c.self.view_is
