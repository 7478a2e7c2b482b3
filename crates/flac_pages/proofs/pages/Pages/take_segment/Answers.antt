use Rattle.std.proofs.Common.{◌+◌, ◌<◌, drop, length, ap, sym, ◌∙◌, arith, length-drop}
use Rattle.std.specs.List.{sum}
use Rattle.flac_pages.specs.Packets.{Place}
use Rattle.flac_pages.specs.inner.Packets.{next_segment}
use Rattle.flac_pages.proofs.Stepping.{segment_is, next_value, sum_more}
use Rattle.flac_pages.proofs.pages.Pages.take_segment.Goals as goal

pub invariant_of-self : goal.invariant_of-self
invariant_of-self g c =
    let inside = c.self.inside in
    let some : inside.next < length inside.page.lacing = omega (arith, c.requires.some, ap (λ (p : Place). length p.lacing) c.self.view_is, length-drop inside.next inside.page.lacing) in
    let next = ap sum (next_value inside.page.lacing inside.next c.segment-value.result some c.segment-value.ensures) ∙ sum_more c.segment-value.result (drop (inside.next + 1) inside.page.lacing) in
    let rest = ap (λ (p : Place). p.rest) c.self.view_is ∙ c.requires.rest in
    (omega (arith, some), c.self.invariant.1, omega (arith, next, rest, c.self.invariant.2), c.self.invariant.3)

pub returns : goal.returns
returns g c =
    let inside = c.self.inside in
    let some : inside.next < length inside.page.lacing = omega (arith, c.requires.some, ap (λ (p : Place). length p.lacing) c.self.view_is, length-drop inside.next inside.page.lacing) in
    sym (segment_is _ c.segment-value.result (drop (inside.next + 1) inside.page.lacing) (next_value inside.page.lacing inside.next c.segment-value.result some c.segment-value.ensures)) ∙ ap (λ (p : Place). next_segment p p.lacing) c.self.view_is

pub overflow_add-self : goal.overflow_add-self
overflow_add-self g c =
    let inside = c.self.inside in
    let some : inside.next < length inside.page.lacing = omega (arith, c.requires.some, ap (λ (p : Place). length p.lacing) c.self.view_is, length-drop inside.next inside.page.lacing) in
    omega (arith, some, c.self.invariant.3)
