use Rattle.std.proofs.Common.{◌≡◌, ◌≤◌, ◌+◌, ◌-◌, ◌++◌, length, take, drop, sym, ap, ◌∙◌, arith}
use Rattle.std.proofs.lemmas.List.{length-take, length-drop}
use Rattle.std.specs.List.{slice_range}
use Rattle.flac_bits.specs.Bits.{bits_of}
use Rattle.flac_bits.specs.State.{past}
use Rattle.flac_bits.specs.Store.{Store}
use Rattle.flac_bits.proofs.Stretches.{went_tie, went_mark, went_left}
use Rattle.flac_bits.proofs.held.Held.values.Goals as goal

pub invariant_of-self : goal.invariant_of-self
invariant_of-self c =
    let inv = c.self.invariant in
    let h = c.self.inside in
    let took = c.values_by-used in
    let read = took.ensures.read in
    let inside : h.end ≤ length h.bytes = omega (arith, inv.2, inv.4) in
    let within : h.place + took.result.0 ≤ h.end = omega (arith, took.ensures.used, length-take (h.end - h.place) (drop h.place h.bytes), length-drop h.place h.bytes, inv.1, inside) in
    let is : h.word ++ bits_of (take took.result.0 (slice_range h.bytes h.place h.end)) ≡ read.0 ++ took.new.word = ap (λ w. w ++ bits_of (take took.result.0 (slice_range h.bytes h.place h.end))) (sym c.copied-word.ensures) ∙ read.1 in
    (omega (arith, inv.0), within, inv.2, went_tie h.bytes h.from h.place h.end took.result.0 h.word read.0 took.new.word inv.0 within inside is inv.3, inv.4, inv.5, inv.6, inv.7)

pub returns-clause-read : goal.returns-clause-read
returns-clause-read c =
    let inv = c.self.invariant in
    let h = c.self.inside in
    let took = c.values_by-used in
    let read = took.ensures.read in
    let inside : h.end ≤ length h.bytes = omega (arith, inv.2, inv.4) in
    let within : h.place + took.result.0 ≤ h.end = omega (arith, took.ensures.used, length-take (h.end - h.place) (drop h.place h.bytes), length-drop h.place h.bytes, inv.1, inside) in
    let is : h.word ++ bits_of (take took.result.0 (slice_range h.bytes h.place h.end)) ≡ read.0 ++ took.new.word = ap (λ w. w ++ bits_of (take took.result.0 (slice_range h.bytes h.place h.end))) (sym c.copied-word.ensures) ∙ read.1 in (
      read.0,
      (
        sym (ap (λ (s : Store). s.word ++ bits_of s.bytes) c.self.view_is) ∙ went_left h.bytes h.from h.place h.end took.result.0 h.word read.0 took.new.word inv.0 within inside is inv.3,
        went_mark h.bytes h.from h.place h.end took.result.0 h.word read.0 took.new.word inv.0 within inside is inv.3 _ ∙ ap (λ (s : Store). past read.0 s.mark) c.self.view_is,
        ap (λ (s : Store). s.fence) c.self.view_is,
      ),
      read.2,
    )
