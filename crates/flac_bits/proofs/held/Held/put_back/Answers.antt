use Rattle.std.proofs.Common.{◌≡◌, ◌≤◌, ◌*◌, ◌/◌, ◌%◌, ◌++◌, ℕ, List, Bool, length, take, drop, refl, ap, ◌∙◌, arith}
use Rattle.std.proofs.lemmas.List.{length-append}
use Rattle.flac_bits.specs.Bits.{bits_of}
use Rattle.flac_bits.specs.Store.{Store}
use Rattle.flac_bits.proofs.Partly.{held_fits, unread_is, begun_long}
use Rattle.flac_bits.proofs.Back.{back_fits, back_tie, back_mark, back_left}
use Rattle.flac_bits.proofs.held.Held.put_back.Goals as goal

-- the bits given back are whole bytes
whole_tail : (word new tail : List Bool) (count : ℕ) → word ≡ new ++ tail → length new ≡ count % 8 → count ≡ length word → length tail ≡ 8 * (count / 8)
whole_tail word new tail count is some e = omega (arith, ap (λ (x : List Bool). length x) is, length-append new tail, some, e)

pub overflow_sub-self : goal.overflow_sub-self
overflow_sub-self c =
    let inv = c.self.invariant in
    let long = begun_long c.self.inside.bytes c.self.inside.from c.self.inside.place inv.0 (omega (arith, inv.1, inv.2, inv.4)) in
    let fits = held_fits (drop c.self.inside.from (take c.self.inside.place c.self.inside.bytes)) c.self.inside.word inv.3 in
    omega (arith, fits, long, inv.0, c.count-count.ensures.0)

pub invariant_of-self : goal.invariant_of-self
invariant_of-self c =
    let inv = c.self.invariant in
    let kept = c.keep.ensures in
    let q = c.count-count.result / 8 in
    let inside : c.self.inside.end ≤ length c.self.inside.bytes = omega (arith, inv.2, inv.4) in
    let long = whole_tail c.self.inside.word c.keep.new.self kept.0 c.count-count.result kept.1 kept.2 c.count-count.ensures.0 in
    let fits = back_fits c.self.inside.bytes c.self.inside.from c.self.inside.place c.self.inside.end q c.self.inside.word c.keep.new.self kept.0 inv.0 inv.1 inside kept.1 long inv.3 in
    (omega (arith, fits), omega (arith, inv.1), inv.2, back_tie c.self.inside.bytes c.self.inside.from c.self.inside.place c.self.inside.end q c.self.inside.word c.keep.new.self kept.0 inv.0 inv.1 inside kept.1 long inv.3, inv.4, inv.5, inv.6, inv.7)

pub returns-clause-same : goal.returns-clause-same
returns-clause-same c =
    let inv = c.self.invariant in
    let kept = c.keep.ensures in
    let q = c.count-count.result / 8 in
    let inside : c.self.inside.end ≤ length c.self.inside.bytes = omega (arith, inv.2, inv.4) in
    let long = whole_tail c.self.inside.word c.keep.new.self kept.0 c.count-count.result kept.1 kept.2 c.count-count.ensures.0 in (
      back_left c.self.inside.bytes c.self.inside.from c.self.inside.place c.self.inside.end q c.self.inside.word c.keep.new.self kept.0 inv.0 inv.1 inside kept.1 long inv.3
          ∙ ap (λ (s : Store). s.word ++ bits_of s.bytes) c.self.view_is,
      back_mark c.self.inside.bytes c.self.inside.from c.self.inside.place c.self.inside.end q c.self.inside.word c.keep.new.self kept.0 inv.0 inv.1 inside kept.1 long inv.3 _
          ∙ ap (λ (s : Store). s.mark) c.self.view_is,
      ap (λ (s : Store). s.fence) c.self.view_is,
    )

pub returns-clause-part : goal.returns-clause-part
returns-clause-part c =
    c.keep.ensures.2 ∙ ap (λ k. k % 8) c.count-count.ensures.0
    ∙ unread_is (drop c.self.inside.from (take c.self.inside.place c.self.inside.bytes)) c.self.inside.word _ c.self.invariant.3 refl ∙ ap (λ (s : Store). s.mark.unread) c.self.view_is
