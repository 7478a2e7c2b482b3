use Rattle.std.proofs.Common.{◌≡◌, ◌+◌, ◌-◌, ◌++◌, sym, arith, subst, length, take, drop, ℤ, List}
use Rattle.std.proofs.lemmas.List.{take_all, length-take, length-drop}
use Rattle.flac_raw.specs.Reading.{IsChannel}
use Rattle.flac_frame.proofs.Interleaved.{grown, places_after}
use Rattle.flac_raw.proofs.Rows.{channel_more}
use Rattle.flac_raw.proofs.raw.push_samples_of.Goals as goal

pub returns-clause-more : goal.returns-clause-more
returns-clause-more c = λ bytes before long is.
    let front = c.len-front.result in
    let old : List ℤ = c.args.samples.now.items in
    let places : List ℤ = c.deref_mut.result.now in
    let written : List ℤ = c.put_samples.new.places in
    let many : front ≡ length old = omega (arith, c.len-front.ensures, c.args.samples.now.ok.0) in
    let kept : take (front + c.args.column.count) old ≡ old = take_all (front + c.args.column.count) old (omega (arith, many)) in
    let lent = length-take (length places - front) (drop front places) in
    let left = length-drop front places in
    let many_more : length (take (length places - front) (drop front places)) ≡ c.args.column.count = omega (arith, lent, left, c.deref_mut.ensures.len, c.in_ok-resize.ensures.len) in
    let put : IsChannel c.args.piece.now c.args.column.count c.args.column.stride c.args.column.start c.args.width written = subst (λ n. IsChannel c.args.piece.now n c.args.column.stride c.args.column.start c.args.width written) many_more c.put_samples.ensures in
    let sized = grown old c.resize.new.self.items (take (front + c.args.column.count) old) _ c.resize.result c.in_ok-resize.field-0 c.in_ok-resize.was c.resize.ensures.items kept in
    let all = places_after c.resize.new.self.len front old _ places c.resize.new.self.items written many sized c.deref_mut.ensures.value (omega (arith, c.in_ok-resize.ensures.len, many_more, c.put_samples.auto.places)) (omega (arith, c.put_samples.auto.places, lent, left)) in
    subst (λ l. IsChannel (bytes ++ c.args.piece.now) (before + c.args.column.count) c.args.column.stride c.args.column.start c.args.width l) (sym all)
    (channel_more bytes c.args.piece.now before c.args.column.count c.args.column.stride c.args.column.start c.args.width old written long c.requires.within is put)
