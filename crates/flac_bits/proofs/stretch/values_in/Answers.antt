use Rattle.std.proofs.Common.{◌+◌, ◌≤◌, ◌++◌, length, arith, List, Bool, []}
use Rattle.std.proofs.lemmas.List.{append-nil}
use Rattle.std.proofs.Math.Nat.{div-le_self}
use Rattle.flac_bits.specs.declared.word.Ahead.{Ahead}
use Rattle.flac_bits.specs.inner.Stretches.{top_bits}
use Rattle.flac_bits.proofs.Aheads.{clean_agrees, next_at}
use Rattle.flac_bits.proofs.Stretches.{none_read, then_read, came_taken}
use Rattle.flac_bits.proofs.stretch.values_in.Goals as goal

abbrev bits : Ahead → List Bool
bits a = top_bits a.word a.count

pub returns-then-next-i-clause-read : goal.returns-then-next-i-clause-read
returns-then-next-i-clause-read c =
    let inv = c.loop-used.invariant in
    let held = c.next_values-next in
    let room : c.loop-used.used + 8 ≤ length c.args.bytes.now = omega (arith, c.loop-used-test.true, inv.used) in (
      inv.read.0 ++ held.ensures.read.0,
      came_taken c.args.bytes.now c.loop-used.used c.fill.result c.eight_bytes.result (bits c.args.word.now) (bits c.loop-used.word) (bits c.fill.new.self) (bits held.new.word) inv.read.0 held.ensures.read.0 c.fill.ensures.few.0 room c.eight_bytes.ensures inv.read.1 c.fill.ensures.put held.ensures.read.1,
      rw c.if-next-i.true at (then_read c.args.k inv.read.0 held.ensures.read.0 c.args.values.now c.loop-used.values held.new.values c.args.from c.loop-used.i held.result c.loop-used.auto.values inv.read.2 held.ensures.read.2),
    )

pub loop-used-preserved : goal.loop-used-preserved
loop-used-preserved c =
    let inv = c.loop-used.invariant in
    let held = c.next_values-next in
    let room : c.loop-used.used + 8 ≤ length c.args.bytes.now = omega (arith, c.loop-used-test.true, inv.used) in
    record {
      from = omega (arith, inv.from, held.ensures.within.0);
      within = omega (arith, held.ensures.within.1, inv.within, c.loop-used.auto.values);
      used = omega (arith, room, c.fill.ensures.few.0);
      few = held.ensures.few;
      next = λ eight wide is. held.ensures.next eight (c.fill.ensures.next eight (next_at c.args.bytes.now c.loop-used.used c.fill.result c.eight_bytes.result eight c.fill.ensures.few.0 room wide c.eight_bytes.ensures is));
      read = (
        inv.read.0 ++ held.ensures.read.0,
        came_taken c.args.bytes.now c.loop-used.used c.fill.result c.eight_bytes.result (bits c.args.word.now) (bits c.loop-used.word) (bits c.fill.new.self) (bits held.new.word) inv.read.0 held.ensures.read.0 c.fill.ensures.few.0 room c.eight_bytes.ensures inv.read.1 c.fill.ensures.put held.ensures.read.1,
        then_read c.args.k inv.read.0 held.ensures.read.0 c.args.values.now c.loop-used.values held.new.values c.args.from c.loop-used.i held.result c.loop-used.auto.values inv.read.2 held.ensures.read.2,
      );
      fits = λ before. held.ensures.fits (inv.fits before);
    }

pub loop-used-init : goal.loop-used-init
loop-used-init c = record {
  from = omega arith;
  within = c.requires.from;
  used = omega arith;
  few = c.requires.few;
  next = λ eight wide is. clean_agrees c.args.word.now.word c.args.word.now.count eight wide c.requires.clean;
  read = ([], append-nil (bits c.args.word.now), none_read c.args.k c.args.values.now c.args.from);
  fits = λ before. before;
}

pub returns-then-next-i-clause-fits : goal.returns-then-next-i-clause-fits
returns-then-next-i-clause-fits c = λ before. rw c.if-next-i.true at (c.next_values-next.ensures.fits (c.loop-used.invariant.fits before))

pub next_values-next-requires-clause-few_values : goal.next_values-next-requires-clause-few_values
next_values-next-requires-clause-few_values c = div-le_self 56 (c.args.k + 3)

pub returns-after-loop-used : goal.returns-after-loop-used
returns-after-loop-used c =
    let inv = c.loop-used.invariant in
    record { used = inv.used; within = (inv.from, inv.within); few = inv.few; read = inv.read; fits = inv.fits }

pub returns-else-i-values : goal.returns-else-i-values
returns-else-i-values c =
    let inv = c.loop-used.invariant in
    record { used = inv.used; within = (inv.from, inv.within); few = inv.few; read = inv.read; fits = inv.fits }

pub returns-then-next-i-clause-few : goal.returns-then-next-i-clause-few
returns-then-next-i-clause-few c = c.next_values-next.ensures.few

pub returns-then-next-i-clause-within : goal.returns-then-next-i-clause-within
returns-then-next-i-clause-within c = (c.loop-used.invariant.from, c.loop-used.invariant.within)

pub fill-requires-clause-few : goal.fill-requires-clause-few
fill-requires-clause-few c = c.loop-used.invariant.few

pub fill-requires-clause-next : goal.fill-requires-clause-next
fill-requires-clause-next c =
    let inv = c.loop-used.invariant in
    inv.next c.eight_bytes.result (omega (arith, c.loop-used-test.true, inv.used)) c.eight_bytes.ensures
