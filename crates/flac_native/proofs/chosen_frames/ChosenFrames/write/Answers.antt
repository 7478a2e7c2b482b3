use Rattle.std.proofs.Common.{◌≡◌, ◌∙◌, ap, sym, subst, nat_lt, ℕ, List, arith, []}
use Rattle.flac_bits.specs.Bits.{bits_of}
use Rattle.flac_bits.specs.Written.{Written}
use Rattle.flac_native.specs.FixedBuffer.{placed}
use Rattle.flac_native.specs.Writing.{AreChoices}
use Rattle.flac_native.proofs.FixedBuffers.{spell_ok, spell_err}
use Rattle.flac_native.proofs.chosen_frames.ChosenFrames.write.Goals as goal

pub write_next-outcome-requires-clause-ready : goal.write_next-outcome-requires-clause-ready
write_next-outcome-requires-clause-ready c = record {
  fits = c.requires.fits;
  few = c.requires.few;
  chosen = subst (AreChoices c.args.plan.now c.args.audio.now) (sym c.as_slice-choices.ensures.value) c.requires.choices;
  buffers = c.requires.buffers;
}

pub unreachable-requires : goal.unreachable-requires
unreachable-requires c =
    let room = c.into_target-room.result in
    let e = c.emptied.ensures in
    let w = c.new-writer.ensures in
    let places : ℕ = c.args.room.places in
    let none : List ℕ = c.emptied.result.bytes.items in
    let blank : c.new-writer.result.bits ≡ bits_of (placed places []) = ap (λ (v : Written). v.bits) w ∙ ap (λ n. bits_of (placed n none)) e.places ∙ ap (λ l. bits_of (placed places l)) e.none in
    let known = ap (λ (v : Written). v.known) w ∙ ap (λ n. nat_lt n 18446744073709551615) e.errors in
    spell_err _ _ c.args.plan.now c.args.audio.now c.args.number places room.places room.bytes.items c.new-writer.result c.write_next-outcome.new.writer known blank (sym c.into_target-room.ensures.sent) c.requires.room (omega (arith, c.requires.few, c.requires.room.are.many))
    (λ some. room.full (omega (arith, some, c.into_target-room.ensures.errors))) c.in-Err.ensures.wrote

pub returns-clause-places : goal.returns-clause-places
returns-clause-places c =
    let room = c.into_target-room.result in
    let e = c.emptied.ensures in
    let w = c.new-writer.ensures in
    let places : ℕ = c.args.room.places in
    let none : List ℕ = c.emptied.result.bytes.items in
    let blank : c.new-writer.result.bits ≡ bits_of (placed places []) = ap (λ (v : Written). v.bits) w ∙ ap (λ n. bits_of (placed n none)) e.places ∙ ap (λ l. bits_of (placed places l)) e.none in
    let known = ap (λ (v : Written). v.known) w ∙ ap (λ n. nat_lt n 18446744073709551615) e.errors in
    (spell_ok _ _ c.args.plan.now c.args.audio.now c.args.number places room.places room.bytes.items c.new-writer.result c.write_next-outcome.new.writer known blank (sym c.into_target-room.ensures.sent) c.in-Ok.ensures.wrote).0

pub returns-clause-frame : goal.returns-clause-frame
returns-clause-frame c =
    let room = c.into_target-room.result in
    let e = c.emptied.ensures in
    let w = c.new-writer.ensures in
    let places : ℕ = c.args.room.places in
    let none : List ℕ = c.emptied.result.bytes.items in
    let blank : c.new-writer.result.bits ≡ bits_of (placed places []) = ap (λ (v : Written). v.bits) w ∙ ap (λ n. bits_of (placed n none)) e.places ∙ ap (λ l. bits_of (placed places l)) e.none in
    let known = ap (λ (v : Written). v.known) w ∙ ap (λ n. nat_lt n 18446744073709551615) e.errors in
    (spell_ok _ _ c.args.plan.now c.args.audio.now c.args.number places room.places room.bytes.items c.new-writer.result c.write_next-outcome.new.writer known blank (sym c.into_target-room.ensures.sent) c.in-Ok.ensures.wrote).1
