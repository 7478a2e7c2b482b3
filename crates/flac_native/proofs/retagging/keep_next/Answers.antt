use Rattle.std.proofs.Common.{sym, ap, subst, ◌∙◌, ◌≡◌, true, false, Result, Ok, Err}
use Rattle.flac_bits.specs.Fencing.{lifted}
use Rattle.flac_bits.specs.declared.why.Why.{Why}
use Rattle.flac_native.specs.Stream.{Stand, stand_after}
use Rattle.flac_native.specs.Track.{position_of}
use Rattle.flac_native.specs.Retag.{is_before_frames}
use Rattle.flac_native.specs.inner.Retag.{piece_in}
use Rattle.flac_native.proofs.Metadata.{own_stand, part_read, part_refused, before_frames, at_the_marker}
use Rattle.flac_native.proofs.retagging.keep_next.Goals as goal

abbrev answer : {X : Type 0} → X → Result X Why
answer x = Ok x

abbrev wrong : {X : Type 0} → Why → Result X Why
wrong e = Err e

answers : {X : Type 0} (x : X) (e : Why) → answer x ≡ wrong e → ⊥
answers x e is = absurd cc

same_reason : {X : Type 0} (v w : Why) → wrong {X = X} v ≡ wrong w → v ≡ w
same_reason v w e = cc

some_none : true ≡ false → ⊥
some_none e = absurd cc

pub returns-in-Err-clause-refused : goal.returns-in-Err-clause-refused
returns-in-Err-clause-refused g c = λ p at known same room.
    part_refused p c.args.position.now (lifted c.args.reader.now) c.place-at.result c.in-Err.why at c.requires c.place-at.ensures (c.in-Err.ensures.reads p.stand (λ e. room (same_reason _ _ e)) known same)

pub returns-in-Err-clause-at : goal.returns-in-Err-clause-at
returns-in-Err-clause-at g c = subst (λ q. is_before_frames q ≡ true) (sym c.place-at.ensures) (before_frames c.args.position.now.phase c.args.position.now.index c.requires)

pub returns-in-Err-keep-clause-at : goal.returns-in-Err-keep-clause-at
returns-in-Err-keep-clause-at g c = subst (λ q. is_before_frames q ≡ true) (sym c.place-at.ensures) (before_frames c.args.position.now.phase c.args.position.now.index c.requires)

pub returns-in-Ok-keep-clause-keeps : goal.returns-in-Ok-keep-clause-keeps
returns-in-Ok-keep-clause-keeps g c = λ p at.
    let q = c.args.position.now in
    let next_is = ap (λ (s : Stand). position_of (stand_after s (piece_in c.in-Ok.part))) (sym (own_stand q p.stand at)) ∙ c.in-Ok.ensures.next p.stand in (
      piece_in c.in-Ok.part,
      next_is,
      c.in-Ok-keep.ensures.keeps,
      λ known. part_read p q (lifted c.args.reader.now) c.read_next.new.reader c.in-Ok.part at c.requires (c.in-Ok.ensures.reads p.stand (λ e. absurd (answers _ _ e)) known c.in-Ok.ensures.counts.1),
    )

pub returns-in-Err-clause-memory : goal.returns-in-Err-clause-memory
returns-in-Err-clause-memory g c = λ is there.
    c.in-Err.ensures.memory (at_the_marker c.args.position.now.phase c.args.position.now.index (sym c.place-at.ensures ∙ there)) is

pub returns-in-Err-keep-clause-memory : goal.returns-in-Err-keep-clause-memory
returns-in-Err-keep-clause-memory g c = λ is there.
    let first = c.in-Ok.ensures.first (at_the_marker c.args.position.now.phase c.args.position.now.index (sym c.place-at.ensures ∙ there)) in
    some_none (sym c.in-Err-keep.ensures.none ∙ first)
