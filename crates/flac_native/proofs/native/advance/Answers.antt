use Rattle.std.proofs.Common.{◌≡◌, ℕ, ◌+◌, ◌≤◌, true, Result, Ok, Err, inl, inr, sym, ap, ◌∙◌, rules, arith}
use Rattle.flac_bits.specs.State.{without_fence}
use Rattle.flac_bits.specs.Fencing.{lifted}
use Rattle.flac_bits.specs.declared.why.Why.{Why}
use Rattle.flac_bits.proofs.Bounds.{lifted_same}
use Rattle.flac_native.specs.Stream.{Stand, place_in}
use Rattle.flac_native.specs.Track.{is_after_blocks}
use Rattle.flac_native.specs.declared.track.Phase.{Phase}
use Rattle.flac_native.specs.declared.track.Phase.TheVariants.{Frames}
use Rattle.flac_native.specs.declared.track.Track.{Track}
use Rattle.flac_native.proofs.Advancing.{over_here, refused_here, part_here, part_refused_here}
use Rattle.flac_native.proofs.Metadata.{at_the_marker}
use Rattle.flac_native.proofs.RetagFaults.{no_fewer, read_memory}
use Rattle.flac_native.proofs.SameStart.{less_at, most_at, rises_at}
use Rattle.flac_native.proofs.native.advance.Goals as goal

both_spend : (new mid old : ℕ) → new + 32 ≤ mid → mid ≤ old → new + 32 ≤ old
both_spend new mid old h k = omega arith

abbrev answer : {X : Type 0} → X → Result X Why
answer x = Ok x

abbrev wrong : {X : Type 0} → Why → Result X Why
wrong e = Err e

answers : {X : Type 0} (x : X) (e : Why) → answer x ≡ wrong e → ⊥
answers x e is = absurd cc

same_reason : {X : Type 0} (v w : Why) → wrong {X = X} v ≡ wrong w → v ≡ w
same_reason v w e = cc

after_frames : (k : Phase) → is_after_blocks k ≡ true → k ≡ Frames
after_frames k e = search rules

pub returns-in-Ok : goal.returns-in-Ok
returns-in-Ok g c =
    let ends = rw c.lift.ensures at c.in-Ok-true.ensures in
    let frames = after_frames _ (ends.later c.in-Ok-true.field-0-test) in
    record {
      spends = ends.spends;
      counts = ends.counts;
      memory = λ phase. tt;
      broken = λ p at. tt;
      steps = λ p at known same quiet.
          over_here c.args.track.now p (lifted c.args.reader.now).cursor c.in-Ok-true.field-0 at c.in-Ok-true.field-0-test (ends.over known).1 (c.in-Ok.ensures.judged p at);
      made = tt;
      ordered = (frames, ap (λ (t : Track). t.position.phase) c.in-Ok.ensures.stays ∙ frames);
      next = tt;
    }

pub returns-in-Err-end : goal.returns-in-Err-end
returns-in-Err-end g c =
    let ends = rw c.lift.ensures at c.in-Ok-true.ensures in
    let went = ends.counts in
    let ended = c.in-Err-end.ensures in
    record {
      spends = tt;
      counts = (no_fewer _ _ went.1, λ known same. went.3 known, λ known read. absurd (ended.quiet read), went.4, λ read. absurd (ended.quiet read), ended.output);
      memory = λ phase. ended.memory;
      broken = λ p at out. elim out [ inl e ↦ absurd (ended.quiet e) | inr e ↦ absurd (ended.memory e) ];
      steps = λ p at known same quiet room.
          refused_here c.args.track.now p (lifted c.args.reader.now).cursor c.in-Ok-true.field-0 c.in-Err-end.why at c.in-Ok-true.field-0-test (ends.over known).1 (ended.judged p at);
      made = tt;
      ordered = tt;
      next = tt;
    }

pub returns-in-Ok-read_part : goal.returns-in-Ok-read_part
returns-in-Ok-read_part g c =
    let ends = rw c.lift.ensures at c.in-Ok-false.ensures in
    let went = ends.counts in
    let part = c.in-Ok-read_part.ensures in
    let read = part.counts in
    record {
      spends = both_spend _ _ _ part.spends ends.spends;
      counts = (λ known. read.0 (went.0 known), read.1 ∙ went.1, read.2 ∙ went.2, λ known. read.3 (went.0 known) ∙ ap without_fence (went.3 known), read.4 ∙ went.4);
      memory = λ phase. tt;
      broken = λ p at. tt;
      steps = λ p at known same quiet.
          let over = ends.over known in
          part_here c.args.track.now p (lifted c.args.reader.now).cursor (lifted c.is_at_end.new.reader).cursor c.in-Ok-false.field-0 _ _ at c.in-Ok-false.field-0-test over.1 (lifted_same c.args.reader.now c.is_at_end.new.reader over.0 (went.3 known))
          (part.reads (λ is. absurd (answers _ _ is)) (went.0 known) (same ∙ sym went.1));
      made = part.made;
      ordered = part.ordered;
      next = part.next;
    }

pub returns-in-Err-read_part : goal.returns-in-Err-read_part
returns-in-Err-read_part g c =
    let ends = rw c.lift.ensures at c.in-Ok-false.ensures in
    let went = ends.counts in
    let part = c.in-Err-read_part.ensures in
    let read = part.counts in
    record {
      spends = tt;
      counts = (most_at _ _ _ went.1 read.0, λ known same. read.1 (went.0 known) (same ∙ sym went.1) ∙ ap without_fence (went.3 known), λ known is. less_at _ _ _ went.2 (read.2 (went.0 known) is), read.3 ∙ went.4, λ is. rises_at _ _ _ went.2 (read.4 is), read.5);
      memory = part.memory;
      broken = λ p at out. (c.place-at.ensures ∙ ap (λ (s : Stand). place_in s.phase s.index) at.stand, λ is there. part.marker (at_the_marker _ _ (sym c.place-at.ensures ∙ there)) is);
      steps = λ p at known same quiet room.
          let over = ends.over known in
          part_refused_here c.args.track.now p (lifted c.args.reader.now).cursor (lifted c.is_at_end.new.reader).cursor c.in-Ok-false.field-0 _ _ at c.in-Ok-false.field-0-test over.1 (lifted_same c.args.reader.now c.is_at_end.new.reader over.0 (went.3 known))
          c.place-at.ensures (part.reads (λ is. room (same_reason _ _ is)) (went.0 known) (same ∙ sym went.1));
      made = tt;
      ordered = tt;
      next = tt;
    }

pub returns-in-Err-clause-broken : goal.returns-in-Err-clause-broken
returns-in-Err-clause-broken g c = λ p at out. (c.place-at.ensures ∙ ap (λ (s : Stand). place_in s.phase s.index) at.stand, λ is. absurd (read_memory (sym c.in-Err.ensures.failed ∙ is)))
