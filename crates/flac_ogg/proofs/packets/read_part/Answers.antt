use Rattle.std.specs.Prelude.{OnOk}
use Rattle.std.proofs.Common.{◌≡◌, ◌<◌, true, false, Result, Ok, Err, sym, ap, subst, ◌∙◌, rules}
use Rattle.std.proofs.lemmas.Result.{IfOk-weaker}
use Rattle.flac_bits.specs.State.{State, started}
use Rattle.flac_bits.specs.Fencing.{lifted}
use Rattle.flac_bits.specs.Reading.{Counts}
use Rattle.flac_bits.specs.declared.why.Why.{Why}
use Rattle.flac_native.specs.Track.{stand_of, piece_of, is_after_blocks}
use Rattle.flac_native.specs.declared.track.Phase.{Phase}
use Rattle.flac_native.specs.declared.track.Phase.TheVariants.{Frames}
use Rattle.flac_ogg.proofs.Packeted.{frame_told, block_told, first_told}
use Rattle.flac_ogg.proofs.packets.read_part.Goals as goal

-- a call that began without a fence, or with the checks begun, too
names_in : {X : Type 0} (old new : State) (r : Result X Why) → Counts (lifted old) new r → new.names ≡ old.names
names_in old new (Ok x) h = h.4
names_in old new (Err e) h = h.3

counts_in : {X : Type 0} (old mid new : State) (r : Result X Why) → mid ≡ started (lifted old) → Counts mid new r → Counts (lifted old) new r
counts_in {X} old mid new (Ok x) e h = subst (λ (k : State). Counts {X = X} k new (Ok x)) e h
counts_in {X} old mid new (Err why) e h = subst (λ (k : State). Counts {X = X} k new (Err why)) e h

spends_in : {X : Type 0} (old mid new : State) (r : Result X Why) → mid ≡ started (lifted old) → OnOk r (new.most < mid.most) → OnOk r (new.most < old.most)
spends_in old mid new r e h = subst (λ (k : State). OnOk r (new.most < k.most)) e h

no_frames : (ph : Phase) → is_after_blocks ph ≡ false → ph ≡ Frames → ⊥
no_frames ph e is =
    let after : is_after_blocks ph ≡ true = ap is_after_blocks is in
    absurd cc

at_frames : (ph : Phase) → is_after_blocks ph ≡ true → ph ≡ Frames
at_frames ph e = search rules

pub returns-then-is_past_metadata : goal.returns-then-is_past_metadata
returns-then-is_past_metadata g c =
    let read = c.read_frame in
    record {
      spends = read.ensures.spends;
      names = names_in c.args.bits.now read.new.bits read.result read.ensures.counts;
      counts = read.ensures.counts;
      memory = λ frames. read.ensures.memory;
      reads = λ begun.
          frame_told (λ part. piece_of read.new.track part) (stand_of c.args.track.now) c.args.bits.now read.new.bits read.result
          (sym c.is_past_metadata.ensures ∙ c.if-is_past_metadata.true) read.ensures.reads;
      made = read.ensures.made;
      ordered = IfOk-weaker read.result _ _ (λ part ordered. ordered (at_frames _ (sym c.is_past_metadata.ensures ∙ c.if-is_past_metadata.true))) read.ensures.ordered;
      next = read.ensures.next;
    }

pub returns-then-is_first_block : goal.returns-then-is_first_block
returns-then-is_first_block g c =
    let at = rw c.lift.ensures at c.start_checks.ensures in
    let read = c.read_first_block in
    let past = sym c.is_past_metadata.ensures ∙ c.if-is_past_metadata.false in
    let counts = counts_in c.args.bits.now c.start_checks.new.self read.new.bits read.result at read.ensures.counts in
    record {
      spends = spends_in c.args.bits.now c.start_checks.new.self read.new.bits read.result at read.ensures.spends;
      names = names_in c.args.bits.now read.new.bits read.result counts;
      counts = counts;
      memory = λ frames. absurd (no_frames _ past frames);
      reads = λ begun.
          first_told (λ part. piece_of read.new.track part) (stand_of c.args.track.now) c.args.bits.now read.new.bits read.result
          begun past (sym c.is_first_block.ensures ∙ c.if-is_first_block.true) (rw at at read.ensures.reads);
      made = read.ensures.made;
      ordered = IfOk-weaker read.result _ _ (λ part ordered. ordered past) read.ensures.ordered;
      next = read.ensures.next;
    }

pub returns : goal.returns
returns g c =
    let at = rw c.lift.ensures at c.start_checks.ensures in
    let read = c.read_block in
    let past = sym c.is_past_metadata.ensures ∙ c.if-is_past_metadata.false in
    let counts = counts_in c.args.bits.now c.start_checks.new.self read.new.bits read.result at read.ensures.counts in
    record {
      spends = spends_in c.args.bits.now c.start_checks.new.self read.new.bits read.result at read.ensures.spends;
      names = names_in c.args.bits.now read.new.bits read.result counts;
      counts = counts;
      memory = λ frames. absurd (no_frames _ past frames);
      reads = λ begun.
          block_told (λ part. piece_of read.new.track part) (stand_of c.args.track.now) c.args.bits.now read.new.bits read.result
          begun past (sym c.is_first_block.ensures ∙ c.if-is_first_block.false) (rw at at read.ensures.reads);
      made = read.ensures.made;
      ordered = IfOk-weaker read.result _ _ (λ part ordered. ordered past) read.ensures.ordered;
      next = read.ensures.next;
    }
