use Rattle.std.proofs.Common.{◌≡◌, true, refl, sym, ap, ◌∙◌}
use Rattle.flac_bits.specs.State.{without_fence}
use Rattle.flac_bits.specs.Fencing.{lifted}
use Rattle.flac_bits.proofs.Handing.{starts, one_more}
use Rattle.flac_bits.proofs.Bounds.{so_far_lifted}
use Rattle.flac_native.specs.Stream.{grammar, next}
use Rattle.flac_native.specs.Track.{piece_of}
use Rattle.flac_native.proofs.Arriving.{open_after}
use Rattle.flac_native.proofs.Locating.{nothing, no_errors, refused_there, over_there}
use Rattle.flac_native.proofs.SameStart.{less_at}
use Rattle.flac_native.proofs.located.locate_in.Goals as goal

pub loop-fault-init : goal.loop-fault-init
loop-fault-init g c = record {
  went = (λ k. k, refl, refl, λ k. refl, refl);
  far = λ p at. (p, at, starts grammar nothing no_errors p (lifted c.args.reader.now) tt);
}

pub loop-fault-preserved : goal.loop-fault-preserved
loop-fault-preserved g c =
    let step = rw c.in-Ok-Some.field-0-is at c.in-Ok-Some.ensures in
    let inv = c.loop-fault.invariant in
    let x = piece_of c.advance.new.track c.in-Ok-Some.field-0-0 in
    let s0 = lifted c.args.reader.now in
    let s1 = lifted c.loop-fault.reader in
    let s2 = c.advance.new.reader in
    record {
      went = (λ known. step.counts.0 (inv.went.0 known), step.counts.1 ∙ inv.went.1, step.counts.2 ∙ inv.went.2, λ known. ap without_fence (step.counts.3 (inv.went.0 known)) ∙ inv.went.3 known, step.counts.4 ∙ inv.went.4);
      far = λ p at.
          let far = inv.far p at in
          let q = far.0 in
          let item = λ (told : s1.known ≡ true). step.steps q far.1 told step.counts.1 step.counts.2 in (
            next q x,
            step.next q far.1,
            so_far_lifted grammar nothing no_errors p (next q x) s0 s2 tt tt
                (one_more grammar nothing no_errors p q (next q x) s0 s1 s2 tt tt tt x far.2 step.counts item refl tt refl)
                (λ known. let told = far.2.known known in open_after q c.loop-fault.reader s2 x (step.counts.3 told) (item told)),
          );
    }

pub returns-in-Ok-None : goal.returns-in-Ok-None
returns-in-Ok-None g c =
    let step = rw c.in-Ok-None.field-0-is at c.in-Ok-None.ensures in
    let inv = c.loop-fault.invariant in
    record {
      located = λ p at known same quiet.
          let far = inv.far p at in
          let told = far.2.known known in
          over_there p far.0 (lifted c.args.reader.now).cursor (lifted c.loop-fault.reader).cursor (far.2.far known) (step.steps far.0 far.1 told (same ∙ sym inv.went.1) (quiet ∙ sym inv.went.2));
      read = tt;
      names = step.counts.4 ∙ inv.went.4;
    }

pub returns-in-Err : goal.returns-in-Err
returns-in-Err g c =
    let step = c.in-Err.ensures in
    let inv = c.loop-fault.invariant in
    record {
      located = λ p at known same quiet room.
          let far = inv.far p at in
          let told = far.2.known known in
          refused_there p far.0 (lifted c.args.reader.now).cursor (lifted c.loop-fault.reader).cursor c.in-Err.fault c.bytes_taken-byte.result (far.2.far known)
          (step.steps far.0 far.1 told (same ∙ sym inv.went.1) (quiet ∙ sym inv.went.2) room) c.bytes_taken-byte.ensures;
      read = λ known is. less_at _ _ _ inv.went.2 (step.counts.2 (inv.went.0 known) is);
      names = step.counts.3 ∙ inv.went.4;
    }
