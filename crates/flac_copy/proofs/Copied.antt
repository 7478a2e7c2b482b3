-- Frames that are copied one after another.
use Rattle.std.proofs.Common.{◌≡◌, ℕ, true, false, List, [], ◌∷◌, subst, ◌∙◌}
use Rattle.flac_bits.specs.declared.source.Source as source
use Rattle.flac_bits.specs.declared.target.Target as target
use Rattle.flac_bits.specs.declared.why.Why.TheVariants.{Truncated}
use Rattle.flac_native.specs.Stream.{framed, next}
use Rattle.flac_native.specs.Track.{shown}
use Rattle.flac_native.specs.declared.track.Track.{Track}
use Rattle.flac_copy.specs.Frames.{IsFrameOf}
use Rattle.flac_copy.specs.Inputs.{NextFrame}
use Rattle.flac_copy.specs.Outputs.{Puts}
use Rattle.flac_copy.specs.Copying.{EndsCopy, CopiesFrames}
use Rattle.flac_copy.specs.declared.input.Input.{Input}
use Rattle.flac_copy.specs.declared.output.Output.{Output}
use Rattle.flac_copy.proofs.InputLemmas.{gives_more, over_has}

module _ {S W : Type 0} (g : source.Ghosts S) (h : target.Ghosts W) where
  -- a frame was copied, and then all others
  pub one_more : (t0 t1 : Track) (i0 i1 : Input S) (o0 o1 : Output) (w0 w1 end : W) (bytes : List ℕ) (count : ℕ)
      → NextFrame g t0 t1 i0 i1 bytes true → Puts h o0 o1 bytes count w0 w1 → count ≡ (shown t1).size → CopiesFrames g h t1 i1 o1 w1 end → CopiesFrames g h t0 i0 o0 w0 end
  one_more t0 t1 i0 i1 o0 o1 w0 w1 end bytes count comes puts size later known sends p at =
      let f = shown t1 in
      let one = comes.1 known in
      let put = puts sends in
      let rest = later one.known put.0 (next p (framed f)) (comes.0.next p at) in
      record {
        frames = record { bytes = bytes; frame = f } ∷ rest.frames;
        come = record {
          has = gives_more g i0 i1 bytes f rest.frames one.gives rest.come.has;
          are = (subst (λ s. IsFrameOf Truncated s bytes f) at.stand one.is, rest.come.are);
          kept = rest.come.kept;
        };
        sent = rest.sent ∙ put.1 f rest.frames size;
      }

  -- no frame is left
  pub none_left : (t0 t1 : Track) (i0 i1 : Input S) (o : Output) (w0 end : W) (bytes : List ℕ) → NextFrame g t0 t1 i0 i1 bytes false → EndsCopy h t1 o w0 end → CopiesFrames g h t0 i0 o w0 end
  none_left t0 t1 i0 i1 o w0 end bytes over ends known sends p at =
      let same = subst (λ t. EndsCopy h t o w0 end) over.0 ends in
      record {
        frames = [];
        come = record { has = over_has g i0 (over.1 known); are = tt; kept = same.judged p at };
        sent = same.sent sends;
      }
