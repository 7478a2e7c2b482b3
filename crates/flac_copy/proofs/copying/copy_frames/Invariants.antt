use Rattle.flac_copy.specs.Copying.{CopiesFrames}
use Rattle.flac_copy.proofs.copying.copy_frames.Given as goal

abbrev pub invariant-frames : goal.invariant-frames
invariant-frames g l = record {
  whole : (end : g.row.W.Denot) → CopiesFrames g.R.Source g.W.Target l.track l.input l.out l.target end → CopiesFrames g.R.Source g.W.Target l.fn.track l.fn.input l.fn.out l.fn.target end;
}
