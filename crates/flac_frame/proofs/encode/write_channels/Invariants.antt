use Rattle.std.proofs.Common.{◌≡◌, flat_map}
use Rattle.flac_bits.proofs.Writing.{Towards}
use Rattle.flac_subframe.specs.format.Spelling.{subframe_spelling}
use Rattle.flac_frame.specs.Chosen.{forms_by_plane}
use Rattle.flac_frame.specs.Encoding.{block_of}
use Rattle.flac_frame.specs.PlaneLists.{lists_of}
use Rattle.flac_frame.proofs.Chosen.{MadeAfter, text_after}
use Rattle.flac_frame.proofs.encode.write_channels.Given as goal

abbrev pub invariant-loop-i : goal.invariant-loop-i
invariant-loop-i g l = record {
  made : MadeAfter (lists_of l.subject.predictors.now) l.depth l.start l.size l.subframes l.subject.audio.now.channels l.i;
  towards : Towards (text_after (lists_of l.subject.predictors.now) l.depth l.start l.size l.subframes l.subject.audio.now.channels l.i)
      (flat_map (subframe_spelling l.depth) (forms_by_plane (lists_of l.subject.predictors.now) l.subframes (block_of l.start l.size l.subject.audio.now.channels))) l.fn.writer l.writer;
  room : l.workspace ≡ l.fn.workspace;
}
