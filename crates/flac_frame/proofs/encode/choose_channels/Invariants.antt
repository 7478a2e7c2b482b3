use Rattle.std.proofs.Common.{◌≡◌, ◌≤◌, ◌*◌, take}
use Rattle.flac_frame.specs.Chosen.{AllHaveCodings}
use Rattle.flac_frame.specs.Encoding.{block_of, partition_limit}
use Rattle.flac_frame.specs.PlaneLists.{lists_of}
use Rattle.flac_frame.proofs.Chosen.{FirstChosen}
use Rattle.flac_frame.proofs.encode.choose_channels.Given as goal

abbrev pub invariant-loop-i : goal.invariant-loop-i
invariant-loop-i l = record {
  first : FirstChosen (partition_limit l.subject.audio.now) (lists_of l.subject.predictors.now) l.depth l.size l.subframes l.i (block_of l.start l.size (take l.i l.subject.audio.now.channels)) l.bits;
  few : l.bits ≤ l.i * 2097160;
  codings : AllHaveCodings l.fn.workspace.most l.subframes;
  room : l.workspace ≡ l.fn.workspace;
}
