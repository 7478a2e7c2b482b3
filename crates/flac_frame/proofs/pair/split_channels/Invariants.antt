use Rattle.flac_frame.proofs.Pairs.{SplitTo}
use Rattle.flac_frame.proofs.pair.split_channels.Given as goal

abbrev pub invariant-loop-i : goal.invariant-loop-i
invariant-loop-i l = SplitTo l.left l.right l.side l.middle l.i
