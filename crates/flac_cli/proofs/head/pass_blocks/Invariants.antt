use Rattle.std.proofs.Common.{◌≡◌, true}
use Rattle.flac_native.specs.Track.{is_going}
use Rattle.flac_native.specs.Giving.{stage_of}
use Rattle.flac_cli.specs.inner.Heading.{ReadsBlocks}
use Rattle.flac_cli.proofs.head.pass_blocks.Given as goal

abbrev pub invariant-loop-index : goal.invariant-loop-index
invariant-loop-index g l = record {
  going : is_going (stage_of l.decoder).course ≡ true;
  names : g.C.Container.names (stage_of l.decoder).container ≡ g.C.Container.names (stage_of l.initial.decoder).container;
  reads : ReadsBlocks g.C.Container g.S.Sink.known g.S.Sink.takes (stage_of l.initial.decoder) (stage_of l.decoder) l.initial.sink l.sink;
}
