use Rattle.std.proofs.Common.{◌≡◌, true}
use Rattle.flac_around.specs.inner.Walking.{IsCalm}
use Rattle.flac_chain.specs.Steady.{IsSteady}
use Rattle.flac_chain.specs.inner.Going.{SoFar, bytes_of}
use Rattle.flac_chain.proofs.chain.decode_chain.Given as goal

abbrev pub invariant-loop-stream : goal.invariant-loop-stream
invariant-loop-stream g l = record {
  names : g.S.Sink.names l.sink ≡ g.S.Sink.names l.fn.sink;
  source_names : g.R.Source.names l.fronted.source ≡ g.R.Source.names l.fn.source;
  calm : IsCalm g.R.Source l.fn.source l.fronted.source;
  known : g.R.Source.known l.fn.source ≡ true → g.R.Source.known l.fronted.source ≡ true;
  so_far : IsSteady g.S.Sink → g.R.Source.known l.fn.source ≡ true → g.S.Sink.known l.fn.sink ≡ true
      → SoFar l.fn.profile g.S.Sink.takes (g.R.Source.coming l.fn.source) (bytes_of g.R.Source l.fronted) l.stream l.fn.sink l.sink;
}
