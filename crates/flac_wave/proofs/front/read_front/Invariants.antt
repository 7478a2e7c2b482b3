use Rattle.std.proofs.Common.{◌≡◌, ◌≤◌, ◌+◌, true, None, length, map}
use Rattle.flac_wave.specs.Chunks.{header_fault}
use Rattle.flac_wave.specs.inner.Pieces.{KnownInRange}
use Rattle.flac_wave.proofs.Walks.{Walked}
use Rattle.flac_wave.proofs.front.read_front.Given as goal

abbrev pub invariant-chunks : goal.invariant-chunks
invariant-chunks g l = record {
  many : length l.pieces.items ≡ l.count + 1;
  range : KnownInRange l.seen.format;
  known : g.R.Source.known l.fn.source ≡ true → g.R.Source.known l.source ≡ true;
  header : g.R.Source.known l.fn.source ≡ true → header_fault (g.R.Source.coming l.fn.source) ≡ None;
  walked : g.R.Source.known l.fn.source ≡ true → Walked l.to_end (g.R.Source.coming l.fn.source) (map (λ p. p.items) l.pieces.items) (g.R.Source.coming l.source) l.seen l.count;
  raised : g.R.Source.raised l.source ≡ g.R.Source.raised l.fn.source;
  names : g.R.Source.names l.source ≡ g.R.Source.names l.fn.source;
}

abbrev pub decreases-chunks : goal.decreases-chunks
decreases-chunks g l = g.R.Source.most l.source
