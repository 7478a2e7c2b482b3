use Rattle.std.proofs.Common.{◌≡◌, true, length}
use Rattle.flac_raw.specs.inner.Surveyed.{SurveyedTo}
use Rattle.flac_raw.proofs.judging.read_survey.Given as goal

abbrev pub invariant-pieces : goal.invariant-pieces
invariant-pieces g l = record {
  known : g.R.Source.known l.fn.source ≡ true → g.R.Source.known l.source ≡ true;
  after : g.R.Source.known l.fn.source ≡ true → g.R.Source.after l.source ≡ g.R.Source.after l.fn.source;
  raised : g.R.Source.raised l.source ≡ g.R.Source.raised l.fn.source;
  names : g.R.Source.names l.source ≡ g.R.Source.names l.fn.source;
  channels : length l.blocks.lists.items ≡ length l.fn.blocks.lists.items;
  width : l.blocks.width ≡ l.fn.blocks.width;
  size : l.blocks.size ≡ l.fn.blocks.size;
  read : g.R.Source.known l.fn.source ≡ true → SurveyedTo l.bits (length l.fn.blocks.lists.items) l.fn.blocks.width (g.R.Source.coming l.fn.source) (g.R.Source.coming l.source) l.found.total l.found.small;
}

abbrev pub decreases-pieces : goal.decreases-pieces
decreases-pieces g l = g.R.Source.most l.source
