use Rattle.flac_pages.proofs.PageRuns.{pages_are_runs}
use Rattle.flac_pages.proofs.laws.pages_are_runs.Goals as goal

pub returns : goal.returns
returns c = pages_are_runs
