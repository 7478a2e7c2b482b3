-- For proofs of encodings: how the search for predictors is asked for, and what it changes.
use Rattle.std.specs.Prelude.{◌≡◌, List, Option, Some, None}
use Rattle.flac_native.specs.Given.{Cut, with_found}
use Rattle.flac_predict.specs.declared.search.Search.{Search}
use Rattle.flac_predict.specs.declared.search.Search.TheVariants.{Quick, Full}
use Rattle.flac_subframe.specs.declared.format.linear.LinearPredictor.{LinearPredictor}
use Rattle.flac_cli.specs.Encoded.{AreFound}
use Rattle.flac_jobs.specs.declared.search_effort.SearchEffort.{SearchEffort}
use Rattle.flac_jobs.specs.declared.search_effort.SearchEffort.TheVariants as efforts

-- how the search is called, if it is
abbrev pub search_of : SearchEffort → Option Search
search_of efforts.None = None
search_of efforts.Quick = Some Quick
search_of efforts.Full = Some Full

-- This plan is the other one with what was found for each plane of each block.
pub record IsSearched (effort : SearchEffort) (plan tried : Cut) : Type 0 where
  pub found : List (List (List LinearPredictor))
  pub sought : AreFound effort plan.predictors found
  pub is : tried ≡ with_found plan found
