-- The search of an encoder.
use Rattle.std.specs.Prelude.{Option, option_map}
use Rattle.flac_predict.specs.declared.search.Search.{Search}
use Rattle.flac_encoder.specs.declared.block_search.BlockSearch.{BlockSearch}

-- how far predictors are sought, if they are
abbrev pub effort_of : Option BlockSearch → Option Search
effort_of search = option_map (λ s. s.effort) search
