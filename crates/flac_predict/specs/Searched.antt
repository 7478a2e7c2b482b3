-- What predictors that are found for each block do to the length of a stream.
use Rattle.std.specs.Prelude.{◌≤◌, Bool, List, [], length}
use Rattle.flac_meta.specs.declared.block.Block.{Block}
use Rattle.flac_subframe.specs.declared.format.linear.LinearPredictor.{LinearPredictor}
use Rattle.flac_frame.specs.Audio.{Sound}
use Rattle.flac_native.specs.Given.{Cut, with_found}
use Rattle.flac_native.specs.Writing.{Encodes}
use Rattle.flac_predict.specs.Found.{AllBegin}

-- A stream of samples whose frames are shortest over predictors that begin with the plan's, for each plane of each block
-- others, is no longer than one whose frames are shortest over the plan's alone.
abbrev pub SearchesShorten : Type 0
SearchesShorten = (p : Cut) (found : List (List (List LinearPredictor))) (list : List Block) (a : Sound) (before without after : List Bool) → AllBegin p.predictors found
    → Encodes (with_found p []) list a before without → Encodes (with_found p found) list a before after → length after ≤ length without
