-- For proofs of reading a list of predictors line by line: what a line and a wrong line are.
use Rattle.std.specs.Prelude.{ℕ, ◌≡◌, List, [], ◌∷◌, Option, Some, None, Err}
use Rattle.flac_subframe.specs.format.Bodies.{Chooses}
use Rattle.flac_subframe.specs.format.Handed.{predictor_of}
use Rattle.flac_cli.specs.declared.predictors.Line.{Line}
use Rattle.flac_cli.specs.declared.predictors.Line.TheVariants as line
use Rattle.flac_cli.specs.declared.predictors.ListFault.{ListFault}
use Rattle.flac_cli.specs.declared.predictors.ListFault.TheVariants as fault
use Rattle.flac_cli.specs.Predictors.{predictors_in}

-- what was found in a line
abbrev pub found_in : Line → Option (List Chooses)
found_in line.Blank = Some []
found_in (line.Predictor p) = Some (predictor_of p ∷ [])
found_in line.Wrong = None

-- the first wrong line of a text has the number of this error
abbrev pub IsWrongLine : (text : List ℕ) → ListFault → Type 0
IsWrongLine text fault.Memory = ⊥
IsWrongLine text (fault.Line number) = predictors_in text ≡ Err number
