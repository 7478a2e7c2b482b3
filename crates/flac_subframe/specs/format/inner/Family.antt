-- For proofs of writing: the type of a subframe of a choice.
use Rattle.std.specs.Prelude.{ℕ, ◌+◌, List}
use Rattle.flac_subframe.specs.format.Bodies.{order_of}
use Rattle.flac_subframe.specs.declared.format.content.ContentKind.{ContentKind}
use Rattle.flac_subframe.specs.declared.format.content.ContentKind.TheVariants.{Constant, Verbatim, Predicted}
use Rattle.flac_subframe.specs.declared.format.content.PredictorKind.TheVariants.{Fixed, Linear}
use Rattle.flac_subframe.specs.declared.format.linear.LinearPredictor.{LinearPredictor}
use Rattle.flac_subframe.specs.format.Handed.{handed_at}

-- the type of a subframe (RFC 9639, section 9.2.1)
abbrev pub type_number : List LinearPredictor → ContentKind → ℕ
type_number ps Constant = 0
type_number ps Verbatim = 1
type_number ps (Predicted (Fixed order)) = 8 + order
type_number ps (Predicted (Linear index)) = 31 + order_of (handed_at ps index)
