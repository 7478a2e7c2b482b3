-- For proofs of writing: what a choice that is borrowed spells.
use Rattle.std.specs.Prelude.{ℕ, ℤ, ◌≡◌, ◌<◌, ◌+ℤ◌, Bool, List, ◌++◌, length, map, flat_map, take}
use Rattle.std.specs.Int.{int_shr}
use Rattle.flac_subframe.specs.declared.format.coding_method.CodingMethod.{CodingMethod}
use Rattle.flac_subframe.specs.declared.format.content.ChoiceView.{ChoiceView}
use Rattle.flac_subframe.specs.declared.format.linear.LinearPredictor.{LinearPredictor}
use Rattle.flac_subframe.specs.format.Bodies.{Body, Chooses, Predicts, StandsFor, coefficients_of, cut, differences, order_of, residual_of, shift_of, spelled}
use Rattle.flac_subframe.specs.format.Chosen.{body_as, body_under, offered}
use Rattle.flac_subframe.specs.format.Cost.{coding_of, parameter_bits_of}
use Rattle.flac_subframe.specs.format.Family.{form_as}
use Rattle.flac_subframe.specs.format.Handed.{coefficients_in, handed, predictor_of}
use Rattle.flac_subframe.specs.format.Numbers.{sample_at}
use Rattle.flac_subframe.specs.format.Residual.{Residual}
use Rattle.flac_subframe.specs.format.Spelling.{partition_spelling, predictor_spelling, residual_spelling, subframe_spelling}
use Rattle.flac_subframe.specs.format.Subframe.{Form}
use Rattle.flac_subframe.specs.format.inner.Cost.{codings_lent}

-- partitions of values, each with the coding of a byte
abbrev pub parts_spelling : CodingMethod → ℕ → ℕ → List ℤ → List ℕ → List Bool
parts_spelling method first size values bytes = flat_map (partition_spelling (parameter_bits_of method)) (cut first size values (map coding_of bytes))

-- the residual of a predictor of an order
abbrev pub residual_lent : ℕ → List ℤ → ChoiceView → Residual
residual_lent order values choice = residual_of order values (codings_lent choice)

-- what follows the warm-up samples of a linear predictor
abbrev pub rest_spelling : LinearPredictor → List ℤ → ChoiceView → List Bool
rest_spelling p values choice = predictor_spelling (handed p) ++ residual_spelling (residual_lent (length (coefficients_in p)) values choice)

-- the body by a predictor, and whether it may have the codings of the choice
abbrev pub body_lent : Chooses → ChoiceView → List ℤ → Body
body_lent p choice s = body_under p (codings_lent choice) s

abbrev pub CanPredict : Chooses → ChoiceView → List ℤ → Type 0
CanPredict p choice s = Predicts 15 p (take (order_of p) s) (codings_lent choice) (differences (coefficients_of p) (shift_of p) s) s

-- the body and the form of the choice
abbrev pub body_chosen : List LinearPredictor → ChoiceView → List ℤ → Body
body_chosen ps choice s = body_as ps choice.form.content (codings_lent choice) s

abbrev pub form_chosen : List LinearPredictor → ChoiceView → List ℤ → Form
form_chosen ps choice s = form_as ps choice.form choice.codings.now s

-- what is written: the content of a linear predictor, that of the choice, and a whole subframe
abbrev pub linear_spelled : ℕ → LinearPredictor → ChoiceView → List ℤ → List Bool
linear_spelled depth p choice s = spelled depth (body_lent (predictor_of p) choice s)

abbrev pub content_chosen : ℕ → List LinearPredictor → ChoiceView → List ℤ → List Bool
content_chosen depth ps choice s = spelled depth (body_chosen ps choice s)

abbrev pub subframe_chosen : ℕ → List LinearPredictor → ChoiceView → List ℤ → List Bool
subframe_chosen depth ps choice s = subframe_spelling depth (form_chosen ps choice s)

-- the body of the choice encodes the samples
abbrev pub CanEncode : List LinearPredictor → ChoiceView → List ℤ → Type 0
CanEncode ps choice s = StandsFor 15 (offered ps) (body_chosen ps choice s) s

-- each sample is twice its half
abbrev pub AreEven : List ℤ → Type 0
AreEven s = (i : ℕ) → i < length s → int_shr (sample_at s i) 1 +ℤ int_shr (sample_at s i) 1 ≡ sample_at s i
