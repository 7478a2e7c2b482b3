-- The reasons why samples or a plan are refused: their numbers, the texts that are printed of them, and those of a
-- format.
use Rattle.std.specs.Prelude.{ℕ, ◌||◌, cond, nat_eq, nat_lt, List, codes, Option, Some, None, is_none}
use Rattle.flac_header.specs.Choice.{rate_choice_in, depth_choice_in}
use Rattle.flac_header.specs.declared.subset.Profile.{Profile}
use Rattle.flac_frame.specs.declared.setup.SetupFault.{SetupFault}
use Rattle.flac_frame.specs.declared.setup.SetupFault.TheVariants.{BadRate, BadDepth, BadChannels, LengthsDiffer, SampleTooLarge, TooLong, BadBlockSize, TooManyPoints, PredictorOrder, TooManyPredictors}

abbrev pub number_of : SetupFault → ℕ
number_of BadRate = 40
number_of BadDepth = 41
number_of BadChannels = 42
number_of LengthsDiffer = 43
number_of SampleTooLarge = 44
number_of TooLong = 45
number_of BadBlockSize = 46
number_of TooManyPoints = 47
number_of PredictorOrder = 51
number_of TooManyPredictors = 52

-- the number and the name
abbrev pub text_of : SetupFault → List ℕ
text_of BadRate = codes "40 BadRate"
text_of BadDepth = codes "41 BadDepth"
text_of BadChannels = codes "42 BadChannels"
text_of LengthsDiffer = codes "43 LengthsDiffer"
text_of SampleTooLarge = codes "44 SampleTooLarge"
text_of TooLong = codes "45 TooLong"
text_of BadBlockSize = codes "46 BadBlockSize"
text_of TooManyPoints = codes "47 TooManyPoints"
text_of PredictorOrder = codes "51 PredictorOrder"
text_of TooManyPredictors = codes "52 TooManyPredictors"

-- Why no samples of a format can be encoded, if so: under the profile no frame header has a code for the rate or for
-- the depth (RFC 9639, sections 7, 9.1.2 and 9.1.4), or there are not 1 to 8 channels (section 9.1.3).
unfoldable pub format_fault : Profile → (rate bits channels : ℕ) → Option SetupFault
format_fault profile rate bits channels =
    cond (is_none (rate_choice_in profile rate)) (Some BadRate)
    (cond (is_none (depth_choice_in profile bits)) (Some BadDepth)
    (cond (nat_eq channels 0 || nat_lt 8 channels) (Some BadChannels) None))
