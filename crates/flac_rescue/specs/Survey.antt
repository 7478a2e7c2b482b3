-- What a survey of a damaged stream says (RFC 9639, sections 8 and 9).
use Rattle.std.specs.Prelude.{◌≡◌, ◌⊎◌, ℕ, ◌<◌, List, ◌∷◌, length, Option, ⊤, Some}
use Rattle.flac_bits.specs.Bits.{bits_of}
use Rattle.flac_bits.specs.declared.why.Why.TheVariants as why
use Rattle.flac_info.specs.Info.{Info}
use Rattle.flac_meta.specs.declared.block.Block.{Block}
use Rattle.flac_meta.specs.declared.block.Block.TheVariants.{StreamInfo}
use Rattle.flac_header.specs.declared.subset.Profile.TheVariants.{Lax}
use Rattle.flac_native.specs.Decoding.{beginning}
use Rattle.flac_native.specs.Retag.{IsRefused}
use Rattle.flac_native.specs.declared.fault.Fault.{Fault}
use Rattle.flac_salvage.specs.Kept.{AreFound}
use Rattle.flac_salvage.specs.Chain.{chain, IsBest}
use Rattle.flac_rescue.specs.Gaps.{limit_of, gaps, others}
use Rattle.flac_rescue.specs.Head.{IsHead}
use Rattle.flac_salvage.specs.declared.find.WholeFrame.{WholeFrame}
use Rattle.flac_rescue.specs.declared.survey.Survey.{Survey}
use Rattle.flac_rescue.specs.declared.survey.SurveyFault.{SurveyFault}
use Rattle.flac_rescue.specs.declared.survey.SurveyFault.TheVariants.{Head, Memory, Unordered}

-- the first block is STREAMINFO
pub record BeginsWithInfo (info : Info) (blocks : List Block) : Type 0 where
  pub more : List Block
  pub is : blocks ≡ StreamInfo info ∷ more

-- this STREAMINFO is the first block, if some is
abbrev pub IsFirstInfo : List Block → Option Info → Type 0
IsFirstInfo blocks found = (info : Info) (more : List Block) → blocks ≡ StreamInfo info ∷ more → found ≡ Some info

-- All whole frames from an offset on were found; the best chain of them is kept, with no sample past the total; and the
-- gaps are what is missing between the kept ones, the others those that are not kept.
pub record AreSurveyed (bytes : List ℕ) (front : ℕ) (info : Info) (s : Survey) : Type 0 where
  pub at : s.front ≡ front
  pub stream : s.info ≡ info
  pub found : AreFound Lax info bytes front s.found.cut s.found.frames.items
  pub kept : s.kept.items ≡ chain (limit_of info.total) 0 s.found.frames.items
  pub best : IsBest (limit_of info.total) 0 s.found.frames.items s.kept.items
  pub gaps : s.gaps.items ≡ gaps info.total (length bytes) front 0 s.kept.items
  pub others : s.others.items ≡ others s.found.frames.items s.kept.items

-- the same after the metadata blocks with which the bytes begin
pub record IsSurvey (bytes : List ℕ) (s : Survey) : Type 0 where
  pub head : IsHead bytes s.blocks.items s.front
  pub info : BeginsWithInfo s.info s.blocks.items
  pub frames : AreSurveyed bytes s.front s.info s

-- ---- why bytes are not surveyed

-- the metadata blocks with which they begin have more bytes than there are
pub record IsLongHead (bytes : List ℕ) : Type 0 where
  pub blocks : List Block
  pub front : ℕ
  pub head : IsHead bytes blocks front
  pub past : length bytes < front

-- The marker or a block is refused at the place of this fault for its reason, as decoding refuses it; or memory ran out.
abbrev pub IsHeadFault : (bytes : List ℕ) → Fault → Type 0
IsHeadFault bytes fault = (fault.why ≡ why.Memory) ⊎ (IsRefused (beginning why.Truncated) (bits_of bytes) fault.at fault.why ⊎ IsLongHead bytes)

-- after the metadata blocks there are more whole frames than a chain is sought among
pub record AreUnordered (bytes : List ℕ) : Type 0 where
  pub blocks : List Block
  pub front : ℕ
  pub head : IsHead bytes blocks front
  pub info : Info
  pub begins : BeginsWithInfo info blocks
  pub cut : Option ℕ
  pub frames : List WholeFrame
  pub found : AreFound Lax info bytes front cut frames
  pub many : 524288 < length frames

-- memory ran out, or there are more whole frames than a chain is sought among
abbrev pub IsOrderFault : List WholeFrame → SurveyFault → Type 0
IsOrderFault found e = (e ≡ Memory) ⊎ ((e ≡ Unordered) × (524288 < length found))

abbrev pub IsSurveyFault : (bytes : List ℕ) → SurveyFault → Type 0
IsSurveyFault bytes (Head fault) = IsHeadFault bytes fault
IsSurveyFault bytes Memory = ⊤
IsSurveyFault bytes Unordered = AreUnordered bytes
