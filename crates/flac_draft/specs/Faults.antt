-- Why a draft is not finished.
use Rattle.std.specs.Prelude.{◌≡◌, ◌⊎◌, ℕ, List, codes, Option, Some, None}
use Rattle.flac_native.specs.Numbers.{text_of}
use Rattle.flac_native.specs.declared.fault.EncodeFault.TheVariants.{Memory, Write}
use Rattle.flac_draft.specs.declared.draft_fault.DraftFault.{DraftFault}
use Rattle.flac_draft.specs.declared.draft_fault.DraftFault.TheVariants.{Encode, OtherTotal}

-- the number and the name
abbrev pub draft_text : DraftFault → List ℕ
draft_text (Encode fault) = text_of fault
draft_text OtherTotal = codes "93 OtherTotal"

-- The fault that is reported: the first reason, or if there is none, that memory ran out or that the target failed.
abbrev pub IsFirstFault : Option DraftFault → DraftFault → Type 0
IsFirstFault reason e = (reason ≡ Some e) ⊎ ((reason ≡ None) × ((e ≡ Encode Memory) ⊎ (e ≡ Encode Write)))
