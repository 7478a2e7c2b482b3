-- Cue sheets that are exported and come in again (RFC 9639, section 8.7).
use Rattle.std.specs.Prelude.{◌≡◌, ℕ, List, Some, Ok}
use Rattle.flac_meta.specs.declared.cue_sheet.CueTrack.{CueTrack}
use Rattle.flac_meta.specs.declared.cue_sheet.CueSheet.{CueSheet}
use Rattle.flac_meta.specs.declared.block.Block.{Block}
use Rattle.flac_cue.specs.Text.{cue_text}
use Rattle.flac_cue.specs.ComesBack.{KeepsCue}
use Rattle.flac_cue.specs.declared.audio.CueAudio.{CueAudio}
use Rattle.flac_edit.specs.BlockEdits.{audio_of, sheet_for}

-- What is exported of a cue sheet that keeps the rules of its stream's audio is the text of the same sheet of that stream,
-- whatever the file's name.
abbrev pub CueSheetsComeBack : Type 0
CueSheetsComeBack = (list : List Block) (a : CueAudio) (s : CueSheet) (tracks : List CueTrack) (name : List ℕ)
    → audio_of list ≡ Some a → KeepsCue a s tracks → sheet_for (audio_of list) (cue_text name s) ≡ Ok s
