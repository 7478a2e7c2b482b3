-- The sheet of a text that says it.
use Rattle.std.proofs.Common.{◌≡◌, ℕ, List, Option, Some, Result, Ok, Err, ap, ◌∙◌}
use Rattle.flac_meta.specs.declared.cue_sheet.CueSheet.{CueSheet}
use Rattle.flac_cue.specs.Text.{cue_text}
use Rattle.flac_cue.specs.Reading.{sheet_in}
use Rattle.flac_cue.specs.ComesBack.{CueComesBack}
use Rattle.flac_cue.specs.declared.audio.CueAudio.{CueAudio}
use Rattle.flac_cue.specs.declared.fault.CueWhy.{CueWhy}
use Rattle.flac_edit.specs.BlockEdits.{cue_line, sheet_for}
use Rattle.flac_edit.specs.CueSheets.{CueSheetsComeBack}
use Rattle.flac_edit.specs.declared.block_edits.BlockFault.{BlockFault}

abbrev judged : Result CueSheet (ℕ × CueWhy) → Result CueSheet BlockFault
judged r = elim r [ Err p ↦ Err (cue_line p) | Ok s ↦ Ok s ]

said : (a : CueAudio) (text : List ℕ) (s : CueSheet) → sheet_in a text ≡ Ok s → sheet_for (Some a) text ≡ Ok s
said a text s is = ap judged is

pub come_back : CueComesBack → CueSheetsComeBack
come_back law list a s tracks name audio keeps =
    ap (λ (o : Option CueAudio). sheet_for o (cue_text name s)) audio ∙ said a (cue_text name s) s (law a name s tracks keeps)
