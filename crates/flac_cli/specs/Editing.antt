-- What the words of `flac edit` and `flac export` ask for.
use Rattle.std.specs.Prelude.{ℕ, List, [], codes, Option, Some, None, option_map, unwrap_or}
use Rattle.flac_bits.specs.declared.source.Source as source
use Rattle.flac_bits.specs.declared.target.Target as target
use Rattle.flac_cue.specs.declared.fault.CueWhy.{CueWhy}
use Rattle.flac_cue.specs.declared.fault.CueWhy.TheVariants as why
use Rattle.flac_meta.specs.declared.picture.Picture.{Picture}
use Rattle.flac_native.specs.declared.fault.Place.TheVariants as place
use Rattle.flac_image.specs.Images.{image_of, media_of}
use Rattle.flac_image.specs.declared.image.Image.{Image}
use Rattle.flac_jobs.specs.declared.editings.BlockName.{BlockName}
use Rattle.flac_jobs.specs.declared.editings.BlockName.TheVariants as name
use Rattle.flac_jobs.specs.declared.editings.PictureForm.{PictureForm}
use Rattle.flac_jobs.specs.declared.editings.PictureWord.{PictureWord}
use Rattle.flac_jobs.specs.declared.exportings.ExportPart.{ExportPart}
use Rattle.flac_jobs.specs.declared.exportings.ExportPart.TheVariants as export
use Rattle.flac_jobs.specs.declared.exportings.Exporting.{Exporting}
use Rattle.flac_edit.specs.Parts.{SendsPart}
use Rattle.flac_edit.specs.declared.exporting_parts.Part.{Part}
use Rattle.flac_edit.specs.declared.exporting_parts.Part.TheVariants as part
use Rattle.flac_edit.specs.declared.block_edits.Removal.{Removal}
use Rattle.flac_edit.specs.declared.block_edits.Removal.TheVariants as removal
use Rattle.flac_edit.specs.declared.block_edits.BlockFault.{BlockFault}
use Rattle.flac_edit.specs.declared.block_edits.BlockFault.TheVariants as fault
use Rattle.flac_cli.specs.Lined.{text_at}
use Rattle.flac_cli.specs.Reports.{fault_line}
use Rattle.flac_cli.specs.declared.edit.EditPaths.{EditPaths}
use Rattle.flac_cli.specs.declared.lines.At.{At}
use Rattle.flac_cli.specs.declared.lines.At.TheVariants as at

-- a number, a type or an application means the same blocks
abbrev pub removal_of : BlockName → Removal
removal_of (name.Number n) = removal.Number n
removal_of (name.Kind kind) = removal.Kind kind
removal_of (name.Application id) = removal.Application id

-- so does the name of a part; a cue sheet is of the file at the input's path
abbrev pub part_of : Exporting → ExportPart → Part
part_of x export.Tags = part.Tags
part_of x export.Picture = part.Picture
part_of x export.CueSheet = part.CueSheet x.input
part_of x (export.Block n) = part.Block n

-- if the bytes of the source and of the target are known, the part of this name was written
abbrev pub ExportsPart : {S T : Type 0} (g : source.Ghosts S) (h : target.Ghosts T) → Exporting → ExportPart → (from : S) (old new : T) → Type 0
ExportsPart g h x name from old new = SendsPart g h from (part_of x name) old new

-- ---- pictures

-- the media type and the sizes of a picture
pub record Form : Type 0 where
  pub media : List ℕ
  pub width : ℕ
  pub height : ℕ
  pub depth : ℕ
  pub colours : ℕ

-- as a word states them
abbrev pub form_given : PictureForm → Form
form_given f = record { media = f.media.now; width = f.width; height = f.height; depth = f.depth; colours = f.colours }

-- as the header of a picture states them
abbrev pub form_found : Image → Form
form_found i = record { media = media_of i.kind; width = i.width; height = i.height; depth = i.depth; colours = i.colours }

-- those of the word, else those of the header, if it is that of a PNG or JPEG picture
abbrev pub form_of : PictureWord → (bytes : List ℕ) → Option Form
form_of word bytes = elim word.form [ None ↦ option_map form_found (image_of bytes) | Some f ↦ Some (form_given f) ]

-- the picture of a type that has this form and this data, without a description (RFC 9639, section 8.8)
abbrev pub picture_with : (kind : ℕ) → (bytes : List ℕ) → Form → Picture
picture_with kind bytes f = record { kind = kind; media = f.media; text = []; width = f.width; height = f.height; depth = f.depth; colours = f.colours; bytes = bytes }

abbrev pub picture_of : PictureWord → (bytes : List ℕ) → Option Picture
picture_of word bytes = option_map (picture_with word.kind bytes) (form_of word bytes)

-- ---- the lines of edits that do not fit the blocks, and of parts that are not there

-- the place: the block that is not there, or the line of the cue sheet
abbrev pub edit_place : BlockFault → At
edit_place (fault.NoBlock n) = at.Place (place.Block n)
edit_place fault.NoPicture = at.Whole
edit_place fault.NoCueSheet = at.Whole
edit_place fault.NoTotal = at.Whole
edit_place (fault.CueLine n e) = at.Line n
edit_place (fault.SecondPicture kind) = at.Whole

-- the number and the name of a rule of cue sheets (RFC 9639, section 8.7)
abbrev pub cue_name : CueWhy → List ℕ
cue_name why.Catalogue = codes "80 CueCatalogue"
cue_name why.Track = codes "81 CueTrack"
cue_name why.NoIndex = codes "82 CueNoIndex"
cue_name why.Flags = codes "83 CueFlags"
cue_name why.Isrc = codes "84 CueIsrc"
cue_name why.Index = codes "85 CueIndex"
cue_name why.Offset = codes "86 CueOffset"
cue_name why.LeadIn = codes "87 CueLeadIn"
cue_name why.LeadOut = codes "88 CueLeadOut"
cue_name why.NoTrack = codes "89 CueNoTrack"

-- the number and the name
abbrev pub edit_name : BlockFault → List ℕ
edit_name (fault.NoBlock n) = codes "57 NoBlock"
edit_name fault.NoPicture = codes "59 NoPicture"
edit_name fault.NoCueSheet = codes "91 NoCueSheet"
edit_name fault.NoTotal = codes "90 NoTotal"
edit_name (fault.CueLine n e) = cue_name e
edit_name (fault.SecondPicture kind) = codes "58 SecondPicture"

-- the path: that of the cue sheet if one of its lines is wrong, else that of the stream
abbrev pub edit_path : EditPaths → BlockFault → List ℕ
edit_path p (fault.CueLine n e) = (unwrap_or p.sheet p.stream).now
edit_path p f = p.stream.now

-- the whole line
abbrev pub edit_line : EditPaths → BlockFault → List ℕ
edit_line p f = fault_line (edit_path p f) (text_at (edit_place f) (edit_name f))
