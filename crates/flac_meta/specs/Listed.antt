-- Which blocks may be written, and which may follow STREAMINFO in one list (RFC 9639, section 8.1).
use Rattle.std.specs.Prelude.{Bool, true, false, not, ◌||◌, cond, List, [], ◌∷◌, length, nat_eq, nat_lt, Option, Some, None}
use Rattle.flac_bits.specs.Layout.{first_broken}
use Rattle.flac_bits.specs.declared.why.Why.{Why}
use Rattle.flac_bits.specs.declared.why.Why.TheVariants as why
use Rattle.flac_meta.specs.SeekTable.{in_order}
use Rattle.flac_meta.specs.Spelling.{length_of}
use Rattle.flac_meta.specs.Block.{seen_after}
use Rattle.flac_meta.specs.declared.block.Seen.{Seen}
use Rattle.flac_meta.specs.declared.comments.Comments.{Comments}
use Rattle.flac_meta.specs.declared.cue_sheet.CueTrack.{CueTrack}
use Rattle.flac_meta.specs.declared.cue_sheet.CueSheet.{CueSheet}
use Rattle.flac_meta.specs.declared.block.Block.{Block}
use Rattle.flac_meta.specs.declared.block.Block.TheVariants as block_of

-- a reserved kind has a number from 7 to 126
abbrev pub is_forbidden : Block → Bool
is_forbidden (block_of.Other kind bytes) = nat_lt kind 7 || nat_lt 126 kind
is_forbidden b = false

abbrev pub is_out_of_order : Block → Bool
is_out_of_order (block_of.SeekTable points) = not (in_order None points)
is_out_of_order b = false

-- some track has more index points than one byte can count
abbrev pub overflows : List CueTrack → Bool
overflows [] = false
overflows (track ∷ tracks) = nat_lt 255 (length track.indices) || overflows tracks

-- no track, or more tracks or index points than one byte can count
abbrev pub is_bad_sheet : CueSheet → Bool
is_bad_sheet sheet = nat_eq (length sheet.tracks) 0 || nat_lt 255 (length sheet.tracks) || overflows sheet.tracks

abbrev pub has_bad_sheet : Block → Bool
has_bad_sheet (block_of.CueSheet sheet) = is_bad_sheet sheet
has_bad_sheet b = false

-- why a block may not be written, if it may not
abbrev pub block_fault : Block → Option Why
block_fault b = first_broken (
    record { broken = is_forbidden b; why = why.ForbiddenType } ∷
    record { broken = nat_lt 16777215 (length_of b); why = why.BlockLength } ∷
    record { broken = is_out_of_order b; why = why.SeekOrder } ∷
    record { broken = has_bad_sheet b; why = why.CueSheet } ∷ [])

-- a kind that occurs once at most and came
abbrev pub came : Seen → Block → Bool
came seen (block_of.StreamInfo info) = seen.stream_info
came seen (block_of.SeekTable points) = seen.seek_table
came seen (block_of.VorbisComment found) = seen.comments
came seen b = false

-- why it may not follow these blocks
abbrev pub fault_after : Seen → Block → Option Why
fault_after seen b = cond (came seen b) (Some why.RepeatedBlock) (block_fault b)

abbrev pub or_else : Option Why → Option Why → Option Why
or_else None rest = rest
or_else (Some w) rest = Some w

-- why the block of these comments may not be written
abbrev pub comments_fault : Comments → Option Why
comments_fault c = block_fault (block_of.VorbisComment c)

-- comments alone
abbrev pub only_comments : Comments → List Block
only_comments c = block_of.VorbisComment c ∷ []

-- the fault of the first block that has one
abbrev pub list_fault : Seen → List Block → Option Why
list_fault seen [] = None
list_fault seen (b ∷ bs) = or_else (fault_after seen b) (list_fault (seen_after seen b) bs)

-- STREAMINFO came and nothing else
abbrev pub info_seen : Seen
info_seen = record { stream_info = true; seek_table = false; comments = false }
