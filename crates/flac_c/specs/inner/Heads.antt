-- For proofs of the sink that keeps what a stream begins with: what an item leaves in it.
use Rattle.std.specs.Prelude.{◌≡◌, ℕ, Bool, true, List, Option, Some, None}
use Rattle.flac_info.specs.Info.{Info}
use Rattle.flac_meta.specs.declared.comments.Comments.{Comments}
use Rattle.flac_header.specs.declared.subset.Profile.TheVariants.{Subset}
use Rattle.flac_native.specs.Item.{Item, metadata, frame, fault_pair}
use Rattle.flac_native.specs.Stream.{Piece, info_after}
use Rattle.flac_native.specs.declared.fault.Fault.{Fault}
use Rattle.flac_ogg.specs.Verifying.{Verifies, bytes_reading}
use Rattle.flac_c.specs.Heads.{comments_after, info_from, EndsBy}
use Rattle.flac_c.specs.declared.head.Head.{Head}

-- and after one item
abbrev pub info_after_item : Option Info → Item → Option Info
info_after_item info (metadata b) = info_after info b
info_after_item info (frame f) = info

abbrev pub comments_after_item : Option Comments → Item → Option Comments
comments_after_item comments (metadata b) = comments_after comments b
comments_after_item comments (frame f) = comments

abbrev pub frames_after_item : Bool → Item → Bool
frames_after_item over (metadata b) = over
frames_after_item over (frame f) = true

-- ---- what is known of a stream after it was read

-- the bytes are a stream with the STREAMINFO and the comments that are kept, or are refused right after these
abbrev pub EndsIn : List ℕ → Head → Type 0
EndsIn bytes head = EndsBy bytes head.info head.comments

-- they are refused at this place, for this reason
abbrev pub IsRefusedFor : List ℕ → Fault → Type 0
IsRefusedFor bytes f = Verifies Subset bytes (Some (fault_pair f))

-- they are a whole stream with the STREAMINFO that is kept
abbrev pub HasInfo : List ℕ → Head → Type 0
HasInfo bytes head = (items : List Piece) × (bytes_reading Subset bytes).whole items × (head.info ≡ info_from None items)
