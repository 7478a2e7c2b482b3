-- What a stream begins with: STREAMINFO and comments.
use Rattle.std.specs.Prelude.{◌≡◌, ◌⊎◌, ℕ, Bool, true, false, List, [], ◌∷◌, take, length, slice_index_or, Option, Some, None}
use Rattle.flac_bits.specs.declared.why.Why.{Why}
use Rattle.flac_bits.specs.declared.why.Why.TheVariants.{NotStreamInfoFirst}
use Rattle.flac_info.specs.Info.{Info}
use Rattle.flac_meta.specs.declared.block.Block.{Block}
use Rattle.flac_meta.specs.declared.block.Block.TheVariants.{VorbisComment}
use Rattle.flac_meta.specs.declared.comments.Comments.{Comments}
use Rattle.flac_header.specs.declared.subset.Profile.TheVariants.{Subset}
use Rattle.flac_native.specs.Stream.{Piece, marked, block, framed, info_after}
use Rattle.flac_native.specs.declared.fault.Place.{Place}
use Rattle.flac_native.specs.declared.fault.Place.TheVariants as place
use Rattle.flac_ogg.specs.Verifying.{bytes_reading, Verifies}
use Rattle.flac_c.specs.Answers.{IsCopied}
use Rattle.flac_c.specs.declared.info.FlacProvedInfo.{FlacProvedInfo}

-- the comments after a block (RFC 9639, section 8.6)
abbrev pub comments_after : Option Comments → Block → Option Comments
comments_after comments (VorbisComment c) = Some c
comments_after comments other = comments

-- STREAMINFO and the comments of these items, or else those that were there
abbrev pub info_from : Option Info → List Piece → Option Info
info_from info [] = info
info_from info (marked ∷ xs) = info_from info xs
info_from info (block last b ∷ xs) = info_from (info_after info b) xs
info_from info (framed f ∷ xs) = info_from info xs

abbrev pub comments_from : Option Comments → List Piece → Option Comments
comments_from comments [] = comments
comments_from comments (marked ∷ xs) = comments_from comments xs
comments_from comments (block last b ∷ xs) = comments_from (comments_after comments b) xs
comments_from comments (framed f ∷ xs) = comments_from comments xs

-- whether a frame is among items, or else was before; no metadata block comes after one
abbrev pub frames_from : Bool → List Piece → Bool
frames_from over [] = over
frames_from over (marked ∷ xs) = frames_from over xs
frames_from over (block last b ∷ xs) = frames_from over xs
frames_from over (framed f ∷ xs) = frames_from true xs

-- bytes that begin with items of this STREAMINFO and these comments, of which one is a frame or none is
abbrev pub BeginsBy : List ℕ → Bool → Option Info → Option Comments → Type 0
BeginsBy bytes over info comments = (items : List Piece) × (bytes_reading Subset bytes).begins items × (over ≡ frames_from false items) × (info ≡ info_from None items) × (comments ≡ comments_from None items)

-- bytes that are items of this STREAMINFO and these comments, or are refused right after these
abbrev pub EndsBy : List ℕ → Option Info → Option Comments → Type 0
EndsBy bytes info comments =
    (items : List Piece) × ((bytes_reading Subset bytes).whole items ⊎ ((at : Place) × (why : Why) × (bytes_reading Subset bytes).refused items at why)) × (info ≡ info_from None items) × (comments ≡ comments_from None items)

-- All blocks before the first frame have this STREAMINFO and these comments; or, if no frame comes, all blocks of the
-- stream.
abbrev pub Begins : List ℕ → Option Info → Option Comments → Type 0
Begins bytes info comments = ((n : ℕ) × BeginsBy (take n bytes) true info comments) ⊎ EndsBy bytes info comments

-- the bytes are refused in this way, or they are a stream without STREAMINFO, which none is
abbrev pub Lacks : List ℕ → Option (Place × Why) → Type 0
Lacks bytes outcome = Verifies Subset bytes outcome ⊎ ((outcome ≡ Some (place.Marker, NotStreamInfoFirst)) × ((items : List Piece) × (bytes_reading Subset bytes).whole items × (info_from None items ≡ None)))

-- a stream begins with STREAMINFO and comments of which this holds
abbrev pub BeginsSo : List ℕ → (Info → Option Comments → Type 0) → Type 0
BeginsSo bytes holds = (info : Info) × (comments : Option Comments) × Begins bytes (Some info) comments × holds info comments

-- this of the comments is written to the front of a buffer, as far as there is room
abbrev pub WritesText : List ℕ → (Option Comments → List ℕ) → (out new : List ℕ) → (len : ℕ) → Type 0
WritesText bytes of out new len = BeginsSo bytes (λ _ comments. IsCopied (of comments) out new len)

-- how many comments there are
abbrev pub count_of : Option Comments → ℕ
count_of None = 0
count_of (Some c) = length c.list

-- a comment, empty if there is none of this index
abbrev pub comment_of : Option Comments → ℕ → List ℕ
comment_of None index = []
comment_of (Some c) index = slice_index_or c.list index []

-- the name of the program that wrote the stream, empty if there are no comments
abbrev pub vendor_of : Option Comments → List ℕ
vendor_of None = []
vendor_of (Some c) = c.vendor

-- STREAMINFO as C sees it
abbrev pub info_in_c : Info → Option Comments → FlacProvedInfo
info_in_c i comments = record {
  total = i.total;
  comments = count_of comments;
  rate = i.rate;
  channels = i.channels;
  bits = i.depth;
  least_block = i.least_block;
  greatest_block = i.greatest_block;
  least_frame = i.least_frame;
  greatest_frame = i.greatest_frame;
  digest = i.digest;
}
