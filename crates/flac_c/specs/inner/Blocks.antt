-- For proofs of reading metadata: blocks that are read one after another.
use Rattle.std.specs.Prelude.{◌≡◌, ◌≢◌, ℕ, Bool, true, List, ◌++◌, Option, None}
use Rattle.flac_bits.specs.State.{State, past, fresh}
use Rattle.flac_bits.specs.Fence.{StopsIn}
use Rattle.flac_bits.specs.Meaning.{Spells}
use Rattle.flac_bits.specs.Items.{Joined, Refused, state_after, mark_after}
use Rattle.flac_bits.specs.declared.why.Why.{Why}
use Rattle.flac_bits.specs.declared.why.Why.TheVariants.{Memory}
use Rattle.flac_meta.specs.Block.{block as block_layout, seen_after}
use Rattle.flac_meta.specs.declared.block.Seen.{Seen}
use Rattle.flac_meta.specs.declared.block.Block.{Block}
use Rattle.flac_meta.specs.declared.comments.Comments.{Comments}
use Rattle.flac_meta.specs.declared.seek_table.SeekPoint.{SeekPoint}
use Rattle.flac_header.specs.declared.subset.Profile.{Profile}
use Rattle.flac_native.specs.Stream.{Piece, grammar, opening, info_after}
use Rattle.flac_native.specs.declared.fault.Fault.{Fault}
use Rattle.flac_native.specs.declared.track.Phase.TheVariants.{Blocks, Frames}
use Rattle.flac_c.specs.Heads.{comments_from, comments_after, count_of}
use Rattle.flac_c.specs.Starts.{are_metadata, point_after, point_from, IsHead, BeginsByHead, first_frame}
use Rattle.flac_c.specs.declared.cursor.FlacProvedCursor.{FlacProvedCursor}
use Rattle.flac_c.specs.declared.metadata.Metadata.{Metadata}

-- STREAMINFO, the number of comments and the seek point of a block are kept
pub record Noted (old : Metadata) (b : Block) (new : Metadata) : Type 0 where
  pub info : new.info ≡ info_after old.info b
  pub comments : (c : Option Comments) → old.comments ≡ count_of c → new.comments ≡ count_of (comments_after c b)
  pub sample : new.sample ≡ old.sample
  pub point : new.point ≡ point_after old.sample old.point b

-- STREAMINFO, the number of comments and the seek point of all these parts are kept
pub record IsFound (profile : Profile) (sample : ℕ) (parts : List Piece) (found : Metadata) : Type 0 where
  pub info : found.info ≡ (state_after grammar (opening profile) parts).stand.info
  pub comments : found.comments ≡ count_of (comments_from None parts)
  pub sought : found.sample ≡ sample
  pub point : found.point ≡ point_from sample None parts

abbrev pub FoundOf : Profile → (sample : ℕ) → Metadata → List Piece → Type 0
FoundOf profile sample found parts = IsFound profile sample parts found

-- If the source returned no error in the call, and memory did not run out, this holds.
abbrev pub IfServed : (old new : State) → Why → Type 0 → Type 0
IfServed old new why holds = new.errors ≡ old.errors → why ≢ Memory → holds

-- the next block is refused for this reason
abbrev pub NoBlock : Seen → (old new : State) → Why → Type 0
NoBlock seen old new why = IfServed old new why (StopsIn None (block_layout seen) (fresh old.cursor.mark) old.cursor.left why)

-- one block more was read, and this was kept of it
pub record BlockRead (seen left : Seen) (old new : State) (Kept : Block → Type 0) (last : Bool) : Type 0 where
  pub is : Block
  pub text : List Bool
  pub stands : old.cursor.left ≡ text ++ new.cursor.left
  pub spelled : Spells (block_layout seen) (fresh old.cursor.mark) text (last, is)
  pub mark : new.cursor.mark ≡ past text (fresh old.cursor.mark)
  pub seen_is : left ≡ seen_after seen is
  pub kept : Kept is
  pub known : new.known ≡ true
  pub errors : new.errors ≡ old.errors

-- these parts were read from the start on, and this is known of them
pub record PartsRead (profile : Profile) (start now : State) (Told : List Piece → Type 0) : Type 0 where
  pub parts : List Piece
  pub metadata : are_metadata parts ≡ true
  pub text : List Bool
  pub stands : start.cursor.left ≡ text ++ now.cursor.left
  pub spelled : Joined grammar (opening profile) start.cursor.mark parts text
  pub mark : now.cursor.mark ≡ mark_after grammar (opening profile) start.cursor.mark parts text spelled
  pub tells : Told parts
  pub known : now.known ≡ true
  pub errors : now.errors ≡ start.errors

-- and a block comes next
pub record BlocksCome (profile : Profile) (start now : State) (Told : List Piece → Type 0) (seen : Seen) (index : ℕ) : Type 0 where
  pub read : PartsRead profile start now Told
  pub phase : (state_after grammar (opening profile) read.parts).stand.phase ≡ Blocks
  pub seen_is : (state_after grammar (opening profile) read.parts).stand.seen ≡ seen
  pub index_is : (state_after grammar (opening profile) read.parts).stand.index ≡ index

-- and all blocks are read
pub record HeadRead (profile : Profile) (start now : State) (Told : List Piece → Type 0) : Type 0 where
  pub read : PartsRead profile start now Told
  pub phase : (state_after grammar (opening profile) read.parts).stand.phase ≡ Frames

-- the same in each profile, and what a cursor needs of the blocks is kept
abbrev pub PartsFound : (start now : State) → (sample : ℕ) → Metadata → Type 0
PartsFound start now sample found = (profile : Profile) → HeadRead profile start now (FoundOf profile sample found)

-- what comes from the start on is refused at this place
abbrev pub IsRefusedAt : Profile → State → Fault → Type 0
IsRefusedAt profile start f = (parts : List Piece) × Refused grammar (opening profile) start.cursor.mark parts start.cursor.left f.at f.why

-- the same, if the source returned no error and memory did not run out
abbrev pub IsRefusedIn : Profile → (start now : State) → Fault → Type 0
IsRefusedIn profile start now f = now.errors ≡ start.errors → f.why ≢ Memory → IsRefusedAt profile start f

-- ---- a cursor

-- the marker and all blocks are the first n bytes, and what a cursor needs of them is kept
abbrev pub FrontRead : Profile → List ℕ → (n sample : ℕ) → Metadata → Type 0
FrontRead profile bytes n sample found = (parts : List Piece) × IsHead profile bytes n parts × IsFound profile sample parts found

-- a cursor is at the first frame, and this is the point before the sample that is sought
abbrev pub IsStart : Profile → List ℕ → (sample : ℕ) → FlacProvedCursor → Option SeekPoint → Type 0
IsStart profile bytes sample c point = BeginsByHead profile bytes (λ parts n i. (c ≡ first_frame i (comments_from None parts) n) × (point ≡ point_from sample None parts))
