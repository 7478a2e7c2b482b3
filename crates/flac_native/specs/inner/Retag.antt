-- For proofs of retagging: which blocks are kept, and the head that is written.
use Rattle.std.specs.Prelude.{◌≡◌, ◌≢◌, Bool, true, false, List, [], ◌∷◌, ◌++◌, length, Option, Some, None, ◌<◌, Result, OnOk, IfSome}
use Rattle.flac_bits.specs.Bits.{unsigned, bits_of}
use Rattle.flac_bits.specs.State.{Cursor, State, started}
use Rattle.flac_bits.specs.Fencing.{lifted}
use Rattle.flac_bits.specs.Items.{item, refused}
use Rattle.flac_bits.specs.Reading.{ReadsGivenMemory}
use Rattle.flac_bits.specs.Written.{Written, Fails}
use Rattle.flac_bits.specs.inner.Handing.{IsCalm}
use Rattle.flac_bits.specs.inner.Items.{step_at}
use Rattle.flac_bits.specs.declared.target.Target as target
use Rattle.flac_bits.specs.declared.why.Why.{Why}
use Rattle.flac_bits.specs.declared.why.Why.TheVariants.{Memory}
use Rattle.flac_info.specs.Info.{Info}
use Rattle.flac_meta.specs.Listed.{block_fault}
use Rattle.flac_meta.specs.declared.comments.Comments.{Comments}
use Rattle.flac_meta.specs.declared.block.Block.{Block}
use Rattle.flac_meta.specs.declared.block.Block.TheVariants as blocks
use Rattle.flac_native.specs.Stream.{Piece, Stand, Progress, marked, block, framed, grammar, layout, next, stand_after}
use Rattle.flac_native.specs.Track.{position_of}
use Rattle.flac_native.specs.declared.fault.Fault.{Fault}
use Rattle.flac_native.specs.declared.fault.Place.{Place}
use Rattle.flac_native.specs.declared.retagging.RetagFault.{RetagFault}
use Rattle.flac_native.specs.declared.position.Position.{Position}
use Rattle.flac_native.specs.inner.InOrder.{MayBeWritten}
use Rattle.flac_native.specs.Writing.{blocks_spelling}
use Rattle.flac_native.specs.Retag.{unless_comment, without_comments, BeginsWith, is_before_frames, IsRefusedAt, RefusalIsDue, SendsRetagged, SendsPrefix, SendsHeadAndPart, IsPlaceAt}

-- a stand at another position
abbrev pub stand_at : Position → Stand → Stand
stand_at q s = record s { phase = q.phase; index = q.index; seen = q.seen }

-- the marker, or a block with whether it is marked as the last
abbrev pub piece_in : Option (Bool × Block) → Piece
piece_in None = marked
piece_in (Some b) = block b.0 b.1

-- a block as a list of one; unless all are kept, a comment as the empty list
abbrev pub kept_one : (all : Bool) → Block → List Block
kept_one true b = b ∷ []
kept_one false b = unless_comment b

-- which blocks are kept
abbrev pub kept_of : (all : Bool) → List Block → List Block
kept_of true bs = bs
kept_of false bs = without_comments bs

-- the blocks that are kept, with those of one more part, which is no frame
abbrev pub keeps : (all : Bool) → List Block → Piece → List Block → Type 0
keeps all old marked new = new ≡ old
keeps all old (block last b) new = new ≡ old ++ kept_one all b
keeps all old (framed f) new = ⊥

-- what is kept if bits begin with a marker and blocks
pub record AreKept (all : Bool) (c : Cursor) (kept : List Block) (rest : List Bool) : Type 0 where
  pub info : Info
  pub list : List Block
  pub input : BeginsWith c.mark c.left info list rest
  pub are : kept ≡ blocks.StreamInfo info ∷ kept_of all list

-- what comes before the frames with these comments, if the first of these blocks is STREAMINFO
abbrev pub new_head : Comments → List Block → List Bool
new_head comments [] = []
new_head comments (b ∷ bs) = unsigned 32 0x664C6143 ++ blocks_spelling (b ∷ blocks.VorbisComment comments ∷ bs)

-- the blocks of such a head may be written
pub record MayBeHead (comments : Comments) (kept : List Block) : Type 0 where
  pub note : block_fault (blocks.VorbisComment comments) ≡ None
  pub some : 0 < length kept
  pub each : MayBeWritten kept

-- ---- one part

-- the marker or the next block was read, whatever the stand is at this position
abbrev pub ReadsNext : Position → State → State → Result (Option (Bool × Block)) Why → Type 0
ReadsNext at old new result = (s : Stand) → ReadsGivenMemory piece_in (layout (stand_at at s)) (started (lifted old)) new result

-- it leads from one position to the next
abbrev pub MovesOn : Position → Option (Bool × Block) → Position → Type 0
MovesOn at part to = (s : Stand) → position_of (stand_after (stand_at at s) (piece_in part)) ≡ to

-- the next part leads from one position to the next, and its block is kept
abbrev pub KeepsNext : (all : Bool) → (at to : Position) → (old new : State) → (before after : List Block) → Type 0
KeepsNext all at to old new before after =
    (p : Progress) → position_of p.stand ≡ at → (x : Piece) × (position_of (next p x).stand ≡ to) × keeps all before x after
    × (old.known ≡ true → step_at grammar p (lifted old).cursor ≡ item x new.cursor)

-- so it is if the call succeeded
abbrev pub KeepsOne : {X E : Type 0} → (all : Bool) → (at to : Position) → (old new : State) → (before after : List Block) → Result X E → Type 0
KeepsOne all at to old new before after result = OnOk result (KeepsNext all at to old new before after)

-- the next part is refused
abbrev pub RefusesNext : Position → State → State → Fault → Type 0
RefusesNext at old new f =
    (p : Progress) → position_of p.stand ≡ at → old.known ≡ true → new.errors ≡ old.errors → f.why ≢ Memory → step_at grammar p (lifted old).cursor ≡ refused f.at f.why

-- ---- a whole reader, `old` before the call and `new` after it

-- if its bytes are known, these blocks are kept of it, after which the others are left
abbrev pub AreKeptFrom : (all : Bool) → State → List Block → State → Type 0
AreKeptFrom all old kept new = old.known ≡ true → AreKept all (lifted old).cursor kept new.cursor.left

-- if the bytes are known, the place of a fault, if it has one, is that of an item
abbrev pub IsPlaceFrom : State → RetagFault → Type 0
IsPlaceFrom old f = IfSome f.at (λ at. old.known ≡ true → IsPlaceAt (lifted old).cursor at)

-- a refusal is due if the source returned no error, foretold or not
abbrev pub CalmRefusalIsDue : State → State → Place → Why → Type 0
CalmRefusalIsDue old new at why = old.known ≡ true → IsCalm old new → why ≢ Memory → IsRefusedAt (lifted old).cursor at why

-- before the frames it is due even if it returned one that was foretold
abbrev pub RefusalIsDueEarly : State → State → Place → Why → Type 0
RefusalIsDueEarly old new at why = is_before_frames at ≡ true → RefusalIsDue old new at why

-- ---- what is sent from a reader to a target, `old` before the call and `new` after it, if the bytes of both are known

-- the bits that the reader has left: all of them
abbrev pub CopiesAll : {T : Type 0} → target.Ghosts T → State → T → T → Type 0
CopiesAll h from old new = from.known ≡ true → h.known old ≡ true → bits_of (h.sent new) ≡ bits_of (h.sent old) ++ from.cursor.left

-- a prefix of them
abbrev pub CopiesPrefix : {T : Type 0} → target.Ghosts T → State → T → T → Type 0
CopiesPrefix h from old new =
    from.known ≡ true → h.known old ≡ true → (front : List Bool) × (left : List Bool) × (bits_of (h.sent new) ≡ bits_of (h.sent old) ++ front) × (front ++ left ≡ from.cursor.left)

-- all bits to come, with these comments
abbrev pub SendsRetaggedFrom : {T : Type 0} → target.Ghosts T → State → Comments → T → T → Type 0
SendsRetaggedFrom h from comments old new = from.known ≡ true → h.known old ≡ true → SendsRetagged h (lifted from).cursor comments old new

-- a prefix
abbrev pub SendsPrefixFrom : {T : Type 0} → target.Ghosts T → State → Comments → T → T → Type 0
SendsPrefixFrom h from comments old new = from.known ≡ true → h.known old ≡ true → SendsPrefix h (lifted from).cursor comments old new

-- the new blocks, and a prefix of the rest
abbrev pub SendsHeadAndPartFrom : {T : Type 0} → target.Ghosts T → State → Comments → T → T → Type 0
SendsHeadAndPartFrom h from comments old new = from.known ≡ true → h.known old ≡ true → SendsHeadAndPart h (lifted from).cursor comments old new

-- the target failed in the head with these comments, if its blocks may be written
abbrev pub FailsInHead : Comments → List Block → Written → Written → Why → Type 0
FailsInHead comments kept old new e = MayBeHead comments kept → Fails (old.bits ++ new_head comments kept) old new e
