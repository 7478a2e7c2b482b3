-- What retagging makes of a stream: the same STREAMINFO, the given comments, the other blocks in their order, and the
-- rest of the input.
use Rattle.std.specs.Prelude.{◌≡◌, ◌≢◌, Bool, true, false, cond, List, [], ◌∷◌, ◌++◌, Some, None, ◌≤◌, ◌⊎◌, Result, IsErrAnd, IfErr, Err}
use Rattle.flac_bits.specs.Bits.{bits_of}
use Rattle.flac_bits.specs.State.{Mark, Cursor, State}
use Rattle.flac_bits.specs.Fencing.{lifted}
use Rattle.flac_bits.specs.Items.{state_after, Joined, Refused}
use Rattle.flac_bits.specs.declared.source.Source as source
use Rattle.flac_bits.specs.declared.target.Target as target
use Rattle.flac_bits.specs.declared.why.Why.{Why}
use Rattle.flac_bits.specs.declared.why.Why.TheVariants as why
use Rattle.flac_header.specs.declared.subset.Profile.{Profile}
use Rattle.flac_header.specs.declared.subset.Profile.TheVariants.{Subset}
use Rattle.flac_info.specs.Info.{Info}
use Rattle.flac_meta.specs.Spelling.{comments_length}
use Rattle.flac_meta.specs.Valid.{IsComments}
use Rattle.flac_meta.specs.declared.comments.Comments.{Comments}
use Rattle.flac_meta.specs.declared.block.Block.{Block}
use Rattle.flac_meta.specs.declared.block.Block.TheVariants as blocks
use Rattle.flac_native.specs.Decoding.{start_mark, source_start, IfCalm}
use Rattle.flac_native.specs.Stream.{Piece, marked, grammar, opening}
use Rattle.flac_native.specs.Given.{closing}
use Rattle.flac_native.specs.Writing.{head_spelling}
use Rattle.flac_native.specs.declared.fault.Place.{Place}
use Rattle.flac_native.specs.declared.fault.Place.TheVariants as place
use Rattle.flac_native.specs.declared.retagging.RetagFault.{RetagFault}

-- ---- blocks

abbrev pub is_comment : Block → Bool
is_comment (blocks.VorbisComment found) = true
is_comment b = false

-- a block as a list of one, and a comment as the empty list
abbrev pub unless_comment : Block → List Block
unless_comment b = cond (is_comment b) [] (b ∷ [])

-- all blocks but the comments, in their order
abbrev pub without_comments : List Block → List Block
without_comments [] = []
without_comments (b ∷ bs) = unless_comment b ++ without_comments bs

-- ---- the input

-- The bits begin with the marker and these blocks, STREAMINFO and a list, of which the last is marked, each spelled
-- (RFC 9639, sections 6 and 8). The rest is not read.
pub record Begins (profile : Profile) (m : Mark) (text : List Bool) (info : Info) (list : List Block) (rest : List Bool) : Type 0 where
  pub head : List Bool
  pub stands : text ≡ head ++ rest
  pub spelled : Joined grammar (opening profile) m (marked ∷ closing (blocks.StreamInfo info ∷ list)) head

-- retagging reads no frame, so it needs no wider profile
abbrev pub BeginsWith : Mark → List Bool → Info → List Block → List Bool → Type 0
BeginsWith m text info list rest = Begins Subset m text info list rest

-- The bits of a cursor begin with the marker and these blocks, STREAMINFO the first, and go on with the rest.
pub record AreRead (c : Cursor) (list : List Block) (rest : List Bool) : Type 0 where
  pub info : Info
  pub others : List Block
  pub begins : BeginsWith c.mark c.left info others rest
  pub are : list ≡ blocks.StreamInfo info ∷ others

-- the marker or a block
abbrev pub is_before_frames : Place → Bool
is_before_frames place.Marker = true
is_before_frames (place.Block index) = true
is_before_frames other = false

-- After valid items, the marker or a block is refused, as decoding refuses it.
pub record IsRefused (m : Mark) (text : List Bool) (at : Place) (why : Why) : Type 0 where
  pub items : List Piece
  pub refused : Refused grammar (opening Subset) m items text at why
  pub place : is_before_frames at ≡ true

-- The bits begin with these items, and the place is that of the item after them: the marker, a block, or the first
-- frame.
pub record BreaksAt (m : Mark) (text : List Bool) (at : Place) : Type 0 where
  pub items : List Piece
  pub front : List Bool
  pub left : List Bool
  pub stands : text ≡ front ++ left
  pub spelled : Joined grammar (opening Subset) m items front
  pub place : at ≡ grammar.place (state_after grammar (opening Subset) items)

-- The bits begin with a head.
pub record HasHead (m : Mark) (text : List Bool) : Type 0 where
  pub info : Info
  pub list : List Block
  pub rest : List Bool
  pub begins : BeginsWith m text info list rest

-- Bits have at most one head, with a head they are not refused before the frames, and they are refused there in at most
-- one way.
pub record OneHead (m : Mark) (text : List Bool) : Type 0 where
  pub heads : (i j : Info) (l k : List Block) (r t : List Bool) → BeginsWith m text i l r → BeginsWith m text j k t → (i ≡ j) × (l ≡ k) × (r ≡ t)
  pub either : (at : Place) (why : Why) → HasHead m text → IsRefused m text at why → ⊥
  pub refusals : (at to : Place) (v w : Why) → IsRefused m text at v → IsRefused m text to w → (at ≡ to) × (v ≡ w)

abbrev pub HeadsAreOne : Type 0
HeadsAreOne = (m : Mark) (text : List Bool) → OneHead m text

-- ---- the output

-- the marker, STREAMINFO, the given comments, the blocks that are no comments, of all of which the last is marked, and
-- the rest of the input
abbrev pub retagged : Comments → Info → List Block → (rest : List Bool) → List Bool
retagged comments info list rest = head_spelling info (blocks.VorbisComment comments ∷ without_comments list) ++ rest

-- The output begins with the blocks that it was given, and no bits of the rest are taken for one. So reading it gives
-- them back.
abbrev pub RetaggedAreRead : Type 0
RetaggedAreRead = (m k : Mark) (text : List Bool) (comments : Comments) (info : Info) (list : List Block) (rest : List Bool) → k.unread ≡ 0 → comments_length comments ≤ 16777215 → IsComments comments → BeginsWith m text info list rest
    → BeginsWith k (retagged comments info list rest) info (blocks.VorbisComment comments ∷ without_comments list) rest

-- After the bits that were there, the input was written with these comments.
pub record Retags (m : Mark) (text : List Bool) (comments : Comments) (before after : List Bool) : Type 0 where
  pub info : Info
  pub list : List Block
  pub rest : List Bool
  pub input : BeginsWith m text info list rest
  pub output : after ≡ before ++ retagged comments info list rest

-- After the bits that were there, a prefix of that was written.
pub record BeginsRetagging (m : Mark) (text : List Bool) (comments : Comments) (before after : List Bool) : Type 0 where
  pub front : List Bool
  pub left : List Bool
  pub written : after ≡ before ++ front
  pub retags : Retags m text comments before (before ++ (front ++ left))

-- After the bits that were there, the new blocks were written whole, and a prefix of the rest of the input.
pub record CopiesPart (m : Mark) (text : List Bool) (comments : Comments) (before after : List Bool) : Type 0 where
  pub info : Info
  pub list : List Block
  pub front : List Bool
  pub left : List Bool
  pub input : BeginsWith m text info list (front ++ left)
  pub output : after ≡ before ++ retagged comments info list front

-- ---- at a cursor

abbrev pub IsRefusedAt : Cursor → Place → Why → Type 0
IsRefusedAt c at why = IsRefused c.mark c.left at why

abbrev pub IsPlaceAt : Cursor → Place → Type 0
IsPlaceAt c at = BreaksAt c.mark c.left at

abbrev pub HasHeadAt : Cursor → Type 0
HasHeadAt c = HasHead c.mark c.left

-- the bits of a cursor, with these comments, were sent to a target: all of it
abbrev pub SendsRetagged : {S : Type 0} → target.Ghosts S → Cursor → Comments → S → S → Type 0
SendsRetagged g c comments old new = Retags c.mark c.left comments (bits_of (g.sent old)) (bits_of (g.sent new))

-- a prefix
abbrev pub SendsPrefix : {S : Type 0} → target.Ghosts S → Cursor → Comments → S → S → Type 0
SendsPrefix g c comments old new = BeginsRetagging c.mark c.left comments (bits_of (g.sent old)) (bits_of (g.sent new))

-- the new blocks, and a prefix of the rest
abbrev pub SendsHeadAndPart : {S : Type 0} → target.Ghosts S → Cursor → Comments → S → S → Type 0
SendsHeadAndPart g c comments old new = CopiesPart c.mark c.left comments (bits_of (g.sent old)) (bits_of (g.sent new))

-- ---- what is returned

-- comments whose block would be longer than its header can have; this is checked before anything is read
abbrev pub too_long : RetagFault
too_long = record { at = None; why = why.BlockLength }

-- the target returned an error
abbrev pub not_written : RetagFault
not_written = record { at = None; why = why.Write }

-- the source returned an error after the blocks
abbrev pub not_read : RetagFault
not_read = record { at = Some (place.Frame 0); why = why.Read }

-- memory ran out after the blocks
abbrev pub no_memory : RetagFault
no_memory = record { at = Some (place.Frame 0); why = why.Memory }

-- a device failed after the blocks
abbrev pub IsOfDevice : RetagFault → Type 0
IsOfDevice f = (f ≡ not_read) ⊎ (f ≡ not_written)

-- this holds if a device failed after the blocks
abbrev pub IfOfDevice : {X : Type 0} → Result X RetagFault → Type 0 → Type 0
IfOfDevice result Says = IfErr result (λ f. IsOfDevice f → Says)

-- this holds if the source failed after the blocks
abbrev pub IfUnread : {X : Type 0} → Result X RetagFault → Type 0 → Type 0
IfUnread result Says = IfErr result (λ f. f ≡ not_read → Says)

-- the comments are too long, and neither the source nor the target changed
abbrev pub IsTooLong : {S T X : Type 0} → (from to : S) → (old new : T) → Result X RetagFault → Type 0
IsTooLong from to old new result = (result ≡ Err too_long) × (to ≡ from) × (new ≡ old)

-- after the blocks only the source or an allocation fails
abbrev pub IsBeforeOrOutside : RetagFault → Place → Type 0
IsBeforeOrOutside f at = (is_before_frames at ≡ true) ⊎ ((f ≡ not_read) ⊎ (f ≡ no_memory))

-- ---- what calls of a reader return, `old` before the call and `new` after it

-- if its bytes are known, they begin with a marker and these blocks, after which the others are left
abbrev pub AreReadFrom : State → List Block → State → Type 0
AreReadFrom old list new = old.known ≡ true → AreRead (lifted old).cursor list new.cursor.left

-- The marker or a block is to be refused at this place for this reason, if the bytes are known, the source returned no
-- error that was not foretold, and memory did not run out.
abbrev pub RefusalIsDue : State → State → Place → Why → Type 0
RefusalIsDue old new at reason = old.known ≡ true → new.errors ≡ old.errors → reason ≢ why.Memory → IsRefusedAt (lifted old).cursor at reason

-- ---- what calls over a source return, `old` before the call and `new` after it

-- The same, and the source returned no error, foretold or not.
abbrev pub RefusalIsDueOf : {S : Type 0} → source.Ghosts S → S → S → Place → Why → Type 0
RefusalIsDueOf g old new at reason = IfCalm g old new (reason ≢ why.Memory → IsRefusedAt (source_start g old) at reason)

-- Before the frames it is due even if the source returned an error that was foretold.
abbrev pub EarlyRefusalIsDue : {S : Type 0} → source.Ghosts S → S → S → Place → Why → Type 0
EarlyRefusalIsDue g old new at reason = is_before_frames at ≡ true → g.known old ≡ true → g.errors new ≡ g.errors old → reason ≢ why.Memory → IsRefusedAt (source_start g old) at reason

-- What is to be refused is refused, at this place and for this reason, unless memory runs out.
abbrev pub RefusesWhatIsDue : {S X : Type 0} → source.Ghosts S → S → S → Result X RetagFault → Type 0
RefusesWhatIsDue g old new result =
    (at : Place) (reason : Why) → IsRefusedAt (source_start g old) at reason → IfCalm g old new (IsErrAnd result (λ f. f.why ≢ why.Memory → f ≡ record { at = Some at; why = reason }))

-- if the bytes are known, this is the place of the item after some with which they begin
abbrev pub IsPlaceIn : {S : Type 0} → source.Ghosts S → S → Place → Type 0
IsPlaceIn g old at = g.known old ≡ true → IsPlaceAt (source_start g old) at

-- A source that begins with a head, and that returned no error, is refused only because the target failed or memory ran
-- out.
abbrev pub OnlyTargetFails : {S : Type 0} → source.Ghosts S → S → S → RetagFault → Type 0
OnlyTargetFails g old new f = IfCalm g old new (f.why ≢ why.Memory → HasHeadAt (source_start g old) → f ≡ not_written)

-- ---- what is sent from a source to a target, `old` before the call and `new` after it, if the bytes of both are known

-- the bytes of the source, with these comments: all of it
abbrev pub SendsRetaggedOf : {S T : Type 0} → source.Ghosts S → target.Ghosts T → S → Comments → T → T → Type 0
SendsRetaggedOf g h from comments old new = g.known from ≡ true → h.known old ≡ true → SendsRetagged h (source_start g from) comments old new

-- all of it, for each way in which the bytes begin with a marker and blocks
abbrev pub SendsEachRetagged : {S T : Type 0} → source.Ghosts S → target.Ghosts T → S → Comments → T → T → Type 0
SendsEachRetagged g h from comments old new =
    g.known from ≡ true → h.known old ≡ true → (info : Info) (list : List Block) (rest : List Bool) → BeginsWith (start_mark (g.after from)) (bits_of (g.coming from)) info list rest
    → bits_of (h.sent new) ≡ bits_of (h.sent old) ++ retagged comments info list rest

-- a prefix
abbrev pub SendsPrefixOf : {S T : Type 0} → source.Ghosts S → target.Ghosts T → S → Comments → T → T → Type 0
SendsPrefixOf g h from comments old new = g.known from ≡ true → h.known old ≡ true → SendsPrefix h (source_start g from) comments old new

-- the new blocks, and a prefix of the rest
abbrev pub SendsHeadAndPartOf : {S T : Type 0} → source.Ghosts S → target.Ghosts T → S → Comments → T → T → Type 0
SendsHeadAndPartOf g h from comments old new = g.known from ≡ true → h.known old ≡ true → SendsHeadAndPart h (source_start g from) comments old new
