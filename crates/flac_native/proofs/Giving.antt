-- Each call gives the first of what is still to come.
use Rattle.std.proofs.Common.{◌≡◌, true, List, [], ◌∷◌, Option, Some, None, is_some, Result, Ok, Err, IfOk, IfSome, refl, sym, ap, subst, ◌∙◌}
use Rattle.flac_bits.specs.declared.why.Why.{Why}
use Rattle.flac_bits.specs.declared.why.Why.TheVariants.{Memory}
use Rattle.flac_native.specs.Stream.{Piece, marked, block, framed, Progress, next}
use Rattle.flac_native.specs.Track.{IsAt, is_made, IsMadeAs, IsInOrder, is_after_blocks, piece_of, block_in}
use Rattle.flac_native.specs.Item.{Item, metadata, frame}
use Rattle.flac_native.specs.Coming.{Coming, IsNext}
use Rattle.flac_native.specs.Giving.{handed, before, items_of, IsFirst, seen_by, found, ComesInOrder, Stage, Goes, MovesFrom, Moves}
use Rattle.flac_meta.specs.declared.block.Block.{Block}
use Rattle.flac_native.specs.declared.track.Phase.TheVariants as phase
use Rattle.flac_native.specs.declared.fault.Place.{Place}
use Rattle.flac_native.specs.declared.fault.Fault.{Fault}
use Rattle.flac_native.specs.declared.container.Part.{Part}
use Rattle.flac_native.specs.declared.container.Part.TheVariants as part
use Rattle.flac_native.specs.declared.track.Track.{Track}
use Rattle.flac_native.specs.declared.decoder.Course.{Course}
use Rattle.flac_native.specs.declared.decoder.Course.TheVariants as course
use Rattle.flac_native.specs.declared.container.Container as container

-- ---- what a call answers

handed_some : (t : Track) (y : Part) → is_made (course.Read y) t ≡ true → handed (piece_of t y) ≡ None → ⊥
handed_some t part.Marker made e = absurd cc
handed_some t part.Block made e = go t.block made e
  where
    go : (b : Option Block) → is_some b ≡ true → handed (block_in t.last b) ≡ None → ⊥
    go None made e = absurd cc
    go (Some k) made e = absurd cc
handed_some t part.Frame made e = absurd cc

pub made_as : (old new : Track) (y : Part) → (y ≡ part.Marker → ⊥) → IsMadeAs y old new → is_made (course.Read y) new ≡ true
made_as old new part.Marker other made = absurd (other refl)
made_as old new part.Block other made = made
made_as old new part.Frame other made = made

pub made_after : (old new : Track) (y : Part) → old.position.phase ≡ phase.Blocks → IsMadeAs y old new → is_made (course.Read y) new ≡ true
made_after old new part.Marker blocks made = absurd (two (sym blocks ∙ made.0))
  where
    two : phase.Blocks ≡ phase.Opening → ⊥
    two e = absurd cc
made_after old new part.Block blocks made = made
made_after old new part.Frame blocks made = made

-- what comes in its phase
pub in_order : (old new : Track) (result : Result (Option Part) Fault) → IfOk result (λ o. IfSome o (λ y. is_made (course.Read y) new ≡ true)) → IfOk result (λ o. IsInOrder o old new) → IfOk result (λ o. ComesInOrder old new (found new o))
in_order old new (Err f) made ordered = tt
in_order old new (Ok None) made ordered = ordered
in_order old new (Ok (Some part.Marker)) made ordered = absurd cc
in_order old new (Ok (Some part.Block)) made ordered = go new.block made
  where
    go : (b : Option Block) → is_some b ≡ true → ComesInOrder old new (handed (block_in new.last b))
    go None made = absurd cc
    go (Some k) made = ordered
in_order old new (Ok (Some part.Frame)) made ordered = ordered

-- and after the marker it is no frame and no end
pub marker_before : (old mid new : Track) (result : Result (Option Part) Fault) → old.position.phase ≡ phase.Opening → mid.position.phase ≡ phase.Blocks → IfOk result (λ o. ComesInOrder mid new (found new o)) → IfOk result (λ o. ComesInOrder old new (found new o))
marker_before old mid new (Err f) opens blocks ordered = tt
marker_before old mid new (Ok o) opens blocks ordered = go (found new o) ordered
  where
    two : phase.Blocks ≡ phase.Frames → ⊥
    two e = absurd cc

    go : (i : Option Item) → ComesInOrder mid new i → ComesInOrder old new i
    go None h = absurd (two (sym blocks ∙ h.0))
    go (Some (metadata b)) h = ap is_after_blocks opens
    go (Some (frame f)) h = absurd (two (sym blocks ∙ h.0))

-- the next of the parts is the first of the items
pub item_first : (given : Coming) (p : Progress) (new : Track) (result : Result (Option Part) Fault)
    → IfOk result (λ o. IfSome o (λ y. is_made (course.Read y) new ≡ true)) → IfOk result (λ o. IfSome o (λ y. IsAt new (next p (piece_of new y))))
    → (parts : List Piece) (end : Option (Place × Why)) → IsNext given p (piece_of new) result parts end → IsFirst given (items_of parts) end (seen_by (found new) result) new
item_first given p new result made noted parts end f = go parts end f
  where
    some_first : (x : Piece) (xs : List Piece) (end : Option (Place × Why)) (y : Part) → result ≡ Ok (Some y) → piece_of new y ≡ x → IsAt new (next p x) → given (next p x) xs end
        → is_made (course.Read y) new ≡ true → IsFirst given (before (handed x) (items_of xs)) end (seen_by (found new) result) new
    some_first marked xs end y is view at rest there = absurd (handed_some new y there (ap handed view))
    some_first (block l b) xs end y is view at rest there = (ap (seen_by (found new)) is ∙ ap (λ k. Ok (handed k)) view, next p (block l b), at, (xs, refl, rest))
    some_first (framed f) xs end y is view at rest there = (ap (seen_by (found new)) is ∙ ap (λ k. Ok (handed k)) view, next p (framed f), at, (xs, refl, rest))

    go : (parts : List Piece) (end : Option (Place × Why)) → IsNext given p (piece_of new) result parts end → IsFirst given (items_of parts) end (seen_by (found new) result) new
    go [] None f = ap (seen_by (found new)) f
    go [] (Some r) f = ap (seen_by (found new)) f
    go (x ∷ xs) end (y, is, view, rest) =
        let there : is_made (course.Read y) new ≡ true = subst (λ r. IfOk r (λ o. IfSome o (λ y. is_made (course.Read y) new ≡ true))) is made in
        let at : IsAt new (next p (piece_of new y)) = subst (λ r. IfOk r (λ o. IfSome o (λ y. IsAt new (next p (piece_of new y))))) is noted in
        some_first x xs end y is view (subst (λ k. IsAt new (next p k)) view at) rest there

abbrev answer : Option Part → Result (Option Part) Fault
answer o = Ok o

-- of the marker nothing is yielded
pub after_marker : (given : Coming) (p : Progress) (t : Track) (parts : List Piece) (end : Option (Place × Why)) → IsNext given p (piece_of t) (Ok (Some part.Marker)) parts end
    → (xs : List Piece) × (items_of parts ≡ items_of xs) × given (next p marked) xs end
after_marker given p t parts end f = go parts end f
  where
    none_some : (y : Part) → answer None ≡ answer (Some y) → ⊥
    none_some y e = absurd cc

    some_err : (y : Part) (f : Fault) → answer (Some y) ≡ Err f → ⊥
    some_err y f e = absurd cc

    same_part : (x y : Part) → answer (Some x) ≡ answer (Some y) → x ≡ y
    same_part x y e = cc

    go : (parts : List Piece) (end : Option (Place × Why)) → IsNext given p (piece_of t) (Ok (Some part.Marker)) parts end → (xs : List Piece) × (items_of parts ≡ items_of xs) × given (next p marked) xs end
    go [] None f = absurd (none_some part.Marker (sym f))
    go [] (Some r) f = absurd (some_err part.Marker _ f)
    go (x ∷ xs) end (y, is, view, rest) =
        let same : marked ≡ x = ap (piece_of t) (same_part part.Marker y is) ∙ view in
        (xs, ap (λ k. before (handed k) (items_of xs)) (sym same), subst (λ k. given (next p k) xs end) (sym same) rest)

pub inside : {P Q : Part → Type 0} (result : Result (Option Part) Fault) → ((y : Part) → result ≡ Ok (Some y) → P y → Q y) → IfOk result (λ o. IfSome o P) → IfOk result (λ o. IfSome o Q)
inside (Ok None) f h = tt
inside (Ok (Some y)) f h = f y refl h
inside (Err e) f h = tt

abbrev wrong : {X : Type 0} → Why → Result X Why
wrong w = Err w

pub same_why : {X Y : Type 0} (v w : Why) → wrong {X = X} v ≡ wrong {X = X} w → wrong {X = Y} v ≡ wrong {X = Y} w
same_why v w e = let k : v ≡ w = cc in ap wrong k

-- a refusal is the same for every view of the answers
pub moves_refused : {C X Y : Type 0} (g : container.Ghosts C) (old new : Stage C) (view : X → Option Item) (seen : Y → Option Item) (f : Fault) → Moves g old new view (Err f) → Moves g old new seen (Err f)
moves_refused {C} {X} {Y} g old new view seen f h = go old.course h
  where
    goes : Goes g old new view (Err f) → Goes g old new seen (Err f)
    goes h = record { gives = λ p at known same quiet room items end still. h.gives p at known same quiet (λ e. room (same_why f.why Memory e)) items end still; counts = record { met = tt; kept = h.counts.kept; read = h.counts.read; risen = h.counts.risen; output = h.counts.output; after = h.counts.after; names = h.counts.names }; passes = λ p at. tt; broken = h.broken; memory = h.memory; ordered = h.ordered; going = h.going; ends = h.ends; refused = h.refused }

    go : (k : Course) → MovesFrom g k old new view (Err f) → MovesFrom g k old new seen (Err f)
    go course.Begun h = goes h
    go (course.Read part) h = goes h
    go course.Over h = h
    go (course.Spent at) h = h
