-- The marker and metadata blocks that are read one after another.
use Rattle.std.proofs.Common.{◌≡◌, ◌≢◌, ℕ, ◌+◌, ◌<◌, Bool, true, false, ◌&&◌, cond, List, [], ◌∷◌, ◌++◌, Option, None, Result, Ok, Err, inl, inr, refl, sym, ap, subst, ◌∙◌, append-nil, append_assoc, arith}
use Rattle.std.specs.Bool.{⊤}
use Rattle.flac_bits.specs.Bits.{is_nil}
use Rattle.flac_bits.specs.State.{State, Mark, Cursor, past, fresh, started}
use Rattle.flac_bits.specs.Reading.{Counts, Reads, ReadsGivenMemory}
use Rattle.flac_bits.specs.Layout.{Layout, run, because}
use Rattle.flac_bits.specs.Meaning.{Spells}
use Rattle.flac_bits.specs.Fence.{InRoom, StopsIn}
use Rattle.flac_bits.specs.Items.{state_after, mark_after}
use Rattle.flac_bits.specs.declared.why.Why.{Why}
use Rattle.flac_bits.specs.declared.why.Why.TheVariants.{Memory}
use Rattle.flac_bits.proofs.Readings.{at_}
use Rattle.flac_bits.proofs.Meaning.{takes, refuses}
use Rattle.flac_bits.proofs.Handing.{Joined-append, state_after-append}
use Rattle.flac_meta.specs.Block.{block as block_layout, seen_after}
use Rattle.flac_meta.specs.Header.{nothing_seen}
use Rattle.flac_meta.specs.declared.block.Seen.{Seen}
use Rattle.flac_meta.specs.declared.block.Block.{Block}
use Rattle.flac_meta.specs.declared.comments.Comments.{Comments}
use Rattle.flac_meta.specs.declared.seek_table.SeekPoint.{SeekPoint}
use Rattle.flac_header.specs.declared.subset.Profile.{Profile}
use Rattle.flac_native.specs.Stream.{Piece, marked, block, framed, Progress, Stand, grammar, opening, next, layout, layout_in, marker, room_in, may_end_in, place_in, phase_after, raised, info_after}
use Rattle.flac_native.specs.declared.fault.Place.TheVariants as place
use Rattle.flac_native.specs.declared.track.Phase.{Phase}
use Rattle.flac_native.specs.declared.track.Phase.TheVariants.{Opening, Blocks, Frames}
use Rattle.flac_c.specs.Heads.{comments_from, comments_after, count_of}
use Rattle.flac_c.specs.Starts.{are_metadata, point_after, point_from}
use Rattle.flac_c.specs.inner.Blocks.{Noted, IsFound, BlockRead, PartsRead, BlocksCome, HeadRead, IsRefusedAt}
use Rattle.flac_c.specs.declared.metadata.Metadata.{Metadata}

-- ---- what blocks tell, after one more

info_more : (profile : Profile) (parts : List Piece) (last : Bool) (b : Block) → (state_after grammar (opening profile) (parts ++ block last b ∷ [])).stand.info ≡ info_after (state_after grammar (opening profile) parts).stand.info b
info_more profile parts last b = ap (λ (p : Progress). p.stand.info) (state_after-append grammar (opening profile) parts (block last b))

comments_more : (i : Option Comments) (xs : List Piece) (last : Bool) (b : Block) → comments_from i (xs ++ block last b ∷ []) ≡ comments_after (comments_from i xs) b
comments_more i [] last b = refl
comments_more i (marked ∷ xs) last b = comments_more i xs last b
comments_more i (block l c ∷ xs) last b = comments_more (comments_after i c) xs last b
comments_more i (framed f ∷ xs) last b = comments_more i xs last b

point_more : (sample : ℕ) (i : Option SeekPoint) (xs : List Piece) (last : Bool) (b : Block) → point_from sample i (xs ++ block last b ∷ []) ≡ point_after sample (point_from sample i xs) b
point_more sample i [] last b = refl
point_more sample i (marked ∷ xs) last b = point_more sample i xs last b
point_more sample i (block l c ∷ xs) last b = point_more sample (point_after sample i c) xs last b
point_more sample i (framed f ∷ xs) last b = point_more sample i xs last b

metadata_more : (xs : List Piece) (last : Bool) (b : Block) → are_metadata xs ≡ true → are_metadata (xs ++ block last b ∷ []) ≡ true
metadata_more [] last b e = refl
metadata_more (marked ∷ xs) last b e = metadata_more xs last b e
metadata_more (block l c ∷ xs) last b e = metadata_more xs last b e
metadata_more (framed f ∷ xs) last b e = absurd cc

pub found_more : (profile : Profile) (sample : ℕ) (parts : List Piece) (found noted : Metadata) (last : Bool) (b : Block) → IsFound profile sample parts found → Noted found b noted → IsFound profile sample (parts ++ block last b ∷ []) noted
found_more profile sample parts found noted last b f n = record {
  info = n.info ∙ ap (λ o. info_after o b) f.info ∙ sym (info_more profile parts last b);
  comments = n.comments (comments_from None parts) f.comments ∙ ap (λ o. count_of o) (sym (comments_more None parts last b));
  sought = n.sample ∙ f.sought;
  point = n.point ∙ ap (λ s. point_after s found.point b) f.sought ∙ ap (λ o. point_after sample o b) f.point ∙ sym (point_more sample None parts last b);
}

pub found_marked : (profile : Profile) (sample : ℕ) (found : Metadata) → IsFound profile sample [] found → IsFound profile sample (marked ∷ []) found
found_marked profile sample found none = record { info = none.info; comments = none.comments; sought = none.sought; point = none.point }

-- ---- one part

-- why no item is there
pub stops_of : {A : Type 0} (l : Layout A) (left : List Bool) (m : Mark) (why : Why) → run l (at_ left m) ≡ Err (because why) → StopsIn None l m left why
stops_of l left m why is = elim (refuses l left m why is) [ inl (front, rest, split, shows) ↦ inl (front, rest, split, shows, tt) | inr (short, cut) ↦ inr (inl (short, cut, tt)) ]

as_block : (s : Stand) (seen : Seen) (m : Mark) (text : List Bool) (last : Bool) (b : Block) → s.phase ≡ Blocks → s.seen ≡ seen → Spells (block_layout seen) m text (last, b) → Spells (layout s) m text (block last b)
unfolding layout
as_block s seen m text last b phase is h =
    subst (λ k. Spells (layout_in k s) m text (block last b)) (sym phase) ((last, b), text, [], sym (append-nil text), subst (λ e. Spells (block_layout e) m text (last, b)) (sym is) h, (refl, refl))

as_marker : (s : Stand) (m : Mark) (text : List Bool) (u : ⊤) → s.phase ≡ Opening → Spells marker m text u → Spells (layout s) m text marked
unfolding layout
as_marker s m text u phase h = subst (λ k. Spells (layout_in k s) m text marked) (sym phase) (u, text, [], sym (append-nil text), h, (refl, refl))

block_stops : (s : Stand) (seen : Seen) (m : Mark) (left : List Bool) (why : Why) → s.phase ≡ Blocks → s.seen ≡ seen → StopsIn None (block_layout seen) m left why → StopsIn (room_in s.phase) (layout s) m left why
unfolding layout
block_stops s seen m left why phase is h =
    let g : StopsIn None (block_layout s.seen) m left why = subst (λ e. StopsIn None (block_layout e) m left why) (sym is) h in
    subst (λ k. StopsIn (room_in k) (layout_in k s) m left why) (sym phase) (go g)
  where
    go : StopsIn None (block_layout s.seen) m left why → StopsIn None (layout_in Blocks s) m left why
    go (inl (front, rest, split, shows, fits)) = inl (front, rest, split, inl shows, tt)
    go (inr (inl (short, cut, fits))) = inr (inl (short, inl cut, tt))
    go (inr (inr (long, fills))) = absurd fills

marker_stops : (s : Stand) (m : Mark) (left : List Bool) (why : Why) → s.phase ≡ Opening → StopsIn None marker m left why → StopsIn (room_in s.phase) (layout s) m left why
unfolding layout
marker_stops s m left why phase h = subst (λ k. StopsIn (room_in k) (layout_in k s) m left why) (sym phase) (go h)
  where
    go : StopsIn None marker m left why → StopsIn None (layout_in Opening s) m left why
    go (inl (front, rest, split, shows, fits)) = inl (front, rest, split, inl shows, tt)
    go (inr (inl (short, cut, fits))) = inr (inl (short, inl cut, tt))
    go (inr (inr (long, fills))) = absurd fills

-- the input does not end before the frames
goes_on : (s : Stand) (left : List Bool) (k : Phase) → s.phase ≡ k → (k ≡ Frames → ⊥) → (may_end_in s.phase s.info && is_nil left) ≡ false
goes_on s left Opening e other = rw e refl
goes_on s left Blocks e other = rw e refl
goes_on s left Frames e other = absurd (other refl)

no_frames_yet : Blocks ≡ Frames → ⊥
no_frames_yet e = absurd cc

not_opened : Opening ≡ Frames → ⊥
not_opened e = absurd cc

-- ---- the marker

pub marker_read : (profile : Profile) (start new : State) (Told : List Piece → Type 0) (u : ⊤) → run marker (at_ start.cursor.left (fresh start.cursor.mark)) ≡ Ok (u, new.cursor) → Told (marked ∷ []) → new.known ≡ true → new.errors ≡ start.errors
    → BlocksCome profile start new Told nothing_seen 0
marker_read profile start new Told u ran tells known same =
    let t = takes marker start.cursor.left (fresh start.cursor.mark) u new.cursor ran in
    let h = as_marker (opening profile).stand (fresh start.cursor.mark) t.0 u refl t.2 in
    record {
      read = record {
        parts = marked ∷ [];
        metadata = refl;
        text = t.0;
        stands = t.1;
        spelled = (t.0, [], sym (append-nil t.0), h, tt, refl);
        mark = t.3;
        tells = tells;
        known = known;
        errors = same;
      };
      phase = refl;
      seen_is = refl;
      index_is = refl;
    }

pub marker_refused : (profile : Profile) (start : State) (why : Why) → run marker (at_ start.cursor.left (fresh start.cursor.mark)) ≡ Err (because why) → IsRefusedAt profile start (record { at = place.Marker; why = why })
marker_refused profile start why ran =
    let stops = marker_stops (opening profile).stand (fresh start.cursor.mark) start.cursor.left why refl (stops_of marker start.cursor.left (fresh start.cursor.mark) why ran) in
    ([], record { front = []; left = start.cursor.left; stands = refl; spelled = refl; stops = inl (goes_on (opening profile).stand start.cursor.left Opening refl not_opened, refl, stops) })

-- ---- a block

module _ (profile : Profile) (start old : State) (Told : List Piece → Type 0) (seen : Seen) (index : ℕ) (c : BlocksCome profile start old Told seen index) where
  abbrev before : Progress
  before = state_after grammar (opening profile) c.read.parts

  module _ (new : State) (Kept : Block → Type 0) (left : Seen) (last : Bool) (r : BlockRead seen left old new Kept last) (Next : List Piece → Type 0) (tells : Next (c.read.parts ++ block last r.is ∷ [])) where
    abbrev x : Piece
    x = block last r.is

    spelled_here : Spells (layout before.stand) (fresh (mark_after grammar (opening profile) start.cursor.mark c.read.parts c.read.text c.read.spelled)) r.text x
    spelled_here = as_block before.stand seen (fresh (mark_after grammar (opening profile) start.cursor.mark c.read.parts c.read.text c.read.spelled)) r.text last r.is c.phase c.seen_is
        (subst (λ (m : Mark). Spells (block_layout seen) (fresh m) r.text (last, r.is)) c.read.mark r.spelled)

    room_here : InRoom (room_in before.stand.phase) (fresh (mark_after grammar (opening profile) start.cursor.mark c.read.parts c.read.text c.read.spelled)) r.text
    room_here = subst (λ k. InRoom (room_in k) (fresh (mark_after grammar (opening profile) start.cursor.mark c.read.parts c.read.text c.read.spelled)) r.text) (sym c.phase) tt

    abbrev parts_more : List Piece
    parts_more = c.read.parts ++ x ∷ []

    abbrev parts_read : PartsRead profile start new Next
    parts_read =
        let j = Joined-append grammar (opening profile) start.cursor.mark c.read.parts x c.read.text r.text c.read.spelled spelled_here room_here in
        record {
          parts = parts_more;
          metadata = metadata_more c.read.parts last r.is c.read.metadata;
          text = c.read.text ++ r.text;
          stands = c.read.stands ∙ ap (λ l. c.read.text ++ l) r.stands ∙ sym (append_assoc c.read.text r.text new.cursor.left);
          spelled = j.0;
          mark = r.mark ∙ ap (λ m. past r.text (fresh m)) c.read.mark ∙ sym j.1;
          tells = tells;
          known = r.known;
          errors = r.errors ∙ c.read.errors;
        }

    after_is : state_after grammar (opening profile) parts_more ≡ next before x
    after_is = state_after-append grammar (opening profile) c.read.parts x

    pub head_read : last ≡ true → HeadRead profile start new Next
    head_read is = record { read = parts_read; phase = ap (λ (p : Progress). p.stand.phase) after_is ∙ ap (λ l. phase_after l) is }

    pub blocks_come : last ≡ false → index < 18446744073709551615 → BlocksCome profile start new Next left (index + 1)
    blocks_come is lt =
        let one : raised before.stand.index ≡ index + 1 = ap (λ k. raised k) c.index_is ∙ omega arith in
        record {
          read = parts_read;
          phase = ap (λ (p : Progress). p.stand.phase) after_is ∙ ap (λ l. phase_after l) is;
          seen_is = ap (λ (p : Progress). p.stand.seen) after_is ∙ ap (λ s. seen_after s r.is) c.seen_is ∙ sym r.seen_is;
          index_is = ap (λ (p : Progress). p.stand.index) after_is ∙ ap (λ l. cond l 0 (raised before.stand.index)) is ∙ one;
        }

  place_is : place.Block index ≡ place_in before.stand.phase before.stand.index
  place_is = sym (ap (λ k. place_in k before.stand.index) c.phase ∙ ap (λ n. place.Block n) c.index_is)

  pub blocks_refused : (why : Why) → StopsIn None (block_layout seen) (fresh old.cursor.mark) old.cursor.left why → IsRefusedAt profile start (record { at = place.Block index; why = why })
  blocks_refused why h =
      let there = subst (λ (m : Mark). StopsIn None (block_layout seen) (fresh m) old.cursor.left why) c.read.mark h in
      let stops = block_stops before.stand seen (fresh (mark_after grammar (opening profile) start.cursor.mark c.read.parts c.read.text c.read.spelled)) old.cursor.left why c.phase c.seen_is there in (
        c.read.parts,
        record {
          front = c.read.text;
          left = old.cursor.left;
          stands = c.read.stands;
          spelled = c.read.spelled;
          stops = inl (goes_on before.stand old.cursor.left Blocks c.phase no_frames_yet, place_is, stops);
        },
      )

-- ---- what calls return

never : {A : Type 0} (x : A) (e : Why) → Ok x ≡ Err e → ⊥
never x e h = absurd cc

abbrev failed : {A : Type 0} → Why → Result A Why
failed why = Err why

other_error : {A : Type 0} (why : Why) → why ≢ Memory → failed {A = A} why ≡ failed Memory → ⊥
other_error why other h = let same : why ≡ Memory = cc in other same

pub block_was_read : (seen left : Seen) (old begun new : State) (Kept : Block → Type 0) (last : Bool) (b : Block) → old.known ≡ true → begun ≡ started old
    → ReadsGivenMemory (λ x. x) (block_layout seen) begun new (Ok (last, b)) → Counts {X = Bool × Block} begun new (Ok (last, b)) → left ≡ seen_after seen b → Kept b
    → BlockRead seen left old new Kept last
block_was_read seen left old begun new Kept last b known is reads counts seen_is kept =
    let same : begun.errors ≡ old.errors = ap (λ (s : State). s.errors) is in
    let told : begun.known ≡ true = ap (λ (s : State). s.known) is ∙ known in
    let place : begun.cursor ≡ at_ old.cursor.left (fresh old.cursor.mark) = ap (λ (s : State). s.cursor) is in
    let ran = reads (never (last, b) Memory) told counts.1 in
    let t = takes (block_layout seen) old.cursor.left (fresh old.cursor.mark) (last, b) new.cursor (ap (λ (k : Cursor). run (block_layout seen) k) (sym place) ∙ ran) in
    record {
      is = b;
      text = t.0;
      stands = t.1;
      spelled = t.2;
      mark = t.3;
      seen_is = seen_is;
      kept = kept;
      known = counts.0 told;
      errors = counts.1 ∙ same;
    }

pub block_was_refused : (seen : Seen) (old begun new : State) (why : Why) → old.known ≡ true → begun ≡ started old → ReadsGivenMemory {X = Bool × Block} (λ x. x) (block_layout seen) begun new (Err why) → new.errors ≡ old.errors → why ≢ Memory
    → StopsIn None (block_layout seen) (fresh old.cursor.mark) old.cursor.left why
block_was_refused seen old begun new why known is reads quiet other =
    let same : new.errors ≡ begun.errors = quiet ∙ sym (ap (λ (s : State). s.errors) is) in
    let told : begun.known ≡ true = ap (λ (s : State). s.known) is ∙ known in
    let place : begun.cursor ≡ at_ old.cursor.left (fresh old.cursor.mark) = ap (λ (s : State). s.cursor) is in
    let ran = reads (other_error {A = Bool × Block} why other) told same in
    stops_of (block_layout seen) old.cursor.left (fresh old.cursor.mark) why (ap (λ (k : Cursor). run (block_layout seen) k) (sym place) ∙ ran)

pub marker_was_read : (profile : Profile) (start begun new : State) (Told : List Piece → Type 0) (u : ⊤) → begun ≡ started start → start.known ≡ true → Reads (λ x. x) marker begun new (Ok u) → Counts {X = ⊤} begun new (Ok u) → Told (marked ∷ [])
    → BlocksCome profile start new Told nothing_seen 0
marker_was_read profile start begun new Told u is known reads counts tells =
    let read = subst (λ (s : State). Reads {X = ⊤} (λ x. x) marker s new (Ok u)) is reads in
    let counted = subst (λ (s : State). Counts {X = ⊤} s new (Ok u)) is counts in
    marker_read profile start new Told u (read known counted.1) tells (counted.0 known) counted.1

pub marker_was_refused : (profile : Profile) (start begun new : State) (why : Why) → begun ≡ started start → start.known ≡ true → Reads {X = ⊤} (λ x. x) marker begun new (Err why) → new.errors ≡ start.errors
    → IsRefusedAt profile start (record { at = place.Marker; why = why })
marker_was_refused profile start begun new why is known reads quiet =
    let read = subst (λ (s : State). Reads {X = ⊤} (λ x. x) marker s new (Err why)) is reads in
    marker_refused profile start why (read known quiet)
