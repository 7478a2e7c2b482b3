-- Frames after the blocks of a stream, native or Ogg.
use Rattle.std.proofs.Common.{◌≡◌, ℕ, ◌≤◌, Bool, true, false, List, [], ◌∷◌, ◌++◌, length, map, Option, Some, None, refl, sym, ap, subst, arith}
use Rattle.std.proofs.lemmas.List.{append-nil}
use Rattle.flac_bits.specs.Bits.{bits_of}
use Rattle.flac_bits.specs.State.{Mark, past, fresh}
use Rattle.flac_bits.specs.Layout.{Layout}
use Rattle.flac_bits.specs.Meaning.{Spells}
use Rattle.flac_bits.specs.Fence.{InRoom}
use Rattle.flac_bits.specs.Items.{Joined, state_after}
use Rattle.flac_bits.specs.declared.why.Why.TheVariants.{Truncated}
use Rattle.flac_bits.proofs.Holding.{length-bits_of, bits_of-append}
use Rattle.flac_bits.proofs.ItemSpellings.{after_whole}
use Rattle.flac_info.specs.Info.{Info}
use Rattle.flac_frame.specs.Frame.{Frame, after_frame}
use Rattle.flac_frame.specs.declared.before.Before.{Before}
use Rattle.flac_native.specs.Decoding.{beginning}
use Rattle.flac_native.specs.Stream.{Piece, Stand, Progress, framed, grammar, next, layout, layout_in, frame_after, room_in}
use Rattle.flac_native.specs.declared.track.Phase.{Phase}
use Rattle.flac_native.specs.declared.track.Phase.TheVariants.{Opening, Blocks, Frames}
use Rattle.flac_pages.specs.Items.{whole, IsItem}
use Rattle.flac_ogg.specs.Mapping.{is_first_block, packet_layout}
use Rattle.flac_ogg.specs.Stream.{packet_start, AreItems}
use Rattle.flac_ogg.proofs.NativeItems.{Begun, at_fresh, moved, packet_at, later_layout, bytes_whole}
use Rattle.flac_copy.specs.Frames.{Copied, IsFrameOf, AreFramesOf}
use Rattle.flac_copy.specs.Heads.{IsBegun}
use Rattle.flac_copy.specs.Inputs.{bytes_in}
use Rattle.flac_copy.specs.Opened.{frames_of}

-- a frame as the next part
as_next : (s : Stand) (text : List Bool) (f : Frame) → s.phase ≡ Frames → Spells (frame_after s.profile s.info s.before) (beginning Truncated) text f → Spells (layout s) (beginning Truncated) text (framed f)
unfolding layout
as_next s text f phase h =
    let here : Spells (layout_in Frames s) (beginning Truncated) text (framed f) = (f, text, [], sym (append-nil text), h, (refl, refl)) in
    subst (λ (k : Phase). Spells (layout_in k s) (beginning Truncated) text (framed f)) (sym phase) here

room_there : (phase : Phase) (m : Mark) (bytes : List ℕ) → phase ≡ Frames → length bytes ≤ 16777215 → InRoom (room_in phase) m (bits_of bytes)
room_there Frames m bytes e few = omega (arith, few, length-bits_of bytes)
room_there Opening m bytes e few = absurd cc
room_there Blocks m bytes e few = absurd cc

-- frames one after another, wherever whole bytes end
pub frames_joined : (p : Progress) (m : Mark) (frames : List Copied) → p.stand.phase ≡ Frames → IsBegun p.stand → m.unread ≡ 0 → AreFramesOf Truncated p frames → Joined grammar p m (frames_of frames) (bits_of (bytes_in frames))
frames_joined p m [] phase begun z are = refl
frames_joined p m (x ∷ xs) phase begun z (is, others) =
    let text = bits_of x.bytes in
    let b : Begun p.stand = record { opened = begun.opened; rules = begun.rules } in
    let at = at_fresh m z in
    let here = moved p.stand (beginning Truncated) (fresh m) text (framed x.frame) b (λ e. packet_at) (λ e. at) (as_next p.stand text x.frame phase is.spelled) in (
      text,
      bits_of (bytes_in xs),
      bits_of-append x.bytes (bytes_in xs),
      here.spelled,
      room_there p.stand.phase (fresh m) x.bytes phase is.room,
      frames_joined (next p (framed x.frame)) (past text (fresh m)) xs phase (record { opened = here.begun.opened; rules = here.begun.rules }) (after_whole text (fresh m) at.unread (bytes_whole x.bytes)) others,
    )

not_first : (phase : Phase) (index : ℕ) → phase ≡ Frames → is_first_block phase index ≡ false
not_first Frames index e = refl
not_first Opening index e = refl
not_first Blocks index e = absurd cc

-- a packet with the bits of a frame is this frame
frame_item : (p : Progress) (packet bytes : List ℕ) (f : Frame) → bits_of packet ≡ bits_of bytes → p.stand.phase ≡ Frames → IsFrameOf Truncated p.stand bytes f
    → IsItem (room_in p.stand.phase) (packet_layout p.stand) (packet_start None) (record { bits = bits_of packet; ends = whole }) (framed f)
frame_item p packet bytes f same phase is =
    let here = as_next p.stand (bits_of bytes) f phase is.spelled in
    let there : Spells (packet_layout p.stand) (packet_start None) (bits_of bytes) (framed f) =
    subst (λ (l : Layout Piece). Spells l (packet_start None) (bits_of bytes) (framed f)) (sym (later_layout p.stand (not_first p.stand.phase p.stand.index phase))) here in
    record {
      spelled = subst (λ b. Spells (packet_layout p.stand) (packet_start None) b (framed f)) (sym same) there;
      fits = subst (λ b. InRoom (room_in p.stand.phase) (packet_start None) b) (sym same) (room_there p.stand.phase (packet_start None) bytes phase is.room);
      ended = refl;
    }

heads_same : (x y : List Bool) (xs ys : List (List Bool)) → (x ∷ xs) ≡ (y ∷ ys) → (x ≡ y) × (xs ≡ ys)
heads_same x y xs ys e = (cc, cc)

pub frame_items : (p : Progress) (packets : List (List ℕ)) (frames : List Copied) → map bits_of packets ≡ map (λ x. bits_of x.bytes) frames → p.stand.phase ≡ Frames → AreFramesOf Truncated p frames → AreItems p packets (frames_of frames)
frame_items p [] [] same phase are = tt
frame_items p [] (x ∷ xs) same phase are = absurd cc
frame_items p (packet ∷ packets) [] same phase are = absurd cc
frame_items p (packet ∷ packets) (x ∷ xs) same phase (is, others) =
    let e = heads_same (bits_of packet) (bits_of x.bytes) (map bits_of packets) (map (λ y. bits_of y.bytes) xs) same in
    (frame_item p packet x.bytes x.frame e.0 phase is, frame_items (next p (framed x.frame)) packets xs e.1 phase others)

-- ---- the end

pub state_append : (p : Progress) (xs ys : List Piece) → state_after grammar p (xs ++ ys) ≡ state_after grammar (state_after grammar p xs) ys
state_append p [] ys = refl
state_append p (x ∷ xs) ys = state_append (next p x) xs ys

pub may_end : (p : Progress) (info : Info) (frames : List Copied) → p.stand.phase ≡ Frames → p.stand.info ≡ Some info → grammar.may_end (state_after grammar p (frames_of frames)) ≡ true
may_end p info [] phase told = rw (phase, told) refl
may_end p info (x ∷ xs) phase told = may_end (next p (framed x.frame)) info xs phase told

pub items_append : (p : Progress) (xs ys : List (List ℕ)) (is js : List Piece) → AreItems p xs is → AreItems (state_after grammar p is) ys js → AreItems p (xs ++ ys) (is ++ js)
items_append p [] ys [] js a b = b
items_append p [] ys (i ∷ is) js a b = absurd a
items_append p (x ∷ xs) ys [] js a b = absurd a
items_append p (x ∷ xs) ys (i ∷ is) js (one, a) b = (one, items_append (next p i) xs ys is js a b)

-- ---- other blocks before them

abbrev some_before : Option Before → Frame → Option Before
some_before b f = Some (after_frame b f)

-- frames depend on STREAMINFO, the profile and the frame before
pub frames_after : (p q : Progress) (frames : List Copied) → p.stand.profile ≡ q.stand.profile → p.stand.info ≡ q.stand.info → p.stand.before ≡ q.stand.before → AreFramesOf Truncated p frames → AreFramesOf Truncated q frames
frames_after p q [] profile info before are = tt
frames_after p q (x ∷ xs) profile info before (is, others) =
    let first = subst (λ b. Spells (frame_after p.stand.profile p.stand.info b) (beginning Truncated) (bits_of x.bytes) x.frame) before is.spelled in
    let second = subst (λ i. Spells (frame_after p.stand.profile i q.stand.before) (beginning Truncated) (bits_of x.bytes) x.frame) info first in (
      record { spelled = subst (λ k. Spells (frame_after k q.stand.info q.stand.before) (beginning Truncated) (bits_of x.bytes) x.frame) profile second; room = is.room },
      frames_after (next p (framed x.frame)) (next q (framed x.frame)) xs profile info (ap (λ b. some_before b x.frame) before) others,
    )
