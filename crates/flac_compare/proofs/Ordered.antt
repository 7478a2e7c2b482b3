-- Every input has a reading, and in each the blocks come before the frames.
use Rattle.std.proofs.Common.{◌≡◌, inl, inr, Bool, true, false, ℕ, List, drop, [], ◌∷◌, map, Option, Some, None, refl, sym, ap, subst}
use Rattle.std.specs.Prelude.{⊤}
use Rattle.flac_bits.specs.State.{After, Mark, fresh}
use Rattle.flac_bits.specs.Bits.{bits_of}
use Rattle.flac_bits.specs.Layout.{Layout}
use Rattle.flac_bits.specs.Meaning.{Spells}
use Rattle.flac_bits.specs.Items.{Joined}
use Rattle.flac_bits.specs.Handing.{InputReading}
use Rattle.flac_bits.specs.declared.why.Why.{Why}
use Rattle.flac_meta.specs.declared.block.Block.{Block}
use Rattle.flac_header.specs.declared.subset.Profile.{Profile}
use Rattle.flac_frame.specs.Frame.{Frame}
use Rattle.flac_native.specs.Stream.{Piece, marked, block, framed, Stand, Progress, grammar, opening, next, layout, layout_in}
use Rattle.flac_native.specs.Item.{metadata, frame}
use Rattle.flac_native.specs.Giving.{items_of}
use Rattle.flac_native.specs.declared.fault.Place.{Place}
use Rattle.flac_native.specs.declared.track.Phase.{Phase}
use Rattle.flac_native.specs.declared.track.Phase.TheVariants.{Opening, Blocks, Frames}
use Rattle.flac_native.proofs.Deciding.{some_answer}
use Rattle.flac_ogg.specs.Mapping.{is_first_block}
use Rattle.flac_ogg.specs.Stream.{start, packet_start, AreItems}
use Rattle.flac_native.specs.Decoding.{start_mark}
use Rattle.flac_ogg.specs.Either.{begins_page, read_either}
use Rattle.flac_ogg.proofs.NativeItems.{Begun, moved, packet_at, later_layout, first_moved}
use Rattle.flac_ogg.proofs.MeaningReadings.{some_ogg_reading}
use Rattle.flac_reader.specs.Coming.{stream_items}
use Rattle.flac_reader.specs.Inputs.{any_input}
use Rattle.flac_reader.specs.Opening.{IsReadAs}

-- ---- the kind of a part

abbrev IsKind : Phase → Piece → Type 0
IsKind Opening x = x ≡ marked
IsKind Blocks x = (last : Bool) × (b : Block) × (x ≡ block last b)
IsKind Frames x = (f : Frame) × (x ≡ framed f)

kind_of : (s : Stand) (m : Mark) (text : List Bool) (x : Piece) → Spells (layout s) m text x → IsKind s.phase x
unfolding layout
kind_of s m text x h = go s.phase h
  where
    go : (phase : Phase) → Spells (layout_in phase s) m text x → IsKind phase x
    go Opening (y, front, rest, split, spelled, (none, same)) = sym same
    go Blocks (y, front, rest, split, spelled, (none, same)) = (y.0, y.1, sym same)
    go Frames (f, front, rest, split, spelled, (none, same)) = (f, sym same)

abbrev AllKinds : Progress → List Piece → Type 0
AllKinds p [] = ⊤
AllKinds p (x ∷ xs) = IsKind p.stand.phase x × AllKinds (next p x) xs

of_joined : (p : Progress) (m : Mark) (items : List Piece) (text : List Bool) → Joined grammar p m items text → AllKinds p items
of_joined p m [] text j = tt
of_joined p m (x ∷ xs) text (front, rest, split, spelled, fits, others) = (kind_of p.stand (fresh m) front x spelled, of_joined (next p x) _ xs rest others)

of_packets : (p : Progress) (packets : List (List ℕ)) (items : List Piece) → Begun p.stand → is_first_block p.stand.phase p.stand.index ≡ false → AreItems p packets items → AllKinds p items
of_packets p [] [] begun later are = tt
of_packets p [] (x ∷ xs) begun later are = absurd are
of_packets p (packet ∷ packets) [] begun later are = absurd are
of_packets p (packet ∷ packets) (x ∷ xs) begun later (is, others) =
    let here : Spells (layout p.stand) (packet_start None) (bits_of packet) x = subst (λ (l : Layout Piece). Spells l (packet_start None) (bits_of packet) x) (later_layout p.stand later) is.spelled in
    let there = moved p.stand (packet_start None) (packet_start None) (bits_of packet) x begun (λ e. packet_at) (λ e. packet_at) here in
    (kind_of p.stand (packet_start None) (bits_of packet) x here, of_packets (next p x) packets xs there.begun there.later others)

all_packets : (profile : Profile) (packets : List (List ℕ)) (items : List Piece) → AreItems (start profile) packets items → AllKinds (start profile) items
all_packets profile [] [] are = tt
all_packets profile [] (x ∷ xs) are = absurd are
all_packets profile (packet ∷ packets) [] are = absurd are
all_packets profile (packet ∷ packets) (x ∷ xs) (is, others) =
    let there = first_moved profile packet (packet_start None) x is.spelled in
    (kind_of (start profile).stand (packet_start None) (bits_of (drop 13 packet)) x there.spelled, of_packets (next (start profile) x) packets xs there.begun there.later others)

-- ---- their order

no_marker : (f : Frame) → marked ≡ framed f → ⊥
no_marker f e = absurd cc

no_block : (last : Bool) (b : Block) (f : Frame) → block last b ≡ framed f → ⊥
no_block last b f e = absurd cc

frames_only : (p : Progress) (items : List Piece) → p.stand.phase ≡ Frames → AllKinds p items → (fs : List Frame) × (items_of items ≡ map frame fs)
frames_only p [] e k = ([], refl)
frames_only p (marked ∷ xs) e (is, more) = let k = subst (λ q. IsKind q marked) e is in absurd (no_marker k.0 k.1)
frames_only p (block last b ∷ xs) e (is, more) = let k = subst (λ q. IsKind q (block last b)) e is in absurd (no_block last b k.0 k.1)
frames_only p (framed f ∷ xs) e (is, more) =
    let rest = frames_only (next p (framed f)) xs e more in
    (f ∷ rest.0, ap (λ l. frame f ∷ l) rest.1)

no_marked : (last : Bool) (b : Block) → marked ≡ block last b → ⊥
no_marked last b e = absurd cc

no_frame : (f : Frame) (last : Bool) (b : Block) → framed f ≡ block last b → ⊥
no_frame f last b e = absurd cc

blocks_first : (p : Progress) (items : List Piece) → p.stand.phase ≡ Blocks → AllKinds p items → (bs : List Block) × (fs : List Frame) × (items_of items ≡ stream_items bs fs)
blocks_first p [] e k = ([], [], refl)
blocks_first p (marked ∷ xs) e (is, more) = let k = subst (λ q. IsKind q marked) e is in absurd (no_marked k.0 k.1 k.2)
blocks_first p (framed f ∷ xs) e (is, more) = let k = subst (λ q. IsKind q (framed f)) e is in absurd (no_frame f k.0 k.1 k.2)
blocks_first p (block true b ∷ xs) e (is, more) =
    let rest = frames_only (next p (block true b)) xs refl more in
    (b ∷ [], rest.0, ap (λ l. metadata b ∷ l) rest.1)
blocks_first p (block false b ∷ xs) e (is, more) =
    let rest = blocks_first (next p (block false b)) xs refl more in
    (b ∷ rest.0, rest.1, ap (λ l. metadata b ∷ l) rest.2)

marker_first : (p : Progress) (items : List Piece) → p.stand.phase ≡ Opening → AllKinds p items → (bs : List Block) × (fs : List Frame) × (items_of items ≡ stream_items bs fs)
marker_first p [] e k = ([], [], refl)
marker_first p (marked ∷ xs) e (is, more) = blocks_first (next p marked) xs refl more
marker_first p (block last b ∷ xs) e (is, more) = let k = subst (λ q. IsKind q (block last b)) e is in absurd (no_marked last b (sym k))
marker_first p (framed f ∷ xs) e (is, more) = let k = subst (λ q. IsKind q (framed f)) e is in absurd (no_marker f (sym k))

-- ---- an input

pub record IsRead (r : InputReading Piece Place) : Type 0 where
  pub blocks : List Block
  pub frames : List Frame
  pub end : Option (Place × Why)
  pub read : IsReadAs r blocks frames end

pub some_read : (profile : Profile) (is_ogg : Bool) (m : Mark) (text : List Bool) → IsRead (read_either profile is_ogg m text)
some_read profile false m text = elim (some_answer (opening profile) m text) [
  | inl a ↦ (let o = marker_first (opening profile) a.0 refl (of_joined (opening profile) m a.0 text a.1.spelled) in record { blocks = o.0; frames = o.1; end = None; read = record { parts = a.0; read = a.1; items = o.2 } })
  | inr a ↦ (let o = marker_first (opening profile) a.0 refl (of_joined (opening profile) m a.0 a.3.front a.3.spelled) in record { blocks = o.0; frames = o.1; end = Some (a.1, a.2); read = record { parts = a.0; read = a.3; items = o.2 } })
]
some_read profile true m text = elim (some_ogg_reading profile m text) [
  | inl a ↦ (let o = blocks_first (start profile) a.0 refl (all_packets profile a.1.contents.packets a.0 a.1.spelled) in record { blocks = o.0; frames = o.1; end = None; read = record { parts = a.0; read = a.1; items = o.2 } })
  | inr a ↦ (let o = blocks_first (start profile) a.0 refl (all_packets profile a.3.taken a.0 a.3.spelled) in record { blocks = o.0; frames = o.1; end = Some (a.1, a.2); read = record { parts = a.0; read = a.3; items = o.2 } })
]

pub input_read : (profile : Profile) (bytes : List ℕ) (ending : After) → IsRead (any_input profile bytes ending)
input_read profile bytes ending = some_read profile (begins_page bytes) (start_mark ending) (bits_of bytes)
