-- Blocks and frames that are read from bytes.
use Rattle.std.proofs.Common.{◌≡◌, ℕ, Bool, true, false, List, [], ◌∷◌, ◌++◌, ◌≤◌, length, take, None, Result, Ok, Err, IfOk, refl, sym, ap, subst, ◌∙◌, append_assoc, take_all, arith}
use Rattle.std.specs.Bool.{⊤}
use Rattle.std.proofs.lemmas.List.{append-nil}
use Rattle.flac_bits.specs.Bits.{bits_of, is_nil}
use Rattle.flac_bits.specs.State.{State, Mark, past}
use Rattle.flac_bits.specs.Layout.{◌>>=◌}
use Rattle.flac_bits.specs.Meaning.{Spells}
use Rattle.flac_bits.specs.Fence.{InRoom}
use Rattle.flac_bits.specs.Reading.{Call, CallInPlace, MeansGivenMemory, Reads, SaysOver}
use Rattle.flac_bits.specs.declared.why.Why.{Why}
use Rattle.flac_bits.specs.declared.why.Why.TheVariants.{Memory, Truncated}
use Rattle.flac_bits.proofs.Meaning.{takes}
use Rattle.flac_bits.proofs.Readings.{past-append}
use Rattle.flac_meta.specs.Block.{block as block_layout}
use Rattle.flac_meta.specs.declared.block.Block.{Block}
use Rattle.flac_frame.specs.Frame.{Frame}
use Rattle.flac_native.specs.Stream.{Piece, Stand, block, layout, layout_in, room_in, frame_after}
use Rattle.flac_native.specs.Decoding.{beginning}
use Rattle.flac_native.specs.declared.track.Phase.{Phase}
use Rattle.flac_native.specs.declared.track.Phase.TheVariants.{Blocks, Frames, Opening}
use Rattle.flac_ogg.specs.Mapping.{mapping, is_first_block, packet_layout}
use Rattle.flac_ogg.specs.Stream.{packet_start}
use Rattle.flac_ogg.proofs.NativeItems.{later_layout}
use Rattle.flac_copy.specs.Parts.{before_bytes, SpellsPart, SpellsPacket, IsPart}
use Rattle.flac_copy.specs.Frames.{IsFrameOf, TakesFrame}
use Rattle.flac_copy.proofs.FramesKept.{front_bytes}

abbrev read_ok : Bool × Block → Result (Bool × Block) Why
read_ok b = Ok b

no_memory : (b : Bool × Block) → read_ok b ≡ Err Memory → ⊥
no_memory b e = absurd cc

-- what a block was read from
pub block_text : (s : Stand) (old new : State) (result : Result (Bool × Block) Why) → Call 32 (MeansGivenMemory (λ x. x) (block_layout s.seen)) old new result → s.phase ≡ Blocks
    → IfOk result (λ b. SpellsPart s old new (block b.0 b.1))
unfolding layout
block_text s old new (Err e) call phase = tt
block_text s old new (Ok b) call phase = λ known.
    let d = (call.reads (no_memory b) known call.counts.1).found in
    let here : Spells (layout_in Blocks s) old.cursor.mark d.0 (block b.0 b.1) = (b, d.0, [], sym (append-nil d.0), d.2, (refl, refl)) in
    (call.counts.0 known, (d.0, d.1, subst (λ (k : Phase). Spells (layout_in k s) old.cursor.mark d.0 (block b.0 b.1)) (sym phase) here))

-- the mapping was read before it
pub first_text : (s : Stand) (s0 s1 s2 : State) (u : ⊤) (x : Piece) → is_first_block s.phase s.index ≡ true → CallInPlace 104 (Reads (λ u. u) mapping) s0 s1 (Ok u) → SpellsPart s s1 s2 x → SpellsPacket s s0 s2 x
unfolding packet_layout
first_text s s0 s1 s2 u x first call more known =
    let t = takes mapping s0.cursor.left s0.cursor.mark u s1.cursor (call.reads known call.counts.1) in
    let m = more (call.counts.0 known) in
    let d = m.1 in
    let all : Spells (mapping >>= λ _. layout s) s0.cursor.mark (t.0 ++ d.0) x = (u, t.0, d.0, refl, t.2, subst (λ (k : Mark). Spells (layout s) k d.0 x) t.3 d.2) in (
      m.0,
      (
        t.0 ++ d.0,
        (t.1 ∙ ap (λ l. t.0 ++ l) d.1.0 ∙ sym (append_assoc t.0 d.0 s2.cursor.left), d.1.1 ∙ ap (past d.0) t.3 ∙ sym (past-append t.0 d.0 s0.cursor.mark)),
        rw first all,
      ),
    )

-- no mapping comes before it
pub later_text : (s : Stand) (s0 s1 : State) (x : Piece) → is_first_block s.phase s.index ≡ false → SpellsPart s s0 s1 x → SpellsPacket s s0 s1 x
later_text s s0 s1 x later part known =
    let p = part known in
    let d = p.1 in
    (p.0, (d.0, d.1, subst (λ l. Spells l s0.cursor.mark d.0 x) (sym (later_layout s later)) d.2))

nothing_left : (bits : List Bool) → is_nil bits ≡ true → bits ≡ []
nothing_left [] e = refl
nothing_left (b ∷ bits) e = absurd cc

pub over_left : (s0 s1 : State) (over : Bool) → SaysOver s0 s1 over → over ≡ true → s0.known ≡ true → s0.cursor.left ≡ []
over_left s0 s1 over says is known = nothing_left s0.cursor.left (sym (says known).1 ∙ is)

no_bound : (phase : Phase) (m : Mark) (text : List Bool) → phase ≡ Blocks → InRoom (room_in phase) m text
no_bound Blocks m text e = tt
no_bound Opening m text e = tt
no_bound Frames m text e = absurd cc

-- the block is all of the packet
pub all_of_packet : (s : Stand) (packet : List ℕ) (s0 s1 : State) (x : Piece) → s0 ≡ before_bytes packet → s.phase ≡ Blocks → SpellsPacket s s0 s1 x → (s1.known ≡ true → s1.cursor.left ≡ []) → IsPart s packet x
all_of_packet s packet s0 s1 x is phase spelled over =
    let p = spelled (ap (λ (k : State). k.known) is) in
    let d = p.1 in
    let text : d.0 ≡ bits_of packet = sym (append-nil d.0) ∙ ap (λ l. d.0 ++ l) (sym (over p.0)) ∙ sym d.1.0 ∙ ap (λ (k : State). k.cursor.left) is in
    record {
      spelled = subst (λ t. Spells (packet_layout s) (packet_start None) t x) text (subst (λ (m : Mark). Spells (packet_layout s) m d.0 x) (ap (λ (k : State). k.cursor.mark) is) d.2);
      fits = no_bound s.phase (packet_start None) (bits_of packet) phase;
      ended = refl;
    }

-- the frame is all of the packet
pub frame_of_packet : (s : Stand) (f : Frame) (packet : List ℕ) (s0 s1 : State) (n : ℕ) → s0 ≡ before_bytes packet → TakesFrame s f s0 s1 n → n ≡ length packet → IsFrameOf Truncated s packet f
frame_of_packet s f packet s0 s1 n is takes long =
    let t = (subst (λ (k : State). TakesFrame s f k s1 n) is takes).taken refl in
    let left : List Bool = s1.cursor.left in
    let split : bits_of packet ≡ t.text ++ left = sym (append-nil (bits_of packet)) ∙ t.split in
    let front = front_bytes packet t.text left n Truncated split t.room t.count t.whole in
    let all : take n packet ≡ packet = take_all n packet (omega (arith, long)) in
    record {
      spelled = subst (λ (b : List Bool). Spells (frame_after s.profile s.info s.before) (beginning Truncated) b f) (front.text_is ∙ ap bits_of all) t.spelled;
      room = subst (λ (b : List ℕ). length b ≤ 16777215) all front.room;
    }
