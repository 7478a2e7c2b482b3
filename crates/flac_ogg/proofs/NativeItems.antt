-- The items in the packets of an Ogg stream, one after another after a marker, are a native stream.
use Rattle.std.proofs.Common.{◌≡◌, ◌≢◌, ◌%◌, ◌≤◌, ℕ, Bool, true, false, cond, nat_eq, List, [], ◌∷◌, ◌++◌, length, length-append, take, drop, map, Option, Some, None, refl, sym, ap, subst, ◌∙◌, arith}
use Rattle.std.proofs.lemmas.Bool.Decides.{nat_tests}
use Rattle.std.proofs.lemmas.List.{length-drop, take-append-drop}
use Rattle.flac_bits.specs.Bits.{unsigned, bits_of}
use Rattle.flac_bits.specs.State.{Mark, past, fresh}
use Rattle.flac_bits.specs.Layout.{Layout}
use Rattle.flac_bits.specs.Forms.{joined}
use Rattle.flac_bits.specs.Fence.{InRoom}
use Rattle.flac_bits.specs.Meaning.{Spells}
use Rattle.flac_bits.specs.Items.{Joined, state_after}
use Rattle.flac_bits.specs.declared.why.Why.TheVariants.{Truncated}
use Rattle.flac_bits.proofs.ItemSpellings.{fresh_unread, fresh_check8, fresh_check16, after_whole}
use Rattle.flac_bits.proofs.Words.{length-unsigned}
use Rattle.flac_bits.proofs.Holding.{length-bits_of, bits_of-append}
use Rattle.flac_bits.proofs.Back.{same_parts}
use Rattle.flac_info.specs.Info.{Info, KeepsRules}
use Rattle.flac_meta.specs.Valid.{IsBlock}
use Rattle.flac_meta.specs.declared.block.Seen.{Seen}
use Rattle.flac_meta.specs.declared.block.Block.{Block}
use Rattle.flac_meta.specs.declared.block.Block.TheVariants as blocks
use Rattle.flac_meta.proofs.Blocks.{blocks_spelled}
use Rattle.flac_header.specs.declared.subset.Profile.{Profile}
use Rattle.flac_frame.specs.Frame.{Frame}
use Rattle.flac_frame.specs.declared.before.Before.{Before}
use Rattle.flac_frame.proofs.FrameTie.{frames_spelled}
use Rattle.flac_native.specs.Decoding.{beginning}
use Rattle.flac_native.specs.Stream.{Piece, marked, Stand, Progress, opening, grammar, layout, layout_in, frame_after, next, stand_after, info_after, phase_after, raised, room_in}
use Rattle.flac_native.specs.declared.track.Phase.{Phase}
use Rattle.flac_native.specs.declared.track.Phase.TheVariants.{Opening, Blocks, Frames}
use Rattle.flac_native.proofs.Streams.{marker_here}
use Rattle.flac_ogg.specs.Mapping.{mapping, is_first_block, packet_layout}
use Rattle.flac_ogg.specs.Stream.{start, packet_start, AreItems}
use Rattle.flac_ogg.specs.Native.{native_text, OggStreamsAreStreams}

-- ---- one item, at another mark

-- after the marker, and what STREAMINFO tells keeps the rules
pub record Begun (s : Stand) : Type 0 where
  pub opened : s.phase ≢ Opening
  pub rules : (i : Info) → s.info ≡ Some i → KeepsRules i

-- at a whole byte where the checks begin
pub record AtByte (m : Mark) : Type 0 where
  pub unread : m.unread ≡ 0
  pub check8 : m.check8 ≡ 0
  pub check16 : m.check16 ≡ 0

pub at_fresh : (m : Mark) → m.unread ≡ 0 → AtByte (fresh m)
at_fresh m z = record { unread = fresh_unread m z; check8 = fresh_check8 m z; check16 = fresh_check16 m z }

-- What is spelled at one such mark is spelled at each. After it the rules are kept, and comes no first block.
pub record Moved (s : Stand) (m : Mark) (text : List Bool) (x : Piece) : Type 0 where
  pub spelled : Spells (layout s) m text x
  pub begun : Begun (stand_after s x)
  pub later : is_first_block (stand_after s x).phase (stand_after s x).index ≡ false

info_kept : (info : Option Info) (b : Block) → ((i : Info) → info ≡ Some i → KeepsRules i) → (seen : Seen) → IsBlock seen b → (i : Info) → info_after info b ≡ Some i → KeepsRules i
info_kept info (blocks.StreamInfo j) h seen is i e = let same : j ≡ i = cc in subst KeepsRules same is.fits.rules
info_kept info (blocks.Padding n) h seen is i e = h i e
info_kept info (blocks.Application id bytes) h seen is i e = h i e
info_kept info (blocks.SeekTable points) h seen is i e = h i e
info_kept info (blocks.VorbisComment found) h seen is i e = h i e
info_kept info (blocks.CueSheet found) h seen is i e = h i e
info_kept info (blocks.Picture found) h seen is i e = h i e
info_kept info (blocks.Other kind bytes) h seen is i e = h i e

not_opening : (last : Bool) → phase_after last ≢ Opening
not_opening true e = absurd cc
not_opening false e = absurd cc

not_zero : (n : ℕ) → nat_eq (raised n) 0 ≡ false
not_zero n = grind (arith, nat_tests)

pub after_block : (last : Bool) (n : ℕ) → is_first_block (phase_after last) (cond last 0 (raised n)) ≡ false
after_block true n = refl
after_block false n = not_zero n

frame_moved : (profile : Profile) (info : Option Info) (before : Option Before) (m k : Mark) (text : List Bool) (x : Frame) → ((i : Info) → info ≡ Some i → KeepsRules i) → AtByte m → AtByte k → Spells (frame_after profile info before) m text x → Spells (frame_after profile info before) k text x
unfolding frame_after
frame_moved profile None before m k text x h a b s = absurd s
frame_moved profile (Some i) before m k text x h a b s =
    let rules = h i refl in
    (frames_spelled profile i before k text x rules b.unread b.check8 b.check16).1 ((frames_spelled profile i before m text x rules a.unread a.check8 a.check16).0 s)

-- a block is spelled at any mark
pub moved : (s : Stand) (m k : Mark) (text : List Bool) (x : Piece) → Begun s → (s.phase ≡ Frames → AtByte m) → (s.phase ≡ Frames → AtByte k) → Spells (layout s) m text x → Moved s k text x
unfolding layout
moved s m k text x begun a b h = go s.phase refl h
  where
    go : (phase : Phase) → s.phase ≡ phase → Spells (layout_in phase s) m text x → Moved s k text x
    go Opening e h = absurd (begun.opened e)
    go Blocks e (y, front, rest, split, spelled, (none, same)) =
        let v = blocks_spelled s.seen m front y.0 y.1 in
        let is = v.0 spelled in
        let there = (blocks_spelled s.seen k front y.0 y.1).1 is in
        record {
          spelled = subst (λ (z : Phase). Spells (layout_in z s) k text x) (sym e) (y, front, rest, split, there, (none, same));
          begun = subst (λ z. Begun (stand_after s z)) same (record { opened = not_opening y.0; rules = info_kept s.info y.1 begun.rules s.seen is.0 });
          later = subst (λ z. is_first_block (stand_after s z).phase (stand_after s z).index ≡ false) same (after_block y.0 s.index);
        }
    go Frames e (f, front, rest, split, spelled, (none, same)) = record {
      spelled = subst (λ (z : Phase). Spells (layout_in z s) k text x) (sym e) (f, front, rest, split, frame_moved s.profile s.info s.before m k front f begun.rules (a e) (b e) spelled, (none, same));
      begun = subst (λ z. Begun (stand_after s z)) same (record { opened = λ o. begun.opened o; rules = begun.rules });
      later = subst (λ z. is_first_block (stand_after s z).phase (stand_after s z).index ≡ false) same (subst (λ z. is_first_block z (raised s.index) ≡ false) (sym e) refl);
    }

room_moved : (room : Option ℕ) (m k : Mark) (text : List Bool) → m.unread ≡ 0 → k.unread ≡ 0 → InRoom room m text → InRoom room k text
room_moved None m k text z y fits = tt
room_moved (Some n) m k text z y fits = omega (arith, z, y, fits)

-- ---- one packet

pub packet_at : AtByte (packet_start None)
packet_at = record { unread = refl; check8 = refl; check16 = refl }

pub later_layout : (s : Stand) → is_first_block s.phase s.index ≡ false → packet_layout s ≡ layout s
unfolding packet_layout
later_layout s e = rw e refl

pub bytes_whole : (packet : List ℕ) → length (bits_of packet) % 8 ≡ 0
bytes_whole packet = omega (arith, length-bits_of packet)

mapping_long : (m : Mark) (text : List Bool) → Spells mapping m text tt → length text ≡ 104
unfolding mapping
mapping_long m text (name, a, p, cut_a, (lt_a, is_a), (version, b, q, cut_b, (lt_b, is_b), (count, c, r, cut_c, (lt_c, is_c), (marker, d, s, cut_d, (lt_d, is_d), (none, kept))))) =
    omega (
      arith,
      ap (λ (k : List Bool). length k) cut_a,
      ap (λ (k : List Bool). length k) cut_b,
      ap (λ (k : List Bool). length k) cut_c,
      ap (λ (k : List Bool). length k) cut_d,
      length-append a p,
      length-append b q,
      length-append c r,
      length-append d s,
      ap (λ (k : List Bool). length k) is_a,
      ap (λ (k : List Bool). length k) is_b,
      ap (λ (k : List Bool). length k) is_c,
      ap (λ (k : List Bool). length k) is_d,
      ap (λ (k : List Bool). length k) none,
      length-unsigned 40 name,
      length-unsigned 16 version,
      length-unsigned 16 count,
      length-unsigned 32 marker,
    )

-- the bits after 13 bytes are those of the further bytes
pub after_mapping : (packet : List ℕ) (front rest : List Bool) → bits_of packet ≡ front ++ rest → length front ≡ 104 → rest ≡ bits_of (drop 13 packet)
after_mapping packet front rest split long =
    let parts : front ++ rest ≡ bits_of (take 13 packet) ++ bits_of (drop 13 packet) = sym split ∙ ap bits_of (sym (take-append-drop 13 packet)) ∙ bits_of-append (take 13 packet) (drop 13 packet) in
    let many : 13 ≤ length packet = omega (arith, length-bits_of packet, ap (λ (k : List Bool). length k) split, length-append front rest, long) in
    let short : length (bits_of (drop 13 packet)) ≡ length rest = omega (arith, length-bits_of packet, length-bits_of (drop 13 packet), ap (λ (k : List Bool). length k) split, length-append front rest, long, length-drop 13 packet) in
    (same_parts front rest (bits_of (take 13 packet)) (bits_of (drop 13 packet)) parts (sym short)).1

begun_at_start : (profile : Profile) → Begun (start profile).stand
begun_at_start profile = record { opened = λ e. absurd cc; rules = λ i e. absurd cc }

no_frames_yet : (profile : Profile) (m : Mark) → (start profile).stand.phase ≡ Frames → AtByte m
no_frames_yet profile m e = absurd cc

pub first_moved : (profile : Profile) (packet : List ℕ) (k : Mark) (x : Piece) → Spells (packet_layout (start profile).stand) (packet_start None) (bits_of packet) x → Moved (start profile).stand k (bits_of (drop 13 packet)) x
unfolding packet_layout
first_moved profile packet k x (u, front, rest, split, map, spelled) =
    let e = after_mapping packet front rest split (mapping_long (packet_start None) front map) in
    subst (λ t. Moved (start profile).stand k t x) e (moved (start profile).stand (past front (packet_start None)) k rest x (begun_at_start profile) (no_frames_yet profile (past front (packet_start None))) (no_frames_yet profile k) spelled)

-- ---- all of them

packets_join : (p : Progress) (m : Mark) (packets : List (List ℕ)) (items : List Piece) → Begun p.stand → is_first_block p.stand.phase p.stand.index ≡ false → m.unread ≡ 0 → AreItems p packets items → Joined grammar p m items (joined (map bits_of packets))
packets_join p m [] [] begun later z are = refl
packets_join p m [] (x ∷ xs) begun later z are = absurd are
packets_join p m (packet ∷ packets) [] begun later z are = absurd are
packets_join p m (packet ∷ packets) (x ∷ xs) begun later z (is, others) =
    let at = at_fresh m z in
    let here : Spells (layout p.stand) (packet_start None) (bits_of packet) x = subst (λ (l : Layout Piece). Spells l (packet_start None) (bits_of packet) x) (later_layout p.stand later) is.spelled in
    let there = moved p.stand (packet_start None) (fresh m) (bits_of packet) x begun (λ e. packet_at) (λ e. at) here in (
      bits_of packet,
      joined (map bits_of packets),
      refl,
      there.spelled,
      room_moved (room_in p.stand.phase) (packet_start None) (fresh m) (bits_of packet) refl at.unread is.fits,
      packets_join (next p x) (past (bits_of packet) (fresh m)) packets xs there.begun there.later (after_whole (bits_of packet) (fresh m) at.unread (bytes_whole packet)) others,
    )

all_join : (profile : Profile) (packets : List (List ℕ)) (items : List Piece) → grammar.may_end (state_after grammar (start profile) items) ≡ true → AreItems (start profile) packets items → Joined grammar (opening profile) (beginning Truncated) (marked ∷ items) (native_text packets)
all_join profile [] [] ends are = absurd cc
all_join profile [] (x ∷ xs) ends are = absurd are
all_join profile (packet ∷ packets) [] ends are = absurd are
all_join profile (packet ∷ packets) (x ∷ xs) ends (is, others) =
    let marker = unsigned 32 0x664C6143 in
    let m = past marker (fresh (beginning Truncated)) in
    let z : m.unread ≡ 0 = after_whole marker (fresh (beginning Truncated)) refl refl in
    let first = bits_of (drop 13 packet) in
    let rest = joined (map bits_of packets) in
    let there = first_moved profile packet (fresh m) x is.spelled in (
      marker,
      first ++ rest,
      refl,
      marker_here profile (fresh (beginning Truncated)),
      tt,
      (
        first,
        rest,
        refl,
        there.spelled,
        tt,
        packets_join (next (start profile) x) (past first (fresh m)) packets xs there.begun there.later (after_whole first (fresh m) (fresh_unread m z) (bytes_whole (drop 13 packet))) others,
      ),
    )

pub ogg_streams_are_streams : OggStreamsAreStreams
ogg_streams_are_streams profile mark items text o = record { spelled = all_join profile o.contents.packets items o.ends o.spelled; ends = o.ends; kept = o.kept }
