-- From any whole byte on, bits are the same parts: it does not matter how many bytes came before.
use Rattle.std.proofs.Common.{◌≡◌, List, [], ◌∷◌, Bool, refl, sym, subst, arith}
use Rattle.flac_bits.specs.State.{Mark, past, fresh}
use Rattle.flac_bits.specs.Meaning.{Spells}
use Rattle.flac_bits.specs.Fence.{InRoom}
use Rattle.flac_bits.specs.Items.{Joined, Stream}
use Rattle.flac_bits.proofs.ItemSpellings.{fresh_unread, fresh_check8, fresh_check16, after_whole}
use Rattle.flac_meta.proofs.Blocks.{blocks_spelled}
use Rattle.flac_header.specs.declared.subset.Profile.{Profile}
use Rattle.flac_frame.proofs.FrameTie.{frames_spelled}
use Rattle.flac_native.specs.Stream.{Piece, Stand, Progress, grammar, opening, next, layout, layout_in, marker, room_in}
use Rattle.flac_native.specs.declared.track.Phase.{Phase}
use Rattle.flac_native.specs.declared.track.Phase.TheVariants.{Opening, Blocks, Frames}
use Rattle.flac_native.proofs.Onwards.{Told, nothing_told, step_of, frame_there, as_part}

-- ---- one part

marker_any : (s : Stand) (m k : Mark) (text : List Bool) (x : Piece) → Spells (layout_in Opening s) m text x → Spells (layout_in Opening s) k text x
unfolding marker
marker_any s m k text x h = h

block_any : (s : Stand) (m k : Mark) (text : List Bool) (x : Piece) → Spells (layout_in Blocks s) m text x → Spells (layout_in Blocks s) k text x
block_any s m k text x (y, front, rest, split, spelled, end) =
    (y, front, rest, split, (blocks_spelled s.seen k front y.0 y.1).1 ((blocks_spelled s.seen m front y.0 y.1).0 spelled), end)

part_any : (s : Stand) (m k : Mark) (text : List Bool) (x : Piece) → Told s.info → m.unread ≡ 0 → k.unread ≡ 0 → Spells (layout s) (fresh m) text x → Spells (layout s) (fresh k) text x
unfolding layout
part_any s m k text x told u z h = go s.phase refl
  where
    go : (phase : Phase) → s.phase ≡ phase → Spells (layout s) (fresh k) text x
    go Opening e = subst (λ q. Spells (layout_in q s) (fresh k) text x) (sym e) (marker_any s (fresh m) (fresh k) text x (subst (λ q. Spells (layout_in q s) (fresh m) text x) e h))
    go Blocks e = subst (λ q. Spells (layout_in q s) (fresh k) text x) (sym e) (block_any s (fresh m) (fresh k) text x (subst (λ q. Spells (layout_in q s) (fresh m) text x) e h))
    go Frames e =
        let t = frame_there s (fresh m) text x e h in
        let rules = told t.info t.told in
        let here = (frames_spelled s.profile t.info s.before (fresh m) text t.is rules (fresh_unread m u) (fresh_check8 m u) (fresh_check16 m u)).0 t.spelled in
        let there = (frames_spelled s.profile t.info s.before (fresh k) text t.is rules (fresh_unread k z) (fresh_check8 k z) (fresh_check16 k z)).1 here in
        subst (λ y. Spells (layout s) (fresh k) text y) (sym t.part) (as_part s t.info (fresh k) text t.is e t.told there)

room_any : (phase : Phase) (m k : Mark) (text : List Bool) → m.unread ≡ 0 → k.unread ≡ 0 → InRoom (room_in phase) m text → InRoom (room_in phase) k text
room_any Opening m k text u z h = tt
room_any Blocks m k text u z h = tt
room_any Frames m k text u z h = omega (arith, u, z, h)

-- ---- all parts

pub any_mark : (p : Progress) (m k : Mark) (items : List Piece) (text : List Bool) → Told p.stand.info → m.unread ≡ 0 → k.unread ≡ 0 → Joined grammar p m items text → Joined grammar p k items text
any_mark p m k [] text told u z j = j
any_mark p m k (x ∷ xs) text told u z (front, rest, split, spelled, fits, others) =
    let s = step_of p.stand m front x told u spelled in
    let more = any_mark (next p x) (past front (fresh m)) (past front (fresh k)) xs rest s.rules (after_whole front (fresh m) (fresh_unread m u) s.whole) (after_whole front (fresh k) (fresh_unread k z) s.whole) others in
    (front, rest, split, part_any p.stand m k front x told u z spelled, room_any p.stand.phase (fresh m) (fresh k) front (fresh_unread m u) (fresh_unread k z) fits, more)

pub stream_any : (profile : Profile) (m k : Mark) (items : List Piece) (text : List Bool) → m.unread ≡ 0 → k.unread ≡ 0 → Stream grammar (opening profile) m items text → Stream grammar (opening profile) k items text
stream_any profile m k items text u z s = record { spelled = any_mark (opening profile) m k items text nothing_told u z s.spelled; ends = s.ends; kept = s.kept }
