-- Which layout the next packet has, by where the track stands.
use Rattle.std.proofs.Common.{◌≡◌, ◌≢◌, ℕ, Bool, true, false, cond, Some, Result, refl, sym, subst}
use Rattle.flac_bits.specs.State.{State, started}
use Rattle.flac_bits.specs.Layout.{Layout, ◌>>=◌}
use Rattle.flac_bits.specs.Fencing.{lifted}
use Rattle.flac_bits.specs.Reading.{ReadsGivenMemory}
use Rattle.flac_bits.specs.declared.why.Why.{Why}
use Rattle.flac_native.specs.Stream.{Piece, Stand, layout, layout_in, room_in}
use Rattle.flac_bits.specs.Within.{ReadsWithin}
use Rattle.flac_bits.specs.inner.Within.{ReadsWithinGivenMemory}
use Rattle.flac_native.specs.declared.track.Phase.{Phase}
use Rattle.flac_native.specs.declared.track.Phase.TheVariants.{Opening, Blocks, Frames}
use Rattle.flac_ogg.specs.Mapping.{mapping, is_first_block, packet_layout}
use Rattle.flac_native.specs.Track.{is_after_blocks}
use Rattle.flac_ogg.specs.inner.Telling.{block_packet, first_packet}

-- the layout, by what comes next
abbrev layout_by : Bool → Phase → Stand → Layout Piece
layout_by b ph s = cond b (mapping >>= λ _. layout_in ph s) (layout_in ph s)

abbrev told_by : {X : Type 0} → (X → Piece) → Stand → State → State → Result X Why → Bool → Phase → Type 0
told_by view s old new result b ph = ReadsWithinGivenMemory (room_in ph) view (layout_by b ph s) old new result

as_packet : {X : Type 0} (view : X → Piece) (s : Stand) (old new : State) (result : Result X Why) (b : Bool) (ph : Phase) → s.phase ≡ ph → is_first_block s.phase s.index ≡ b → told_by view s old new result b ph
    → ReadsWithinGivenMemory (room_in s.phase) view (packet_layout s) old new result
unfolding packet_layout layout
as_packet view s old new result b ph is first h = subst (λ k. told_by view s old new result k s.phase) (sym first) (subst (told_by view s old new result b) (sym is) h)

frames_come : (ph : Phase) → is_after_blocks ph ≡ true → ph ≡ Frames
frames_come Opening e = absurd (two e)
  where
    two : false ≡ true → ⊥
    two e = absurd cc
frames_come Blocks e = absurd (two e)
  where
    two : false ≡ true → ⊥
    two e = absurd cc
frames_come Frames e = refl

blocks_come : (ph : Phase) → ph ≢ Opening → is_after_blocks ph ≡ false → ph ≡ Blocks
blocks_come Opening begun e = absurd (begun refl)
blocks_come Blocks begun e = refl
blocks_come Frames begun e = absurd (two e)
  where
    two : true ≡ false → ⊥
    two e = absurd cc

no_first : (ph : Phase) (i : ℕ) → ph ≡ Frames → is_first_block ph i ≡ false
no_first Frames i e = refl
no_first Opening i e = refl
no_first Blocks i e = absurd (differ e)
  where
    differ : Blocks ≡ Frames → ⊥
    differ e = absurd cc

pub frame_told : {X : Type 0} (view : X → Piece) (s : Stand) (old new : State) (result : Result X Why) → is_after_blocks s.phase ≡ true
    → ReadsWithin (Some 16777215) view (layout_in Frames s) old new result → ReadsWithinGivenMemory (room_in s.phase) view (packet_layout s) old new result
frame_told view s old new result after h = let is = frames_come s.phase after in as_packet view s old new result false Frames is (no_first s.phase s.index is) (λ room. h)

pub block_told : {X : Type 0} (view : X → Piece) (s : Stand) (old new : State) (result : Result X Why) → s.phase ≢ Opening → is_after_blocks s.phase ≡ false → is_first_block s.phase s.index ≡ false
    → ReadsGivenMemory view (block_packet s) (started (lifted old)) new result → ReadsWithinGivenMemory (room_in s.phase) view (packet_layout s) old new result
block_told view s old new result begun after first h = as_packet view s old new result false Blocks (blocks_come s.phase begun after) first h

pub first_told : {X : Type 0} (view : X → Piece) (s : Stand) (old new : State) (result : Result X Why) → s.phase ≢ Opening → is_after_blocks s.phase ≡ false → is_first_block s.phase s.index ≡ true
    → ReadsGivenMemory view (first_packet s) (started (lifted old)) new result → ReadsWithinGivenMemory (room_in s.phase) view (packet_layout s) old new result
first_told view s old new result begun after first h = as_packet view s old new result true Blocks (blocks_come s.phase begun after) first h
