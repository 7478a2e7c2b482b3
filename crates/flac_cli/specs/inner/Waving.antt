-- For the proof of writing a WAV file item by item: what is held of it, and what each item adds.
use Rattle.std.specs.Prelude.{◌≤◌, ◌<◌, ℕ, ◌+◌, ◌*◌, ◌-◌, ◌%◌, Bool, true, false, ◌&&◌, cond, nat_lt, nat_eq, List, [], ◌∷◌, ◌++◌, length, take, drop, Option, Some, None, is_none}
use Rattle.flac_meta.specs.declared.block.Block.{Block}
use Rattle.flac_meta.specs.declared.block.Block.TheVariants as block_of
use Rattle.flac_frame.specs.Frame.{Frame}
use Rattle.flac_native.specs.Item.{Item, metadata, frame}
use Rattle.flac_native.specs.Samples.{frame_bytes}
use Rattle.flac_wave.specs.Kept.{bits_after, begins_file}
use Rattle.flac_wave.specs.Plain.{plain_format}
use Rattle.flac_wave.specs.Wave.{is_head, all_of, begins_empty}
use Rattle.flac_cli.specs.Speakers.{mask_in}
use Rattle.flac_cli.specs.Waves.{Plain, plain_with, no_plain, is_riff, file_samples, piece_fault, wave_width_by}
use Rattle.flac_cli.specs.declared.held_wave.KeptFault.{KeptFault}

-- the pieces so far; how many there are up to the header of the samples, 0 before it came; the bits of a sample that
-- the pieces before it state; a plain file, and how many of its pieces come before the samples; the depth; whether a
-- frame came; whether the bytes of the samples so far are of odd number: 1 or 0
pub record Held : Type 0 where
  pub pieces : List (List ℕ)
  pub head : ℕ
  pub bits : ℕ
  pub plain : Plain
  pub cut : ℕ
  pub depth : ℕ
  pub begun : Bool
  pub odd : ℕ

abbrev pub nothing_held : Held
nothing_held = record { pieces = []; head = 0; bits = 0; plain = no_plain; cut = 0; depth = 0; begun = false; odd = 0 }

-- with one more piece
abbrev pub with_piece : Held → List ℕ → Held
with_piece s p = record {
  pieces = s.pieces ++ p ∷ [];
  head = cond (nat_eq s.head 0 && is_head p) (length s.pieces + 1) s.head;
  bits = cond (nat_eq s.head 0) (cond (is_head p) s.bits (bits_after s.bits p)) s.bits;
  plain = s.plain;
  cut = s.cut;
  depth = s.depth;
  begun = s.begun;
  odd = s.odd;
}

-- with this plain file, of whose pieces the last is none before the samples if their number is unknown
abbrev pub with_plain : Held → Plain → (depth : ℕ) → Held
with_plain s plain depth = record {
  pieces = s.pieces;
  head = s.head;
  bits = s.bits;
  plain = plain;
  cut = length plain.made - cond (nat_eq plain.total 0) 1 0;
  depth = depth;
  begun = s.begun;
  odd = s.odd;
}

abbrev pub with_info : Held → (rate channels depth total : ℕ) → Held
with_info s rate channels depth total = with_plain s (plain_with (plain_format rate channels depth) total) depth

-- for these speakers, if there are some
abbrev pub with_speakers : Held → (mask : Option ℕ) → Held
with_speakers s None = s
with_speakers s (Some m) = with_plain s (plain_with (record s.plain.form { mask = Some m }) s.plain.total) s.depth

abbrev pub with_block : Held → Block → Held
with_block s (block_of.StreamInfo info) = with_info s info.rate info.channels info.depth info.total
with_block s (block_of.VorbisComment comments) = with_speakers s (mask_in comments.list)
with_block s (block_of.Application id bytes) = cond (is_riff id) (with_piece s bytes) s
with_block s other = s

-- after samples of the file of this number of bytes
abbrev pub with_samples : Held → ℕ → Held
with_samples s n = record { pieces = s.pieces; head = s.head; bits = s.bits; plain = s.plain; cut = s.cut; depth = s.depth; begun = true; odd = (s.odd + n) % 2 }

-- after samples that are not written
abbrev pub with_begun : Held → Held
with_begun s = record { pieces = s.pieces; head = s.head; bits = s.bits; plain = s.plain; cut = s.cut; depth = s.depth; begun = true; odd = s.odd }

-- the pieces so far make a WAV file again
abbrev pub is_kept : Held → Bool
is_kept s = nat_lt 0 s.head && (begins_file s.pieces && nat_lt 0 s.bits)

-- why there is no WAV file of samples of this depth, after the pieces so far
abbrev pub held_fault : Held → Option KeptFault
held_fault s = piece_fault (is_kept s) s.bits s.depth

-- how many bytes a sample of the file has
abbrev pub held_wave_width : Held → ℕ
held_wave_width s = wave_width_by (is_kept s) s.bits s.depth

-- samples of this depth have room in n bytes, of which there are 4 at most; none have some
pub record Holds (wide depth : ℕ) : Type 0 where
  pub few : wide ≤ 4
  pub room : depth ≤ 8 * wide
  pub some : 0 < wide → 0 < depth

-- the samples of a frame, as those of a file with `wide` bytes a sample
abbrev pub frame_samples : (wide depth : ℕ) → Frame → List ℕ
frame_samples wide depth f = file_samples wide depth (frame_bytes 0 depth f)

-- the same, as those of this file
abbrev pub frame_text : Held → Frame → List ℕ
frame_text s f = file_samples (held_wave_width s) s.depth (frame_bytes 0 s.depth f)

-- then no samples are written
abbrev pub writes : Held → Bool
writes s = is_none (held_fault s)

abbrev pub with_frame : (writes : Bool) → Held → ℕ → Held
with_frame true s n = with_samples s n
with_frame false s n = with_begun s

-- after a block; one after a frame changes nothing: no stream has one
abbrev pub held_after : Held → Item → Held
held_after s (metadata b) = cond s.begun s (with_block s b)
held_after s (frame f) = with_frame (writes s) s (length (frame_text s f))

-- the pieces before the samples, and after them: of the file that is kept, if they make one, else of a plain one
abbrev pub front_pieces : Held → List (List ℕ)
front_pieces s = cond (is_kept s) (take s.head s.pieces) (take s.cut s.plain.made)

abbrev pub back_pieces : Held → List (List ℕ)
back_pieces s = cond (is_kept s) (drop s.head s.pieces) (drop s.cut s.plain.made)

-- those before the samples, if no samples came
abbrev pub front_left : Held → List ℕ
front_left s = cond s.begun [] (all_of (front_pieces s))

-- what an item adds to the file
abbrev pub adds : Held → Item → List ℕ
adds s (metadata b) = []
adds s (frame f) = cond (writes s) (front_left s ++ frame_text s f) []

-- what follows all samples
abbrev pub end_pad : (odd : ℕ) (pieces : List (List ℕ)) → List ℕ
end_pad odd pieces = cond (nat_eq odd 0) [] (cond (begins_empty pieces) [] (0 ∷ []))

abbrev pub ending : Held → List ℕ
ending s = front_left s ++ (end_pad s.odd (back_pieces s) ++ all_of (back_pieces s))
