-- An Ogg stream that is written packet by packet (RFC 9639, section 10.1; RFC 3533, section 6).
use Rattle.std.specs.Prelude.{ℕ, ◌+◌, ◌-◌, ◌^◌, min, Bool, true, false, List, [], ◌∷◌, ◌++◌}
use Rattle.flac_bits.specs.Bits.{bits_of}
use Rattle.flac_pages.specs.declared.writing.PacketKind.TheVariants as kind_of
use Rattle.flac_pages.specs.Placed.{Placed, marks_of, sequence_after}
use Rattle.flac_pages.specs.Written.{packet_spelling}
use Rattle.flac_copy.specs.Frames.{Copied}
use Rattle.flac_copy.specs.declared.outgoing.Outgoing.{Outgoing}

-- What the packets so far leave to be written: the pages of the last packet, as they are if more packets follow, and as
-- they are if the stream ends. With it go the number of the page after them, and the number of samples so far.
pub record Pending : Type 0 where
  pub serial : ℕ
  pub middle : List Bool
  pub last : List Bool
  pub next : ℕ
  pub samples : ℕ

abbrev pub pending_in : Outgoing → Pending
pending_in o = record { serial = o.serial; middle = bits_of o.held.middle.items; last = bits_of o.held.last.items; next = o.held.next; samples = o.samples }

-- the number of samples so far after a frame of so many, which stops at 2^64 - 1
abbrev pub samples_after : (samples count : ℕ) → ℕ
samples_after samples count = min (samples + count) (2 ^ 64 - 1)

-- the packet of a frame, whose last page has the number of samples so far (RFC 9639, section 10.1)
abbrev pub frame_placed : (samples : ℕ) → List ℕ → (count : ℕ) → Placed
frame_placed samples bytes count = record { packet = bytes; kind = kind_of.Frame (samples_after samples count) }

-- the packets of frames
abbrev pub frames_placed : (samples : ℕ) → List Copied → List Placed
frames_placed samples [] = []
frames_placed samples (x ∷ xs) = frame_placed samples x.bytes x.frame.size ∷ frames_placed (samples_after samples x.frame.size) xs

-- after the packet of a frame
abbrev pub after_frame : Pending → List ℕ → (count : ℕ) → Pending
after_frame o bytes count = record {
  serial = o.serial;
  middle = packet_spelling (marks_of o.serial o.next false false (frame_placed o.samples bytes count)) bytes;
  last = packet_spelling (marks_of o.serial o.next false true (frame_placed o.samples bytes count)) bytes;
  next = sequence_after o.next bytes;
  samples = samples_after o.samples count;
}

-- what is still to be written, if these frames follow, and no others
abbrev pub pages_to_come : Pending → List Copied → List Bool
pages_to_come o [] = o.last
pages_to_come o (x ∷ xs) = o.middle ++ pages_to_come (after_frame o x.bytes x.frame.size) xs
