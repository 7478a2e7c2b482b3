-- A device that is moved, and what a reader over it finds.
use Rattle.std.specs.Prelude.{◌≡◌, ◌⊎◌, ℕ, true, cond, is_some, List, [], take, Option, Some, IfSome, unwrap_or}
use Rattle.std.specs.Io.KnownBytes.{Keeps}
use Rattle.std.specs.Io.Seek.{StaysAt}
use Rattle.std.specs.declared.io.traits.Read as read
use Rattle.std.specs.declared.io.traits.Seek as seek
use Rattle.flac_bits.specs.State.{the_end}
use Rattle.flac_bits.specs.Handing.{InputReading}
use Rattle.flac_bits.specs.declared.why.Why.TheVariants.{Memory, Read}
use Rattle.flac_info.specs.Info.{Info}
use Rattle.flac_header.specs.declared.subset.Profile.{Profile}
use Rattle.flac_native.specs.Stream.{Piece}
use Rattle.flac_native.specs.declared.fault.Place.{Place}
use Rattle.flac_native.specs.declared.fault.Place.TheVariants as place
use Rattle.flac_native.specs.declared.fault.Fault.{Fault}
use Rattle.flac_native.specs.declared.fault.Refused.{Refused}
use Rattle.flac_native.specs.declared.container.Container as container
use Rattle.flac_reader.specs.Inputs.{frame_input}
use Rattle.flac_reader.specs.Opening.{IsOver}
use Rattle.flac_reader.specs.Seeking.{search_offset, Sought, RefusesSeek}
use Rattle.flac_reader.specs.declared.reader.Reader.{Reader}
use Rattle.flac_reader.specs.declared.returned.Returned.{Returned}

-- ---- moving

-- A device was moved so that its byte of this number is the next, and keeps its bytes; if its position or its bytes are
-- not known, this says nothing of them.
pub record IsMoved {T : Type 0} (s : seek.Ghosts T) (old new : T) (at : ℕ) : Type 0 where
  pub there : IfSome (s.stream_position old) (λ _. s.stream_position new ≡ Some at)
  pub kept : Keeps (s.stream_bytes old) (s.stream_bytes new)

-- The device could not be moved. It is returned where it was, with its bytes, and with the error that it returned.
pub record IsNotMoved {T : Type 0} (s : seek.Ghosts T) (device : T) (left : Returned T) : Type 0 where
  pub stays : StaysAt (s.stream_position device) (s.stream_position left.device)
  pub kept : Keeps (s.stream_bytes device) (s.stream_bytes left.device)
  pub asked : is_some left.last ≡ true

-- the fault then
abbrev pub not_moved : Fault
not_moved = record { at = place.Frame 0; why = Read }

-- ---- reading from there on

-- the bytes that a reader takes of a device, of those that it still has: 2^64 - 1 at most
abbrev pub bytes_to_come : Option (List ℕ) → List ℕ
bytes_to_come remaining = take 18446744073709551615 (unwrap_or remaining [])

-- read from the state in which a frame comes
abbrev pub read_resumed : Profile → Info → Option (List ℕ) → InputReading Piece Place
read_resumed profile info remaining = frame_input profile info (bytes_to_come remaining) the_end

-- how many errors a device that was returned has at least
abbrev pub error_count : {T : Type 0} → Returned T → ℕ
error_count left = cond (is_some left.last) 1 0

-- The device was moved to this byte, and a reader of what it has from there on finds the frame.
pub record FindsMoved {T C : Type 0} {g : container.Ghosts C} (s : seek.Ghosts T) (r : read.Ghosts T) (device : T) (at : ℕ) (profile : Profile) (info : Info) (sample : ℕ) (reader : Reader C g) : Type 0 where
  pub moved : T
  pub there : IsMoved s device moved at
  pub over : IsOver (is_some (r.remaining moved)) 0 0 [] reader
  pub sought : is_some (r.remaining moved) ≡ true → Sought info sample (read_resumed profile info (r.remaining moved)) reader

-- The device was moved there, and what it has from there on is refused; or it returned an error, or memory ran out.
-- Its bytes are still known in the last case, if they were.
pub record RefusesMoved {T : Type 0} (s : seek.Ghosts T) (r : read.Ghosts T) (device : T) (at : ℕ) (profile : Profile) (info : Info) (sample : ℕ) (x : Refused (Returned T)) : Type 0 where
  pub moved : T
  pub there : IsMoved s device moved at
  pub refuses : RefusesSeek info sample (read_resumed profile info (r.remaining moved)) (is_some (r.remaining moved)) 0 0 (error_count x.left) (error_count x.left) x.fault
  pub known : x.fault.why ≡ Memory → is_some (r.remaining moved) ≡ true → is_some (r.remaining x.left.device) ≡ true

-- ---- a reader that seeks a sample in a device

-- the device was moved to where the search begins, and the frame is found
abbrev pub FindsDevice : {T C D : Type 0} {g : container.Ghosts C} {h : container.Ghosts D} → seek.Ghosts T → read.Ghosts T → Reader C g → T → Profile → (sample : ℕ) → Reader D h → Type 0
FindsDevice s r from device profile sample reader = FindsMoved s r device (search_offset from sample) profile from.info sample reader

-- the device could not be moved there, or what it has from there on is refused
abbrev pub RefusesDevice : {T C : Type 0} {g : container.Ghosts C} → seek.Ghosts T → read.Ghosts T → Reader C g → T → Profile → (sample : ℕ) → Refused (Returned T) → Type 0
RefusesDevice s r from device profile sample x = ((x.fault ≡ not_moved) × IsNotMoved s device x.left) ⊎ RefusesMoved s r device (search_offset from sample) profile from.info sample x
