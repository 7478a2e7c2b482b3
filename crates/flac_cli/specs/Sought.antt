-- What `flac decode` writes with `--from` if it reads a native stream from a frame before the part on.
use Rattle.std.specs.Prelude.{◌≡◌, ◌≤◌, ◌<◌, ◌^◌, ℕ, ℤ, ◌+◌, ◌-◌, Bool, true, List, [], ◌∷◌, ◌++◌, length, drop, is_some, option_map, Option, Some, None, ⊤}
use Rattle.std.specs.declared.io.traits.Read as read
use Rattle.std.specs.declared.io.traits.Seek as seek
use Rattle.flac_bits.specs.State.{the_end}
use Rattle.flac_bits.specs.declared.target.Target as target
use Rattle.flac_bits.specs.declared.why.Why.{Why}
use Rattle.flac_info.specs.Info.{Info}
use Rattle.flac_meta.specs.declared.block.Block.{Block}
use Rattle.flac_meta.specs.declared.comments.Comments.{Comments}
use Rattle.flac_frame.specs.Frame.{Frame, first_sample}
use Rattle.flac_native.specs.declared.fault.Place.{Place}
use Rattle.flac_reader.specs.Kept.{first_info, first_comments}
use Rattle.flac_reader.specs.Moved.{IsMoved, bytes_to_come, read_resumed}
use Rattle.flac_reader.specs.Opening.{IsReadAs, OfInput, OfFrames}
use Rattle.flac_reader.specs.Seeking.{holds, PassedBy, Cuts}
use Rattle.flac_compare.specs.Samples.{samples_of}
use Rattle.flac_cli.specs.Excerpts.{part_of, last_of, file_text, stated_length, range_fault, IsWholeFor, start_of, stop_of, excerpt_input, HasDecoded}
use Rattle.flac_cli.specs.Streams.{profile_of}
use Rattle.flac_jobs.specs.declared.excerpts.Excerpt.{Excerpt}

-- ---- a part of the samples from one on

-- of samples that begin with the one of the number `first`
abbrev pub part_after : (first from : ℕ) (to : Option ℕ) → List (List ℤ) → List (List ℤ)
part_after first from to rows = part_of (from - first) (option_map (λ n. n - first) to) rows

-- Exactly the file of a part was added, of a stream with this STREAMINFO and these comments, which from the sample of the
-- number `first` on has these inter-channel samples, and then this end.
pub record IsPartAfter (wave : Bool) (info : Info) (comments : Option Comments) (first from : ℕ) (to : Option ℕ) (rows : List (List ℤ)) (end : Option (Place × Why)) (before after : List ℕ) : Type 0 where
  pub right : range_fault from to info.total ≡ None
  pub enough : last_of from to ≤ first + length rows
  pub whole : IsWholeFor to end
  pub written : after ≡ before ++ file_text wave info comments (stated_length from to info.total) (part_after first from to rows)

-- Of these frames the part was taken: from the first on that holds its first sample, by the frames' numbers (RFC 9639,
-- section 9.1.5).
pub record TakesFrames (e : Excerpt) (info : Info) (comments : Option Comments) (frames : List Frame) (end : Option (Place × Why)) (before after : List ℕ) : Type 0 where
  pub passed : List Frame
  pub found : Frame
  pub more : List Frame
  pub split : frames ≡ passed ++ (found ∷ more)
  pub by : PassedBy info (start_of e.from info) passed
  pub held : holds info (start_of e.from info) found ≡ true
  pub part : IsPartAfter e.wave info comments (first_sample info.greatest_block found) (start_of e.from info) (stop_of e.to info) (samples_of (found ∷ more)) end before after

-- ---- a device

-- The device was moved to one of its bytes. If its bytes from there on are known, and are read as these frames of the stream
-- that it has from its first byte on, the part was taken of them.
pub record TakesFrom {T : Type 0} (s : seek.Ghosts T) (d : read.Ghosts T) (e : Excerpt) (device : T) (before after : List ℕ) : Type 0 where
  pub at : ℕ
  pub moved : T
  pub there : IsMoved s device moved at
  pub takes : is_some (d.remaining moved) ≡ true → OfInput (excerpt_input e (bytes_to_come (d.remaining device)) the_end) (λ blocks frames end.
      (info : Info) × (first_info blocks ≡ Some info) × OfFrames (read_resumed (profile_of e.lax) info (d.remaining moved)) (λ later last. TakesFrames e info (first_comments blocks) later last before after))

-- the same if the bytes of the device, and those of the target, are known
abbrev pub HasSought : {T W : Type 0} → seek.Ghosts T → read.Ghosts T → target.Ghosts W → Excerpt → T → (old new : W) → Type 0
HasSought s d h e device old new = is_some (d.remaining device) ≡ true → h.known old ≡ true → TakesFrom s d e device (h.sent old) (h.sent new)

-- ---- a whole stream

-- The first of these frames begins with the sample of the number n, by its own number, and each later one with the sample
-- after those before it (RFC 9639, section 9.1.5).
abbrev pub AreNumbered : Info → (n : ℕ) → List Frame → Type 0
AreNumbered info n [] = ⊤
AreNumbered info n (f ∷ fs) = (first_sample info.greatest_block f ≡ n) × AreNumbered info (n + f.size) fs

-- What was taken is the part of the stream, as if it had been decoded from its beginning: if the bytes are a native stream
-- that is cut where they were read on, and its frames are numbered from 0 on.
abbrev pub SoughtIsPart : Type 0
SoughtIsPart = (e : Excerpt) (stream : List ℕ) (at : ℕ) (blocks : List Block) (front later : List Frame) (info : Info) (before after : List ℕ) → length stream < 2 ^ 64
    → IsReadAs (excerpt_input e stream the_end) blocks (front ++ later) None → first_info blocks ≡ Some info → Cuts (profile_of e.lax) stream info at later → AreNumbered info 0 (front ++ later)
    → OfFrames (read_resumed (profile_of e.lax) info (Some (drop at stream))) (λ frames end. TakesFrames e info (first_comments blocks) frames end before after) → HasDecoded e (excerpt_input e stream the_end) before after
