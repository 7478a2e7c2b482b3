-- What copying the frames of a stream does (RFC 9639, sections 9 and 10.1).
use Rattle.std.specs.Prelude.{◌≡◌, Bool, true, false, List, ◌++◌}
use Rattle.flac_bits.specs.Bits.{bits_of}
use Rattle.flac_bits.specs.Meaning.{AllKept}
use Rattle.flac_bits.specs.declared.source.Source as source
use Rattle.flac_bits.specs.declared.target.Target as target
use Rattle.flac_native.specs.Stream.{Progress, grammar}
use Rattle.flac_native.specs.Track.{IsAt}
use Rattle.flac_native.specs.declared.track.Track.{Track}
use Rattle.flac_copy.specs.Frames.{Copied}
use Rattle.flac_copy.specs.Inputs.{IsKnown, FramesCome}
use Rattle.flac_copy.specs.Outputs.{to_come, Finishes}
use Rattle.flac_copy.specs.declared.fault.CopyFault.{CopyFault}
use Rattle.flac_copy.specs.declared.fault.CopyFault.TheVariants.{Blocks}
use Rattle.flac_copy.specs.declared.input.Input.{Input}
use Rattle.flac_copy.specs.declared.output.Output.{Output}

-- it is that of the blocks that were given
abbrev pub is_of_blocks : CopyFault → Bool
is_of_blocks (Blocks why) = true
is_of_blocks other = false

-- what STREAMINFO states holds of all frames, and what is to be written after the last one was written
pub record EndsCopy {W : Type 0} (h : target.Ghosts W) (track : Track) (out : Output) (before after : W) : Type 0 where
  pub judged : (p : Progress) → IsAt track p → AllKept (grammar.at_end p)
  pub sent : Finishes h out before after

-- The stream has these frames left, and then its end; the target was sent what is to be written if these follow.
pub record CopiesAll {S W : Type 0} (g : source.Ghosts S) (h : target.Ghosts W) (p : Progress) (from : Input S) (out : Output) (before after : W) : Type 0 where
  pub frames : List Copied
  pub come : FramesCome g p from frames
  pub sent : bits_of (h.sent after) ≡ bits_of (h.sent before) ++ to_come out frames

-- the same if the bytes of the stream and of the target are known
abbrev pub CopiesFrames : {S W : Type 0} → source.Ghosts S → target.Ghosts W → Track → Input S → Output → (before after : W) → Type 0
CopiesFrames g h track from out before after = IsKnown g from → h.known before ≡ true → (p : Progress) → IsAt track p → CopiesAll g h p from out before after
