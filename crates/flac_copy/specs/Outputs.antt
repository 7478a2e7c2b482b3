-- Streams whose metadata was written, and after it frames.
use Rattle.std.specs.Prelude.{◌≡◌, ℕ, Bool, true, List, [], ◌∷◌, ◌++◌}
use Rattle.flac_bits.specs.Bits.{bits_of}
use Rattle.flac_bits.specs.declared.target.Target as target
use Rattle.flac_frame.specs.Frame.{Frame}
use Rattle.flac_copy.specs.Frames.{Copied}
use Rattle.flac_copy.specs.Inputs.{bytes_in}
use Rattle.flac_copy.specs.Outgoing.{pending_in, pages_to_come}
use Rattle.flac_copy.specs.declared.output.Output.{Output}
use Rattle.flac_copy.specs.declared.output.Output.TheVariants.{Native, Ogg}

-- what is still to be written, if these frames follow, and no others
abbrev pub to_come : Output → List Copied → List Bool
to_come Native frames = bits_of (bytes_in frames)
to_come (Ogg o) frames = pages_to_come (pending_in o) frames

-- If the target is known: a frame of this size was written, or is held back; whatever frames follow, the same will have
-- been written in the end.
abbrev pub Puts : {W : Type 0} → target.Ghosts W → (old new : Output) → List ℕ → (count : ℕ) → (before after : W) → Type 0
Puts h old new bytes count before after =
    h.known before ≡ true → (h.known after ≡ true) × ((f : Frame) (frames : List Copied) → count ≡ f.size
    → bits_of (h.sent after) ++ to_come new frames ≡ bits_of (h.sent before) ++ to_come old (record { bytes = bytes; frame = f } ∷ frames))

-- if the target is known: what is to be written after the last frame was written
abbrev pub Finishes : {W : Type 0} → target.Ghosts W → Output → (before after : W) → Type 0
Finishes h out before after = h.known before ≡ true → bits_of (h.sent after) ≡ bits_of (h.sent before) ++ to_come out []
