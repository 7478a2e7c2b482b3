-- For proofs of encoding a stream anew: what is held of it while it is read, and what is made of that.
use Rattle.std.specs.Prelude.{◌≡◌, ◌⊎◌, ℕ, ℤ, List, [], ◌∷◌, ◌++◌, map, replicate, option_map, Option, Some, None}
use Rattle.flac_bits.specs.State.{After}
use Rattle.flac_info.specs.Info.{Info}
use Rattle.flac_meta.specs.declared.block.Block.{Block}
use Rattle.flac_meta.specs.declared.block.Block.TheVariants as block_of
use Rattle.flac_header.specs.declared.subset.Profile.TheVariants.{Lax}
use Rattle.flac_frame.specs.Audio.{Sound}
use Rattle.flac_frame.specs.Frame.{Frame}
use Rattle.flac_native.specs.Given.{Cut, plan_fault}
use Rattle.flac_native.specs.Item.{Item, metadata, frame}
use Rattle.flac_native.specs.Stream.{Piece}
use Rattle.flac_native.specs.declared.fault.Fault.{Fault}
use Rattle.flac_subframe.specs.declared.format.linear.LinearPredictor.{LinearPredictor}
use Rattle.flac_cli.specs.Asked.{Asked}
use Rattle.flac_cli.specs.Encoded.{cut_as}
use Rattle.flac_cli.specs.Outcomes.{input_reading}
use Rattle.flac_cli.specs.Recoded.{extended, carried, blocks_in, sound_of, heard_in, IsStreamOf}
use Rattle.flac_cli.specs.RecodeRefusals.{held_refusal}
use Rattle.flac_cli.specs.Refusals.{stream_fault, IsOutside}
use Rattle.flac_cli.specs.declared.encode.Refusal.{Refusal}
use Rattle.flac_cli.specs.declared.encode.Refusal.TheVariants.{Output}
use Rattle.flac_cli.specs.declared.held_stream.HeldStream.{HeldStream}

-- STREAMINFO, once it came, the blocks that are kept, and the samples of each channel
pub record Held : Type 0 where
  pub info : Option Info
  pub blocks : List Block
  pub channels : List (List ℤ)

abbrev pub view_of : HeldStream → Held
view_of h = record { info = h.info; blocks = h.blocks.items; channels = map (λ c. c.items) h.channels.items }

-- nothing came
abbrev pub nothing : Held
nothing = record { info = None; blocks = []; channels = [] }

-- the first STREAMINFO counts
abbrev pub with_info : Held → Option Info → Info → Held
with_info h None i = record h { info = Some i; channels = replicate i.channels [] }
with_info h (Some other) i = h

abbrev pub with_block : Held → Block → Held
with_block h (block_of.StreamInfo i) = with_info h h.info i
with_block h other = record h { blocks = h.blocks ++ carried (other ∷ []) }

abbrev pub held_after : Held → Item → Held
held_after h (metadata b) = with_block h b
held_after h (frame f) = record h { channels = extended h.channels f.channels }

-- This is held of a stream with this STREAMINFO, these blocks after it, and these channels of samples.
pub record IsHeld (h : Held) (info : Info) (list : List Block) (channels : List (List ℤ)) : Type 0 where
  pub stated : h.info ≡ Some info
  pub kept : h.blocks ≡ carried list
  pub heard : h.channels ≡ channels

-- These are its samples, how they are divided into frames, and the blocks of the new stream. Only the container can be
-- a reason to refuse them.
pub record IsReady (asked : Asked) (ps : List LinearPredictor) (info : Info) (list : List Block) (channels : List (List ℤ)) (plan : Cut) (blocks : List Block) (audio : Sound) : Type 0 where
  pub sound : audio ≡ sound_of asked.profile info channels
  pub cut : plan ≡ cut_as asked audio ps
  pub listed : blocks ≡ blocks_in asked.container list
  pub good : plan_fault plan ≡ None
  pub refusal : held_refusal asked ps info list channels ≡ option_map Output (stream_fault asked.container plan blocks)

-- these bytes are a stream, and this is held of it
abbrev pub HoldsStream : (bytes : List ℕ) → After → Held → Type 0
HoldsStream bytes follows h =
    (info : Info) × (list : List Block) × (frames : List Frame) × IsStreamOf bytes follows info list frames × IsHeld h info list (heard_in info frames)

-- these bytes are a stream, and this is ready of it
abbrev pub IsReadyIn : Asked → (ps : List LinearPredictor) → (bytes : List ℕ) → After → (plan : Cut) → (blocks : List Block) → (audio : Sound) → Type 0
IsReadyIn asked ps bytes follows plan blocks audio =
    (info : Info) × (list : List Block) × (frames : List Frame) × IsStreamOf bytes follows info list frames × IsReady asked ps info list (heard_in info frames) plan blocks audio

-- of which stream it is held, of that this is ready
abbrev pub IsReadyOf : Asked → (ps : List LinearPredictor) → Held → (plan : Cut) → (blocks : List Block) → (audio : Sound) → Type 0
IsReadyOf asked ps h plan blocks audio =
    (info : Info) (list : List Block) (channels : List (List ℤ)) → IsHeld h info list channels → IsReady asked ps info list channels plan blocks audio

-- of which stream it is held, this is the reason to refuse that, or something outside failed
abbrev pub IsHeldReason : Asked → (ps : List LinearPredictor) → Held → Refusal → Type 0
IsHeldReason asked ps h e =
    (info : Info) (list : List Block) (channels : List (List ℤ)) → IsHeld h info list channels → IsOutside e ⊎ (held_refusal asked ps info list channels ≡ Some e)

-- the bytes are refused at the place of this fault, for its reason
abbrev pub IsFaultOf : (bytes : List ℕ) → After → Fault → Type 0
IsFaultOf bytes follows fault = (items : List Piece) × (input_reading Lax bytes follows).refused items fault.at fault.why
