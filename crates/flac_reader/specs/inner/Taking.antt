-- For proofs of reading metadata: what a call does that reads one item of it.
use Rattle.std.specs.Prelude.{◌≡◌, ℕ, Bool, true, false, List, [], ◌∷◌, ◌++◌, filter, Option, Some, Result, Ok, Err}
use Rattle.flac_bits.specs.declared.why.Why.{Why}
use Rattle.flac_meta.specs.declared.block.Block.{Block}
use Rattle.flac_frame.specs.Frame.{Frame}
use Rattle.flac_native.specs.Item.{fault_pair}
use Rattle.flac_native.specs.Track.{is_going}
use Rattle.flac_native.specs.Giving.{Stage, stage_of}
use Rattle.flac_native.specs.declared.fault.Place.{Place}
use Rattle.flac_native.specs.declared.fault.Fault.{Fault}
use Rattle.flac_native.specs.declared.container.Container as container
use Rattle.flac_native.specs.declared.decoder.Decoder.{Decoder}
use Rattle.flac_reader.specs.Kept.{keeps}
use Rattle.flac_reader.specs.Coming.{Comes, FramesCome, IsCalm, IsPast, HadMemory, OfItems, stream_items}
use Rattle.flac_reader.specs.Starting.{and_block, and_blocks}
use Rattle.flac_reader.specs.declared.keep.Keep.{Keep}

-- A block was the first of what was to come, is kept if it is wanted, and its bytes are counted after those before; or
-- else a frame was, or the end, and is read ahead; or the stream is refused.
abbrev pub Took : {C : Type 0} → container.Ghosts C → Keep → List Block → List Frame → Option (Place × Why) → (old new : List Block) → (before now : ℕ) → Result Bool Fault → Stage C → Type 0
Took g keep blocks frames end old new before now (Ok true) s = (b : Block) × (rest : List Block) × (blocks ≡ b ∷ rest) × (new ≡ old ++ filter (keeps keep) (b ∷ [])) × (now ≡ and_block before b) × Comes g s (stream_items rest frames) end
Took g keep blocks frames end old new before now (Ok false) s = (blocks ≡ []) × (new ≡ old) × (now ≡ before) × FramesCome g true s frames end
Took g keep blocks frames end old new before now (Err f) s = (blocks ≡ []) × (frames ≡ []) × (end ≡ Some (fault_pair f))

-- the same of all that a decoder still has to return, if the source returned no error and memory did not run out
abbrev pub TakesItem : {C : Type 0} {g : container.Ghosts C} → (decoder now : Decoder C g) → Keep → (old new : List Block) → (before after : ℕ) → Result Bool Fault → Type 0
TakesItem {g = g} decoder now keep old new before after result =
    IsCalm g (stage_of decoder) (stage_of now) → HadMemory result → OfItems g (stage_of decoder) (λ blocks frames end. Took g keep blocks frames end old new before after result (stage_of now))

-- what is read after a block that is no block is after the last one
abbrev pub PassesBlocks : {C : Type 0} {g : container.Ghosts C} → (decoder now : Decoder C g) → Type 0
PassesBlocks decoder now = is_going (stage_of decoder).course ≡ true → IsPast (stage_of now)

-- the bytes of all blocks were counted
abbrev pub CountsBlocks : {C : Type 0} {g : container.Ghosts C} → (decoder now : Decoder C g) → (before after : ℕ) → Type 0
CountsBlocks {g = g} decoder now before after = IsCalm g (stage_of decoder) (stage_of now) → OfItems g (stage_of decoder) (λ blocks frames end. after ≡ and_blocks before blocks)
