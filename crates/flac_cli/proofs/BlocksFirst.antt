-- In a stream no block comes after a frame.
use Rattle.std.proofs.Common.{Bool, true, false, List, [], ◌∷◌, ◌++◌, map, refl, sym, subst}
use Rattle.flac_bits.specs.State.{Mark}
use Rattle.flac_meta.specs.declared.block.Block.{Block}
use Rattle.flac_meta.specs.declared.block.Block.TheVariants.{StreamInfo}
use Rattle.flac_header.specs.declared.subset.Profile.{Profile}
use Rattle.flac_frame.specs.Frame.{Frame}
use Rattle.flac_native.specs.Given.{closing}
use Rattle.flac_native.specs.Stream.{Piece, framed, grammar, opening}
use Rattle.flac_native.proofs.Whole.{streams_are_whole}
use Rattle.flac_bits.specs.Items.{Stream}
use Rattle.flac_ogg.specs.Either.{read_either}
use Rattle.flac_ogg.proofs.NativeItems.{ogg_streams_are_streams}
use Rattle.flac_cli.proofs.Waving.{Ordered}

frames_ordered : (begun : Bool) (fs : List Frame) → Ordered begun (map framed fs)
frames_ordered begun [] = tt
frames_ordered begun (f ∷ fs) = frames_ordered true fs

-- blocks, and then frames
pub blocks_ordered : (bs : List Block) (fs : List Frame) → Ordered false (closing bs ++ map framed fs)
blocks_ordered [] fs = frames_ordered false fs
blocks_ordered (b ∷ bs) fs = (refl, blocks_ordered bs fs)

native_ordered : (profile : Profile) (m : Mark) (items : List Piece) (text : List Bool) → Stream grammar (opening profile) m items text → Ordered false items
native_ordered profile m items text s =
    let w = (streams_are_whole profile m items text).0 s in
    subst (λ l. Ordered false l) (sym w.parts) (blocks_ordered (StreamInfo w.info ∷ w.list) w.frames)

pub stream_ordered : (profile : Profile) (is_ogg : Bool) (m : Mark) (items : List Piece) (text : List Bool) → (read_either profile is_ogg m text).whole items → Ordered false items
stream_ordered profile true m items text o = native_ordered profile _ _ _ (ogg_streams_are_streams profile m items text o)
stream_ordered profile false m items text s = native_ordered profile m items text s
