use Rattle.std.proofs.Common.{◌∷◌, ◌++◌, ◌∙◌, ap, subst, sym, refl, Bool, List, length}
use Rattle.std.proofs.lemmas.List.{append-nil}
use Rattle.flac_bits.specs.Bits.{bits_of, is_nil}
use Rattle.flac_meta.specs.Spelling.{block_spelling}
use Rattle.flac_meta.specs.declared.block.Block.TheVariants as block_of
use Rattle.flac_ogg.specs.Headers.{AreHeaders}
use Rattle.flac_ogg.specs.Native.{mapping_spelling, block_spellings}
use Rattle.flac_ogg.specs.Writing.{header_count}
use Rattle.flac_ogg.proofs.Whole.{first_text}
use Rattle.flac_ogg.proofs.headers.header_packets.Goals as goal

pub returns-clause-made : goal.returns-clause-made
returns-clause-made c =
    let list = c.args.list.now in
    let info = c.args.info in
    let text = bits_of c.as_slice.result.now in
    let first : List Bool = mapping_spelling (header_count (length list)) ++ block_spelling (is_nil list) (block_of.StreamInfo info) in
    let is = first_text c.blocks-blocks.result.now list info info text c.blocks-blocks.ensures.items refl (ap bits_of c.as_slice.ensures.value ∙ c.in_ok-first.ensures.packet) in
    subst (λ (t : List (List Bool)). AreHeaders t c.push_blocks.new.self) (ap (λ (t : List Bool). t ∷ block_spellings list) is ∙ ap (λ (t : List (List Bool)). first ∷ t) (sym (append-nil (block_spellings list))))
    (c.in_ok-push_blocks.ensures.put text c.in_ok-headers.ensures.made)
