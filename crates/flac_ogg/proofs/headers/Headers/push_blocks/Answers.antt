use Rattle.std.proofs.Common.{◌≡◌, ◌<◌, ◌+◌, ◌++◌, ◌∷◌, [], List, Bool, length, take, None, nat_eq, sym, ap, subst, ◌∙◌, arith}
use Rattle.flac_bits.specs.Bits.{bits_of}
use Rattle.flac_meta.specs.Listed.{list_fault, info_seen}
use Rattle.flac_meta.specs.Spelling.{block_spelling}
use Rattle.flac_meta.specs.declared.block.Block.{Block}
use Rattle.flac_native.proofs.BlocksWritten.{each_written}
use Rattle.flac_ogg.specs.Headers.{AreHeaders}
use Rattle.flac_ogg.specs.Native.{block_spellings}
use Rattle.flac_ogg.proofs.Packing.{block_more, all_blocks}
use Rattle.flac_ogg.proofs.headers.Headers.push_blocks.Goals as goal

pub block_packet-requires : goal.block_packet-requires
block_packet-requires c =
    let bs : List Block = c.blocks-blocks.result.now in
    let lt : c.loop-i.i < length bs = omega (arith, c.loop-i-test.true) in
    let good : list_fault info_seen bs ≡ None = subst (λ l. list_fault info_seen l ≡ None) (sym c.blocks-blocks.ensures.items) c.blocks-blocks.ensures.good in
    each_written bs info_seen c.loop-i.i c.index-blocks-i.result good lt c.index-blocks-i.is

pub loop-i-preserved : goal.loop-i-preserved
loop-i-preserved c =
    let bs : List Block = c.blocks-blocks.result.now in
    let i = c.loop-i.i in
    let lt : i < length bs = omega (arith, c.loop-i-test.true) in
    let so_far : List (List Bool) = take i (block_spellings bs) in
    let text : List Bool = bits_of c.as_slice.result.now in
    let here : text ≡ block_spelling (nat_eq (i + 1) (length bs)) c.index-blocks-i.result = ap bits_of c.as_slice.ensures.value ∙ c.in_ok-packet.ensures.packet in
    let texts : so_far ++ text ∷ [] ≡ take (i + 1) (block_spellings bs) = ap (λ t. so_far ++ t ∷ []) here ∙ sym (block_more bs i c.index-blocks-i.result lt c.index-blocks-i.is) in
    record {
      few = omega (arith, lt);
      put = λ first h. subst (λ (t : List (List Bool)). AreHeaders (first ∷ t) c.push.new.self) texts (c.in_ok-push.ensures.put first so_far (c.loop-i.invariant.put first h));
      serial = c.in_ok-push.ensures.serial ∙ c.loop-i.invariant.serial;
    }

pub returns-clause-put : goal.returns-clause-put
returns-clause-put c = λ first h.
    let bs : List Block = c.blocks-blocks.result.now in
    let i = c.loop-i.i in
    let i_is : i ≡ length bs = omega (arith, c.loop-i-test.false, c.loop-i.invariant.few) in
    subst (λ (l : List Block). AreHeaders (first ∷ block_spellings l) c.loop-i.self) c.blocks-blocks.ensures.items
    (subst (λ (t : List (List Bool)). AreHeaders (first ∷ t) c.loop-i.self) (all_blocks bs i i_is) (c.loop-i.invariant.put first h))
