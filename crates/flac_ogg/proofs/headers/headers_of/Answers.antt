use Rattle.std.proofs.Common.{◌∷◌, [], subst, take}
use Rattle.flac_bits.specs.Bits.{bits_of}
use Rattle.flac_ogg.specs.Headers.{AreHeaders}
use Rattle.flac_ogg.proofs.Headed.{all_headers, same_count}
use Rattle.flac_ogg.proofs.headers.headers_of.Goals as goal

pub returns-clause-made : goal.returns-clause-made
returns-clause-made c = λ info digest is.
    let first = c.in_ok-first.first.items in
    let one = subst (λ b. AreHeaders (bits_of b ∷ []) c.in_ok-headers.headers) c.as_slice.ensures.value c.in_ok-headers.ensures.made in
    let all = c.in_ok-push_blocks.ensures.put (bits_of first) one in
    let text = c.in_ok-first.ensures.packet in
    all_headers info c.args.list.now c.args.head.now first c.push_blocks.new.self digest is (same_count c.blocks-blocks.result.now c.args.list.now (take 42 c.args.head.now) first c.blocks-blocks.ensures.items text) all
