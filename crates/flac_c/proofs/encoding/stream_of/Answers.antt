use Rattle.std.proofs.Common.{◌≡◌, ◌⊎◌, ℕ, List, Option, Some, Ok, Err, ap, sym, subst, inl, inr, ◌∙◌}
use Rattle.flac_bits.specs.Reasons.{number_of}
use Rattle.flac_bits.specs.declared.why.Why.{Why}
use Rattle.flac_meta.specs.declared.block.Block.{Block}
use Rattle.flac_frame.specs.Audio.{Sound}
use Rattle.flac_native.specs.Given.{Cut}
use Rattle.flac_ogg.specs.RoundTrip.{EncodedBytes}
use Rattle.flac_c.specs.Encoded.{stream_fault, blocks_of, IsSearched}
use Rattle.flac_c.proofs.Encodings.{refused_plan, refused_list, accepted, refused}
use Rattle.flac_c.proofs.Searched.{mapping_same, repeated_same}
use Rattle.flac_c.proofs.encoding.stream_of.Goals as goal

pub returns-in-Err-clause-refused : goal.returns-in-Err-clause-refused
returns-in-Err-clause-refused c = inr (refused_plan _ _ _ c.in-Err.fault c.in-Err.ensures.made ∙ ap Some (sym (c.from.ensures ∙ c.number.ensures)))

pub returns-in-Err-blocks_of-clause-refused : goal.returns-in-Err-blocks_of-clause-refused
returns-in-Err-blocks_of-clause-refused c =
    subst (λ n. (n ≡ 2) ⊎ (stream_fault c.args.settings.now c.args.tags.now c.args.audio.now ≡ Some n)) (sym (c.from-in-Err-blocks_of.ensures ∙ c.number-in-Err-blocks_of.ensures))
    (refused_list _ _ _ c.in-Ok.plan c.in-Ok.ensures.made c.block_size-good.ensures.good c.in-Err-blocks_of.why c.in-Err-blocks_of.ensures.refused)

pub returns-in-Ok-encode_and_decode-clause-accepted : goal.returns-in-Ok-encode_and_decode-clause-accepted
returns-in-Ok-encode_and_decode-clause-accepted c =
    accepted _ _ _ c.in-Ok.plan c.in-Ok.ensures.made c.block_size-good.ensures.good c.in-Ok-blocks_of.ensures.accepted c.serial_of.result c.serial_of.ensures c.in-Ok-blocks_of.list c.in-Ok-blocks_of.ensures.blocks
    (Ok c.in-Ok-encode_and_decode.stream) (mapping_same _ _ _ c.in-Ok-searched.ensures.searched c.serial_of.result c.in-Ok-blocks_of.list c.in-Ok-encode_and_decode.ensures.mapping)

pub returns-clause-refused : goal.returns-clause-refused
returns-clause-refused c =
    subst (λ n. (n ≡ 2) ⊎ (stream_fault c.args.settings.now c.args.tags.now c.args.audio.now ≡ Some n)) (sym (c.from-in-Err-encode_and_decode.ensures ∙ c.number-in-Err-encode_and_decode.ensures))
    (refused _ _ _ c.in-Ok.plan c.in-Ok.ensures.made c.block_size-good.ensures.good c.in-Ok-blocks_of.ensures.accepted c.serial_of.result c.serial_of.ensures c.in-Ok-blocks_of.list c.in-Ok-blocks_of.ensures.blocks
    (Err c.in-Err-encode_and_decode.fault) (mapping_same _ _ _ c.in-Ok-searched.ensures.searched c.serial_of.result c.in-Ok-blocks_of.list c.in-Err-encode_and_decode.ensures.mapping) (repeated_same _ _ _ c.in-Ok-searched.ensures.searched c.serial_of.result c.in-Ok-blocks_of.list c.in-Err-encode_and_decode.ensures.repeated) c.in-Err-encode_and_decode.ensures.write c.in-Err-encode_and_decode.ensures.whole)

pub returns-in-Ok-encode_and_decode-clause-encoded : goal.returns-in-Ok-encode_and_decode-clause-encoded
returns-in-Ok-encode_and_decode-clause-encoded c =
    let tried : Cut = c.in-Ok-searched.tried in
    let a : Sound = c.args.audio.now in
    let stream : List ℕ = c.in-Ok-encode_and_decode.stream.items in
    let searched = subst (λ (p : Cut). IsSearched c.args.effort p tried) c.in-Ok.ensures.made c.in-Ok-searched.ensures.searched in
    let by_list = subst (λ (l : List Block). EncodedBytes c.serial_of.result tried l a stream) c.in-Ok-blocks_of.ensures.blocks c.in-Ok-encode_and_decode.ensures.encoded in
    (tried, searched, subst (λ (n : Option ℕ). EncodedBytes n tried (blocks_of c.args.tags.now) a stream) c.serial_of.ensures by_list)

pub returns-in-Err-searched-clause-refused : goal.returns-in-Err-searched-clause-refused
returns-in-Err-searched-clause-refused c = inl (c.from-in-Err-searched.ensures ∙ c.number-in-Err-searched.ensures ∙ ap (λ (w : Why). number_of w) c.in-Err-searched.ensures.memory)
