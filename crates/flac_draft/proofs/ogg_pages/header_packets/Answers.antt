use Rattle.std.proofs.Common.{rules, ◌≡◌, ℕ, ◌++◌, List, [], ap, ◌∙◌}
use Rattle.std.proofs.lemmas.List.{append-nil}
use Rattle.flac_bits.specs.Bits.{bits_of}
use Rattle.flac_native.specs.Writing.{head_spelling}
use Rattle.flac_ogg.proofs.Headed.{head_cut}
use Rattle.flac_info.specs.Info.{Info}
use Rattle.flac_meta.specs.declared.block.Block.{Block}
use Rattle.flac_meta.specs.declared.seek_table.SeekPoint.{SeekPoint}
use Rattle.flac_native.specs.Seeking.{table_of}
use Rattle.flac_draft.proofs.ogg_pages.header_packets.Goals as goal

-- a head without a seek table
bare : (info : Info) (list : List Block) (points : List SeekPoint) (head : List ℕ) → points ≡ [] → bits_of head ≡ head_spelling info (list ++ table_of points) → bits_of head ≡ head_spelling info list
bare info list points head none is = is ∙ ap (λ (x : List SeekPoint). head_spelling info (list ++ table_of x)) none ∙ ap (head_spelling info) (append-nil list)

pub headers_of-requires : goal.headers_of-requires
headers_of-requires c =
    let head = bare c.args.info c.args.list.now c.new.result.items c.in-Some.head.items (search rules) c.in-Some.ensures in
    (head_cut c.args.info c.args.list.now c.as_slice.result.now c.requires (ap bits_of c.as_slice.ensures.value ∙ head)).0

pub returns-in-Ok-clause-made : goal.returns-in-Ok-clause-made
returns-in-Ok-clause-made c =
    let head = bare c.args.info c.args.list.now c.new.result.items c.in-Some.head.items (search rules) c.in-Some.ensures in
    c.in-Ok.ensures.made c.args.info c.requires (ap bits_of c.as_slice.ensures.value ∙ head)
