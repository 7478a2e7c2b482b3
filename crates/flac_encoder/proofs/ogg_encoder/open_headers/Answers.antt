use Rattle.std.proofs.Common.{ap, ◌∙◌}
use Rattle.flac_bits.specs.Bits.{bits_of}
use Rattle.flac_encoder.specs.Pushing.{Shape, shape_of, open_info}
use Rattle.flac_ogg.proofs.Headed.{head_cut}
use Rattle.flac_encoder.proofs.PushedOgg.{zero_bytes}
use Rattle.flac_encoder.proofs.ogg_encoder.open_headers.Goals as goal

pub headers_of-requires : goal.headers_of-requires
headers_of-requires c =
    let shape : Shape = shape_of c.args.format.now in
    (head_cut (open_info shape) c.args.list.now c.as_slice.result.now zero_bytes (ap bits_of c.as_slice.ensures.value ∙ c.in_ok-head.ensures.head)).0

pub returns-in-Ok-clause-made : goal.returns-in-Ok-clause-made
returns-in-Ok-clause-made c =
    let shape : Shape = shape_of c.args.format.now in
    c.in-Ok.ensures.made (open_info shape) zero_bytes (ap bits_of c.as_slice.ensures.value ∙ c.in_ok-head.ensures.head)
