use Rattle.std.proofs.Common.{◌++◌, []}
use Rattle.std.proofs.lemmas.Result.{err_from_is_err_and}
use Rattle.flac_bits.specs.Bits.{bits_of}
use Rattle.flac_bits.proofs.Writing.{towards_start, towards_more, towards_fail}
use Rattle.flac_meta.specs.Spelling.{info_spelling}
use Rattle.flac_meta.proofs.Infos.{fields_of}
use Rattle.flac_meta.proofs.Steps.{fields_are, towards_done}
use Rattle.flac_meta.proofs.stream_info.put_info.Goals as goal

pub returns-in_err-put_fields : goal.returns-in_err-put_fields
unfolding info_spelling
returns-in_err-put_fields g c =
    let p = err_from_is_err_and c.from_residual.result c.from_residual.ensures.1 in
    let rest = bits_of c.args.info.now.digest ++ [] in
    let fields = fields_of c.args.info.now rest c.least_block.ensures.value c.greatest_block.ensures.value c.least_frame.ensures.value c.greatest_frame.ensures.value c.rate.ensures.value c.channels.ensures.value c.depth.ensures.value c.total.ensures.value in
    rw (p.1, p.2) (towards_fail _ rest (fields_are _ rest _ fields) (towards_start _ c.args.writer.now) c.in_err-put_fields.ensures)

pub returns : goal.returns
unfolding info_spelling
returns g c =
    let digest = c.args.info.now.digest in
    let rest = bits_of digest ++ [] in
    let fields = fields_of c.args.info.now rest c.least_block.ensures.value c.greatest_block.ensures.value c.least_frame.ensures.value c.greatest_frame.ensures.value c.rate.ensures.value c.channels.ensures.value c.depth.ensures.value c.total.ensures.value in
    towards_done (bits_of digest) c.put_bytes.new.self c.put_bytes.result (towards_more rest (fields_are _ rest _ fields) (towards_start _ c.args.writer.now) c.in_ok-put_fields.ensures) (rw (← c.digest.ensures.value) c.put_bytes.ensures)
