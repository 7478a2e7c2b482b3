use Rattle.std.proofs.Common.{ℕ, List, [], ◌∷◌, ◌++◌, length, take, ap, ◌∙◌}
use Rattle.std.specs.Int.{to_le_bytes, w32}
use Rattle.flac_bits.specs.Bits.{bits_of}
use Rattle.flac_bits.specs.Check.{fed}
use Rattle.flac_around.proofs.PageChecks.{check_is, all_taken}
use Rattle.flac_around.proofs.page_parts.checksum.Goals as goal

pub returns : goal.returns
returns c =
    let lead = c.args.lead.now in
    check_is lead c.args.body.now c.head_bytes-head.result c.crc32_after-check.result c.crc32_after-check-2.result c.crc32_after.result
    (c.head_bytes-head.ensures ∙ ap (λ (l : List ℕ). take 22 lead ++ (to_le_bytes w32 0 ++ length l ∷ [])) (all_taken 27 lead))
    c.crc32_after-check.ensures
    (c.crc32_after-check-2.ensures ∙ ap (λ (l : List ℕ). fed 32 79764919 c.crc32_after-check.result (bits_of l)) (all_taken 27 lead))
    c.crc32_after.ensures
