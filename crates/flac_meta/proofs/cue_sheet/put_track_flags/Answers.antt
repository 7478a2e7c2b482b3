use Rattle.std.proofs.Common.{◌≡◌, ℕ, ◌+◌, ◌*◌, ◌∷◌, [], ◌++◌, sym, ap, subst, ◌∙◌, append_assoc}
use Rattle.flac_bits.specs.Bits.{unsigned}
use Rattle.flac_bits.specs.Forms.{joined}
use Rattle.flac_bits.specs.Written.{Writes}
use Rattle.flac_meta.specs.Spelling.{zero_bits, each_spelled}
use Rattle.flac_meta.proofs.Steps.{zeros_are, zeros_first}
use Rattle.flac_meta.proofs.cue_sheet.put_track_flags.Goals as goal

-- the reserved bits as two fields
flags_are : (kind emphasis count : ℕ) → unsigned 1 kind ++ (unsigned 1 emphasis ++ (unsigned 46 0 ++ (unsigned 64 0 ++ (unsigned 8 count ++ []))))
    ≡ joined (unsigned 1 kind ∷ unsigned 1 emphasis ∷ zero_bits (6 + 8 * 13) ∷ unsigned 8 count ∷ [])
flags_are kind emphasis count =
    let zeros : zero_bits (6 + 8 * 13) ≡ unsigned 46 0 ++ unsigned 64 0 = zeros_first 110 ∙ ap (λ z. unsigned 46 0 ++ z) (sym (zeros_are 64)) in
    ap (λ z. unsigned 1 kind ++ (unsigned 1 emphasis ++ z)) (sym (append_assoc (unsigned 46 0) (unsigned 64 0) (unsigned 8 count ++ [])) ∙ ap (λ z. z ++ (unsigned 8 count ++ [])) (sym zeros))

pub returns : goal.returns
unfolding each_spelled
returns g c = rw (← c.flag-data.ensures.value, ← c.flag-emphasis.ensures.value, ← c.len-count.ensures)
    (subst (λ t. Writes t c.args.writer.now c.put_fields.new.writer c.put_fields.result) (flags_are c.flag-data.result c.flag-emphasis.result c.len-count.result) c.put_fields.ensures)
