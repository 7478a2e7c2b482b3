use Rattle.std.proofs.Common.{◌+◌, ◌*◌, ◌∷◌, [], length, refl}
use Rattle.std.proofs.lemmas.Result.{err_from_is_err_and}
use Rattle.flac_bits.specs.Bits.{unsigned, bits_of, bit_value}
use Rattle.flac_bits.specs.Forms.{joined}
use Rattle.flac_bits.proofs.Writing.{towards_start, towards_more, towards_fail}
use Rattle.flac_meta.specs.Spelling as s
use Rattle.flac_meta.proofs.Steps.{joined_two, towards_done}
use Rattle.flac_meta.proofs.cue_sheet.put_sheet.Goals as goal

pub returns-in_err-put_sheet_front : goal.returns-in_err-put_sheet_front
unfolding s.sheet_spelling
returns-in_err-put_sheet_front g c =
    let p = err_from_is_err_and c.from_residual.result c.from_residual.ensures.1 in
    rw (p.1, p.2, ← c.as_slice-tracks.ensures) (towards_fail _ (joined (unsigned 8 (length c.as_slice-tracks.result.now) ∷ s.each_spelled s.track_spelling c.as_slice-tracks.result.now ∷ [])) (joined_two (bits_of c.args.sheet.now.catalogue ∷ unsigned 64 c.args.sheet.now.lead_in ∷ unsigned 1 (bit_value c.args.sheet.now.cd) ∷ s.zero_bits (7 + 8 * 258) ∷ []) (unsigned 8 (length c.as_slice-tracks.result.now) ∷ s.each_spelled s.track_spelling c.as_slice-tracks.result.now ∷ [])) (towards_start _ c.args.writer.now) c.in_err-put_sheet_front.ensures)

pub returns-in_err-put : goal.returns-in_err-put
unfolding s.sheet_spelling
returns-in_err-put g c =
    let p = err_from_is_err_and c.from_residual-in_err-put.result c.from_residual-in_err-put.ensures.1 in
    rw (p.1, p.2, ← c.as_slice-tracks.ensures) (towards_fail _ (joined (s.each_spelled s.track_spelling c.as_slice-tracks.result.now ∷ [])) refl (towards_more (joined (unsigned 8 (length c.as_slice-tracks.result.now) ∷ s.each_spelled s.track_spelling c.as_slice-tracks.result.now ∷ [])) (joined_two (bits_of c.args.sheet.now.catalogue ∷ unsigned 64 c.args.sheet.now.lead_in ∷ unsigned 1 (bit_value c.args.sheet.now.cd) ∷ s.zero_bits (7 + 8 * 258) ∷ []) (unsigned 8 (length c.as_slice-tracks.result.now) ∷ s.each_spelled s.track_spelling c.as_slice-tracks.result.now ∷ [])) (towards_start _ c.args.writer.now) c.in_ok-put_sheet_front.ensures) c.in_err-put.ensures)

pub returns : goal.returns
unfolding s.sheet_spelling
returns g c = rw (← c.as_slice-tracks.ensures) (towards_done (s.each_spelled s.track_spelling c.as_slice-tracks.result.now) c.put_tracks.new.writer c.put_tracks.result (towards_more (joined (s.each_spelled s.track_spelling c.as_slice-tracks.result.now ∷ [])) refl (towards_more (joined (unsigned 8 (length c.as_slice-tracks.result.now) ∷ s.each_spelled s.track_spelling c.as_slice-tracks.result.now ∷ [])) (joined_two (bits_of c.args.sheet.now.catalogue ∷ unsigned 64 c.args.sheet.now.lead_in ∷ unsigned 1 (bit_value c.args.sheet.now.cd) ∷ s.zero_bits (7 + 8 * 258) ∷ []) (unsigned 8 (length c.as_slice-tracks.result.now) ∷ s.each_spelled s.track_spelling c.as_slice-tracks.result.now ∷ [])) (towards_start _ c.args.writer.now) c.in_ok-put_sheet_front.ensures) c.in_ok-put.ensures) c.put_tracks.ensures)
