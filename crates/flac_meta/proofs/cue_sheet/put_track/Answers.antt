use Rattle.std.proofs.Common.{◌+◌, ◌*◌, ◌++◌, List, Bool, ◌∷◌, [], length, not}
use Rattle.std.proofs.lemmas.Result.{err_from_is_err_and}
use Rattle.flac_bits.specs.Bits.{unsigned, bits_of, bit_value}
use Rattle.flac_bits.specs.Forms.{joined}
use Rattle.flac_bits.proofs.Writing.{towards_start, towards_more, towards_fail}
use Rattle.flac_meta.specs.Spelling as s
use Rattle.flac_meta.specs.declared.cue_sheet.CueTrack.{CueTrack}
use Rattle.flac_meta.proofs.Steps.{joined_two, towards_done}
use Rattle.flac_meta.proofs.cue_sheet.put_track.Goals as goal

-- the pieces of a track in three parts
abbrev front : CueTrack → List (List Bool)
front t = unsigned 64 t.offset ∷ unsigned 8 t.number ∷ bits_of t.isrc ∷ []

abbrev flags : CueTrack → List (List Bool)
flags t = unsigned 1 (bit_value (not t.audio)) ∷ unsigned 1 (bit_value t.pre_emphasis) ∷ s.zero_bits (6 + 8 * 13) ∷ unsigned 8 (length t.indices) ∷ []

abbrev points : CueTrack → List (List Bool)
points t = s.each_spelled s.index_spelling t.indices ∷ []

pub returns-in_err-put_track_front : goal.returns-in_err-put_track_front
unfolding s.track_spelling
returns-in_err-put_track_front g c =
    let p = err_from_is_err_and c.from_residual.result c.from_residual.ensures.1 in
    let t = c.args.track.now in
    rw (p.1, p.2) (towards_fail _ (joined (flags t ++ points t)) (joined_two (front t) (flags t ++ points t)) (towards_start _ c.args.writer.now) c.in_err-put_track_front.ensures)

pub returns-in_err-put_track_flags : goal.returns-in_err-put_track_flags
unfolding s.track_spelling
returns-in_err-put_track_flags g c =
    let p = err_from_is_err_and c.from_residual-in_err-put_track_flags.result c.from_residual-in_err-put_track_flags.ensures.1 in
    let t = c.args.track.now in
    rw (p.1, p.2) (towards_fail _ (joined (points t)) (joined_two (flags t) (points t))
    (towards_more (joined (flags t ++ points t)) (joined_two (front t) (flags t ++ points t)) (towards_start _ c.args.writer.now) c.in_ok-put_track_front.ensures) c.in_err-put_track_flags.ensures)

pub returns : goal.returns
unfolding s.track_spelling
returns g c =
    let t = c.args.track.now in
    towards_done (s.each_spelled s.index_spelling t.indices) c.put_indices.new.writer c.put_indices.result
    (towards_more (joined (points t)) (joined_two (flags t) (points t))
    (towards_more (joined (flags t ++ points t)) (joined_two (front t) (flags t ++ points t)) (towards_start _ c.args.writer.now) c.in_ok-put_track_front.ensures) c.in_ok-put_track_flags.ensures)
    (rw c.as_slice.ensures at c.put_indices.ensures)
