use Rattle.std.proofs.Common.{◌≡◌, ◌+◌, ◌<◌, ◌≤◌, true, ℕ, is_some, Result, Ok, Err, refl, ap, ◌∙◌, arith, rules}
use Rattle.std.proofs.lemmas.Result.{err_from_is_err_and}
use Rattle.flac_bits.specs.State.{Cursor, started}
use Rattle.flac_bits.specs.Fence.{fenced, unfenced}
use Rattle.flac_bits.specs.Fencing.{lifted}
use Rattle.flac_bits.specs.Layout.{Reason, and_then, run}
use Rattle.flac_frame.specs.Frame.{Frame}
use Rattle.flac_native.specs.Stream.{Piece, framed, frame_after}
use Rattle.flac_native.specs.Track.{stand_of}
use Rattle.flac_native.specs.declared.track.Track.{Track}
use Rattle.flac_ogg.proofs.packets.read_frame.Goals as goal

-- the bits that can still come
fewer : (old new : ℕ) → new + 40 ≤ old → new < old
fewer old new h = omega arith

-- what is known is of a format
format_known : (t : Track) → is_some (stand_of t).info ≡ true → is_some t.format ≡ true
format_known t h = search rules

abbrev as_piece : Frame → Cursor → Result (Piece × Cursor) Reason
as_piece f d = Ok (framed f, d)

abbrev placed : {A : Type 0} → (Cursor → Cursor) → A → Cursor → Result (A × Cursor) Reason
placed u x d = Ok (x, u d)

-- a frame that is read within a room, as an item
piece_within : (read : Result (Frame × Cursor) Reason) (u : Cursor → Cursor) → and_then (and_then read as_piece) (placed u) ≡ and_then (and_then read (placed u)) as_piece
piece_within (Ok x) u = refl
piece_within (Err e) u = refl

piece_is : {answer : Result (Frame × Cursor) Reason} (read : Result (Frame × Cursor) Reason) (u : Cursor → Cursor) → and_then read (placed u) ≡ answer → and_then (and_then read as_piece) (placed u) ≡ and_then answer as_piece
piece_is read u h = piece_within read u ∙ ap (λ r. and_then r as_piece) h

pub returns-in_err-frame_by_layout : goal.returns-in_err-frame_by_layout
returns-in_err-frame_by_layout g c =
    let p = err_from_is_err_and c.from_residual.result c.from_residual.ensures.1 in
    let reading = c.in_err-frame_by_layout.ensures.reading in
    let s = stand_of c.args.track.now in
    let at = (started (lifted c.args.bits.now)).cursor in
    rw (p.1, p.2) (record {
      spends = tt;
      memory = reading.memory;
      counts = reading.counts;
      reads = λ known same. piece_is (run (frame_after s.profile s.info s.before) (fenced 16777215 at)) (unfenced 16777215 at) (reading.reads known same);
      made = tt;
      ordered = tt;
      next = tt;
    })

pub returns : goal.returns
returns g c =
    let ok = c.in_ok-frame_by_layout.ensures in
    let s = stand_of c.args.track.now in
    let at = (started (lifted c.args.bits.now)).cursor in
    record {
      spends = fewer _ _ ok.reading.spends;
      memory = tt;
      counts = ok.reading.counts;
      reads = λ known same. piece_is (run (frame_after s.profile s.info s.before) (fenced 16777215 at)) (unfenced 16777215 at) (ok.reading.reads known same);
      made = format_known c.frame_by_layout.new.track ok.made;
      ordered = λ is. (is, ok.phase ∙ is);
      next = ok.next;
    }
