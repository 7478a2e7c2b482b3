use Rattle.std.proofs.Common.{◌≡◌, ℕ, ◌+◌, ◌-◌, ◌*◌, ◌^◌, ◌<◌, ◌≤◌, ◌++◌, ◌∷◌, [], length, Fits, w32, refl, ap, arith}
use Rattle.std.proofs.lemmas.Result.{err_from_is_err_and}
use Rattle.flac_bits.specs.State.{Cursor}
use Rattle.flac_bits.specs.Layout.{run, and_then}
use Rattle.flac_bits.specs.Lists.{after}
use Rattle.flac_bits.proofs.Loops.{goes_on}
use Rattle.flac_bits.proofs.Counting.{gone, answered_then, failed_then, refused_then}
use Rattle.flac_bits.proofs.Telling.{gone_fault}
use Rattle.flac_meta.specs.CueSheet.{cue_track, cue_tracks}
use Rattle.flac_meta.specs.declared.cue_sheet.CueTrack.{CueTrack}
use Rattle.flac_meta.proofs.Exits.{had_room, same_room, less_left, spends_turn, spends_none, gone_is}
use Rattle.flac_meta.proofs.Turns.{tracks_more, tracks_same, tracks_last, tracks_left}
use Rattle.flac_meta.proofs.cue_sheet.read_tracks.Goals as goal

-- the bytes of a track that was read
track_fits : (n own left : ℕ) → n ≡ own → 36 + 12 * own ≤ left → 36 + 12 * n ≤ left
track_fits n own left is fits = omega arith

few_left : (left most : ℕ) → left ≤ most → most < 2 ^ 24 → left < 2 ^ 24
few_left left most le few = omega arith

size_fits : (n left most : ℕ) → 36 + 12 * n ≤ left → left ≤ most → most < 2 ^ 24 → Fits w32 (36 + 12 * n)
size_fits n left most fits le few = omega arith

indices_fit : (n left most : ℕ) → 36 + 12 * n ≤ left → left ≤ most → most < 2 ^ 24 → Fits w32 (12 * n)
indices_fit n left most fits le few = omega arith

number_fits : (n left most : ℕ) → 36 + 12 * n ≤ left → left ≤ most → most < 2 ^ 24 → Fits w32 n
number_fits n left most fits le few = omega arith

pub read_track-requires : goal.read_track-requires
read_track-requires g c = few_left _ _ c.loop-i.invariant.0 c.requires

pub overflow_cast-left : goal.overflow_cast-left
overflow_cast-left g c = number_fits _ _ _ (track_fits _ _ _ (ap length c.as_slice.ensures) c.in_ok-track.ensures.fits) c.loop-i.invariant.0 c.requires

pub overflow_mul-left : goal.overflow_mul-left
overflow_mul-left g c = indices_fit _ _ _ (track_fits _ _ _ (ap length c.as_slice.ensures) c.in_ok-track.ensures.fits) c.loop-i.invariant.0 c.requires

pub overflow_add-left : goal.overflow_add-left
overflow_add-left g c = size_fits _ _ _ (track_fits _ _ _ (ap length c.as_slice.ensures) c.in_ok-track.ensures.fits) c.loop-i.invariant.0 c.requires

pub overflow_sub-left : goal.overflow_sub-left
overflow_sub-left g c = track_fits _ _ _ (ap length c.as_slice.ensures) c.in_ok-track.ensures.fits

pub returns-in_err-track : goal.returns-in_err-track
returns-in_err-track g c =
    let p = err_from_is_err_and c.from_residual.result c.from_residual.ensures.1 in
    let e = c.in_err-track.ensures.reading in
    rw (p.1, p.2) (record {
      reading = record {
        spends = tt;
        counts = failed_then c.args.bits.now c.loop-i.bits c.read_track.new.bits (gone c.loop-i.invariant.2) e.counts;
        reads = (λ room. gone_fault c.args.bits.now c.loop-i.bits c.read_track.new.bits _ c.loop-i.invariant.2
            (tracks_more c.args.count c.loop-i.i c.loop-i.left c.loop-i.bits.cursor c.loop-i.tracks.items c.loop-i-test.true) (e.reads (same_room room)));
      };
    })

pub loop-i-preserved : goal.loop-i-preserved
loop-i-preserved g c =
    let t = c.in_ok-track.ensures.reading in
    let new = c.read_track.new.bits in
    let more : CueTrack → Cursor → _ = λ x d. and_then (run (cue_tracks (c.args.count - (c.loop-i.i + 1)) (c.loop-i.left - (36 + 12 * length x.indices))) d) (after (c.loop-i.tracks.items ++ x ∷ [])) in (
      less_left c.loop-i.left c.args.left (36 + 12 * length c.as_slice.result.now) c.loop-i.invariant.0,
      spends_turn 0 c.args.bits.now.most c.loop-i.bits.most new.most c.loop-i.invariant.1 t.spends,
      goes_on c.args.bits.now c.loop-i.bits new (run (cue_track c.loop-i.left) c.loop-i.bits.cursor) c.in_ok-track.track more _ _ _
          c.loop-i.invariant.2 (tracks_more c.args.count c.loop-i.i c.loop-i.left c.loop-i.bits.cursor c.loop-i.tracks.items c.loop-i-test.true)
          (tracks_same (c.args.count - (c.loop-i.i + 1)) c.loop-i.left (length c.as_slice.result.now) new.cursor c.loop-i.tracks.items c.push.new.self.items c.in_ok-track.track (ap length c.as_slice.ensures) c.in_ok-push.ensures.items)
          t.counts (t.reads had_room),
    )

pub returns : goal.returns
returns g c = record {
  reading = record {
    spends = spends_none c.args.bits.now.most c.loop-i.bits.most c.loop-i.invariant.1;
    counts = gone c.loop-i.invariant.2;
    reads = (λ room. gone_is c.args.bits.now c.loop-i.bits c.loop-i.invariant.2
        (tracks_last c.args.count c.loop-i.i c.loop-i.left c.loop-i.bits.cursor c.loop-i.tracks.items c.from_vec.result c.loop-i-test.false c.if-left-ne0.false c.from_vec.ensures));
  };
}

pub returns-in_err-push : goal.returns-in_err-push
returns-in_err-push g c =
    let p = err_from_is_err_and c.from_residual-in_err-push.result c.from_residual-in_err-push.ensures.1 in
    rw (p.1, p.2) (record {
      reading = record {
        spends = tt;
        counts = refused_then c.args.bits.now c.read_track.new.bits (answered_then c.args.bits.now c.loop-i.bits c.read_track.new.bits (gone c.loop-i.invariant.2) c.in_ok-track.ensures.reading.counts) refl;
        reads = (λ room. absurd (room refl));
      };
    })

pub returns-then-left-ne0 : goal.returns-then-left-ne0
returns-then-left-ne0 g c = record {
  reading = record {
    spends = tt;
    counts = refused_then c.args.bits.now c.loop-i.bits (gone c.loop-i.invariant.2) refl;
    reads = (λ room. gone_is c.args.bits.now c.loop-i.bits c.loop-i.invariant.2
        (tracks_left c.args.count c.loop-i.i c.loop-i.left c.loop-i.bits.cursor c.loop-i.tracks.items c.loop-i-test.false c.if-left-ne0.true));
  };
}
