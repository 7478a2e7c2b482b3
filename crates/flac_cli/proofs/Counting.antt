-- What a sink that counts has counted.
use Rattle.std.proofs.Common.{◌≡◌, ◌≤◌, ℕ, ◌+◌, List, [], ◌∷◌, ap, arith}
use Rattle.flac_native.specs.Stream.{Piece, marked, block, framed}
use Rattle.flac_bits.specs.Handing.{TakesAll}
use Rattle.flac_native.specs.Item.{Item}
use Rattle.flac_native.specs.Decoding.{taken}
use Rattle.flac_cli.specs.Counted.{frames_in, samples_in_all, printed}
use Rattle.flac_cli.specs.inner.Taking.{frames_after, samples_after}

-- A count goes on where it stopped.
more_counted : (n k rest total : ℕ) → total ≡ printed (printed (n + k) + rest) → total ≡ printed (n + (rest + k))
more_counted n k rest total e = omega (arith, e)

module _ {S : Type 0} (frames samples : S → ℕ) where
  -- what such a sink makes of an item
  abbrev pub Counts : S → Item → S → Type 0
  Counts s x t = record {
    frames : frames t ≡ frames_after (frames s) x;
    samples : samples t ≡ samples_after (samples s) x;
  }

  -- It has counted the frames of all parts, and their samples.
  pub all_counted : (old : S) (xs : List Piece) (new : S) → TakesAll (taken Counts) old xs new → frames old ≤ 18446744073709551615 → samples old ≤ 18446744073709551615
      → (frames new ≡ printed (frames old + frames_in xs)) × (samples new ≡ printed (samples old + samples_in_all xs))
  all_counted old [] new h f s =
      let a = ap frames h in
      let b = ap samples h in
      (omega (arith, a, f), omega (arith, b, s))
  all_counted old (marked ∷ xs) new h f s =
      let a = ap frames h.1 in
      let b = ap samples h.1 in
      let more = all_counted h.0 xs new h.2 (omega (arith, a, f)) (omega (arith, b, s)) in
      let m = more.0 in
      let n = more.1 in
      (omega (arith, a, m), omega (arith, b, n))
  all_counted old (block last b ∷ xs) new h f s =
      let a = h.1.frames in
      let c = h.1.samples in
      let more = all_counted h.0 xs new h.2 (omega (arith, a, f)) (omega (arith, c, s)) in
      let m = more.0 in
      let n = more.1 in
      (omega (arith, a, m), omega (arith, c, n))
  all_counted old (framed g ∷ xs) new h f s =
      let a = h.1.frames in
      let c = h.1.samples in
      let more = all_counted h.0 xs new h.2 (omega (arith, a)) (omega (arith, c)) in
      let m = more.0 in
      let n = more.1 in
      (more_counted (frames old) 1 (frames_in xs) (frames new) (omega (arith, a, m)), more_counted (samples old) g.size (samples_in_all xs) (samples new) (omega (arith, c, n)))

  -- So has one that began at 0.
  pub counted_from_none : (old : S) (xs : List Piece) (new : S) → TakesAll (taken Counts) old xs new → frames old ≡ 0 → samples old ≡ 0
      → (frames new ≡ printed (frames_in xs)) × (samples new ≡ printed (samples_in_all xs))
  counted_from_none old xs new h f s =
      let all = all_counted old xs new h (omega (arith, f)) (omega (arith, s)) in
      let m = all.0 in
      let n = all.1 in
      (omega (arith, f, m), omega (arith, s, n))
